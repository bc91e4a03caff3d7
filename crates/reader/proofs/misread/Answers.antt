-- `reader::misread` meets its contract: what is wrong with the list is wrong with what is left of it, until a
-- symbol is wrong where it stands, or none is left.
use mathlib.Core.Path.{◌≡◌, sym, ap, ◌∙◌}
use mathlib.Core.Bool.{Bool, ◌||◌}
use mathlib.Core.List.{List}
use Prim.Native.Nat.{ℕ, suc, ◌+◌, ◌-◌, ◌<◌}
use native.Mathlib.Omega.{arith}
use lib.Dec.{eqb}
use lib.ListN.{length, get_or, drop}
use Rattle.runs.specs.declared.Symbol.{Symbol}
use Rattle.runs.specs.Packing.{run_bits, unpacked}
use Rattle.runs.specs.Runs.{misread}
use Rattle.runs.specs.Inner.Front.{wrong_here}
use Rattle.reader.proofs.Wrong.{right_run}
use Rattle.reader.proofs.Front.{misread_from, nothing_left}
use Rattle.reader.proofs.misread.Goals as goal

-- what is wrong behind the number that a turn looks at
abbrev behind : (left i : ℕ) → List ℕ → Bool
behind left i list = misread run_bits (left - suc (unpacked run_bits (get_or list i 0)).run) (drop (i + 1) list)

-- what is wrong with the list: the symbol here, or what is behind it
step : (n left i : ℕ) (list : List ℕ) (wrong : Bool) → i < length list
    → misread run_bits n list ≡ misread run_bits left (drop i list)
    → wrong ≡ wrong_here run_bits left (get_or list i 0) (eqb (i + 1) (length list))
    → misread run_bits n list ≡ (wrong || behind left i list)
step n left i list wrong h e f =
    e ∙ misread_from run_bits left list i h ∙ ap (λ (b : Bool). b || behind left i list) (sym f)

pub returns-then-wrong_here : goal.returns-then-wrong_here
returns-then-wrong_here c =
    let l = c.loop-i in
    sym
    (step c.args.n l.left l.i c.args.list.now _ c.loop-i-test.true l.invariant c.wrong_here.ensures
    ∙ ap (λ (b : Bool). b || behind l.left l.i c.args.list.now) c.if-wrong_here.true)

pub overflow_sub-left : goal.overflow_sub-left
overflow_sub-left c =
    omega (
      arith,
      ap (λ (s : Symbol). s.run) c.unpack.ensures,
      right_run run_bits c.loop-i.left (get_or c.args.list.now c.loop-i.i 0) _
          (sym c.wrong_here.ensures ∙ c.if-wrong_here.false),
    )

pub loop-i-preserved : goal.loop-i-preserved
loop-i-preserved c =
    let l = c.loop-i in
    let list = c.args.list.now in
    let r = ap (λ (s : Symbol). s.run) c.unpack.ensures in
    let e : suc (unpacked run_bits (get_or list l.i 0)).run ≡ c.unpack.result.run + 1 = omega (arith, r) in
    step c.args.n l.left l.i list _ c.loop-i-test.true l.invariant c.wrong_here.ensures
    ∙ ap (λ (b : Bool). b || behind l.left l.i list) c.if-wrong_here.false
    ∙ ap (λ (k : ℕ). misread run_bits (l.left - k) (drop (l.i + 1) list)) e

pub returns : goal.returns
returns c =
    sym (c.loop-i.invariant ∙ nothing_left run_bits c.loop-i.left c.args.list.now c.loop-i.i c.loop-i-test.false)
