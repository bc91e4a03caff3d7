-- `reader::lay` meets its contract: a turn for each symbol, whose level is put behind its zeros.
use mathlib.Core.Path.{◌≡◌, ap, ◌∙◌}
use mathlib.Core.List.{List}
use Prim.Native.Nat.{ℕ, ◌+◌, ◌*◌, ◌<◌}
use native.Mathlib.Omega.{arith}
use lib.ListN.{length, get_or, set}
use lib.IntN.{ℤ}
use mir.Syntax.{w16}
use mir.Val.{SFits, to_z, of_z}
use mir.Facts.{to_z-of_z}
use Rattle.scan.specs.Scan.{scan_at}
use Rattle.runs.specs.declared.Symbol.{Symbol}
use Rattle.runs.specs.Packing.{run_bits, unpacked}
use Rattle.runs.specs.Runs.{level_of}
use Rattle.runs.proofs.Packing.{unpacked_fits}
use Rattle.scan.specs.Scanned.{Scanned}
use Rattle.reader.specs.Inner.Blocks.{laid_over}
use Rattle.reader.proofs.Laying.{Laying, laying_as, place_inside, laying_more, laying_all}
use Rattle.reader.proofs.lay.Goals as goal

abbrev symbol : List ℕ → ℕ → Symbol
symbol list i = unpacked run_bits (get_or list i 0)

-- the place of a symbol lies in the block
inside : (w h : ℕ) (held list : List ℕ) (before block : List ℤ) (p i : ℕ) → Scanned w h held
    → Laying run_bits w h list before block p i → i < length list → p + (symbol list i).run < w * h
inside w h held list before block p i s l lt = place_inside _ _ _ _ _ s.wide s.high s.full _ _ _ l lt

run_is : (s : Symbol) (list : List ℕ) (i : ℕ) → s ≡ symbol list i → s.run ≡ (symbol list i).run
run_is s list i e = ap (λ (t : Symbol). t.run) e

-- the symbol's level at the symbol's place
put : (w h : ℕ) (block after : List ℤ) (p place k : ℕ) (s t : Symbol) (z : ℤ) → s ≡ t → SFits w16 z → z ≡ level_of s
    → k ≡ p + s.run → place ≡ scan_at w h k → after ≡ set block place (to_z w16 (of_z w16 z))
    → after ≡ set block (scan_at w h (p + t.run)) (level_of t)
put w h block after p place k s t z e f g q r m =
    m ∙ ap (λ (y : ℤ). set block place y) (to_z-of_z {w = w16} f ∙ g ∙ ap level_of e)
    ∙ ap (λ (j : ℕ). set block j (level_of t))
    (r ∙ ap (λ (j : ℕ). scan_at w h j) (q ∙ ap (λ (u : Symbol). p + u.run) e))

pub scan_place-requires : goal.scan_place-requires
scan_place-requires c =
    let s = c.args.scan.scanned in
    omega (
      arith,
      run_is _ c.args.list.now c.loop-u.u-index c.unpack-s.ensures,
      inside _ _ _ _ _ _ _ _ s c.loop-u.invariant c.loop-u-test.true,
      s.few,
    )

pub block_place-requires : goal.block_place-requires
block_place-requires c =
    omega (
      arith,
      c.scan_place.ensures.0,
      run_is _ c.args.list.now c.loop-u.u-index c.unpack-s.ensures,
      inside _ _ _ _ _ _ _ _ c.args.scan.scanned c.loop-u.invariant c.loop-u-test.true,
    )

pub level_of-requires : goal.level_of-requires
level_of-requires c =
    omega (
      arith,
      ap (λ (s : Symbol). s.magnitude) c.unpack-s.ensures,
      (unpacked_fits run_bits (get_or c.args.list.now c.loop-u.u-index 0)).magnitude,
    )

pub loop-u-preserved : goal.loop-u-preserved
loop-u-preserved c =
    let s = c.args.scan.scanned in
    let t = symbol c.args.list.now c.loop-u.u-index in
    let held : SFits w16 c.level_of.result = record { sfits = c.level_of.type_inv } in
    laying_as _ _ _ _ _
    (put c.args.scan.w c.args.scan.h c.loop-u.block _ c.loop-u.p _ _ c.unpack-s.result t _ c.unpack-s.ensures held
    c.level_of.ensures c.scan_place.ensures.0 c.block_place.ensures.0 c.put.ensures)
    (ap (λ (r : ℕ). c.loop-u.p + r + 1) (run_is _ c.args.list.now c.loop-u.u-index c.unpack-s.ensures))
    (laying_more _ _ _ _ _ s.wide s.high s.full _ _ _ c.loop-u.invariant c.loop-u-test.true)

pub returns : goal.returns
unfolding laid_over
returns c =
    let s = c.args.scan.scanned in
    laying_all _ _ _ _ _ s.wide s.high s.full _ _ _ c.loop-u.invariant c.loop-u-test.false
