-- What a caller of `next_line`, `read` and `last` knows in each arm of its match: the contract at the variant that came.
use Prim.Native.Nat.{ℕ, ◌+◌, ◌≤◌, ◌<◌}
use mathlib.Core.Path.{◌≡◌, sym, ap, subst, ◌∙◌}
use mathlib.Core.Bool.{Bool, true, false, cond}
use mathlib.Core.List.{List}
use native.Mathlib.Omega.{arith}
use lib.Dec.{eqb}
use lib.ListN.{length}
use Rattle.input.specs.declared.Cursor.{Cursor}
use Rattle.input.specs.declared.Line.{Line}
use Rattle.input.specs.declared.Line.TheVariants.{At, TooLong, More}
use Rattle.std.proofs.Common.{Option, Some, Result, Ok}
use Rattle.std.specs.declared.io.Error.{Error}
use Rattle.input.specs.declared.Tail.{Tail}
use Rattle.input.specs.declared.Tail.TheVariants as tail
use Rattle.input.specs.Lines.{Within, HandedOut, PassedOver, Asked, Handed, Brought, tail_of}

module _ (before : List ℕ) (c : Cursor) (after : List ℕ) where
  pub told_at : {line : Line} {from end : ℕ} {rest : Cursor} → line ≡ At from end rest → Handed before c after line
      → HandedOut before c after from end rest
  told_at e h = subst (λ (l : Line). Handed before c after l) e h

  pub told_too_long : {line : Line} {rest : Cursor} → line ≡ TooLong rest → Handed before c after line
      → PassedOver before c after rest
  told_too_long e h = subst (λ (l : Line). Handed before c after l) e h

  pub told_more : {line : Line} {rest : Cursor} → line ≡ More rest → Handed before c after line
      → Asked before c after rest
  told_more e h = subst (λ (l : Line). Handed before c after l) e h

  pub told_grown : {arrival : Result (Option Cursor) Error} {more : Cursor} → arrival ≡ Ok (Some more) → Brought before c after arrival
      → Within more after × (c.have < more.have)
  told_grown {more = more} e h =
      let came = subst (λ (a : Result (Option Cursor) Error). Brought before c after a) e h in
      let n = came.2 in
      (came.1, let g : more.have ≡ c.have + n.0 = ap (λ (k : Cursor). k.have) n.2 in omega (arith, g, n.1))

  pub told_came : {arrival : Result (Option Cursor) Error} {more : Cursor} → arrival ≡ Ok (Some more) → Brought before c after arrival
      → Within more after
  told_came e h = (subst (λ (a : Result (Option Cursor) Error). Brought before c after a) e h).1

-- a last line stands in the buffer
module _ (buf : List ℕ) (c : Cursor) (w : Within c buf) where
  abbrev Stands : Tail → Type 0
  Stands (tail.At from end) = (from ≤ end) × (end ≤ length buf)
  Stands tail.TooLong = Unit {0}
  Stands tail.Nothing = Unit {0}

  stands : (passing none : Bool)
      → Stands (cond passing tail.TooLong (cond none tail.Nothing (tail.At c.from c.have)))
  stands true none = tt
  stands false true = tt
  stands false false = (w.order, w.held)

  pub told_last : {t : Tail} {from end : ℕ} → t ≡ tail.At from end → t ≡ tail_of c → (from ≤ end) × (end ≤ length buf)
  told_last e h =
      subst (λ (t : Tail). Stands t) (sym h ∙ e) (stands c.passing (eqb c.from c.have))
