-- One call in its two modes. Refusals are unchanged by the mode: the verdict is the same in both, so that a call that
-- is refused in one is refused in the other with the same number and component, and leaves the same buffer. The price
-- that the second mode reports is never above the walk's, a skipped block's included. So who changes the mode meets
-- no other refusal, and pays no more.
use mathlib.Core.Path.{◌≡◌, refl, sym, ◌∙◌}
use mathlib.Core.Bool.{Bool, true, false, cond}
use mathlib.Core.List.{map}
use Prim.Native.Nat.{ℕ, ◌≤◌}
use native.Mathlib.Omega.{arith}
use Rattle.refusals.specs.Faults.{refused}
use Rattle.refusals.proofs.First.{refusing_verdict, refusing_answer}
use Rattle.price.specs.Price.{price}
use Rattle.price.proofs.Cheapest.{never_dearer_than_the_walk}
use Rattle.coding.specs.declared.Mode.{Mode}
use Rattle.coding.specs.declared.Mode.TheVariants.{Walk, Least}
use Rattle.coding.specs.Block.{Quant, rule_of, places, is_skipped, written_in, price_of}
use Rattle.coding.specs.Call.{quant_verdict, coded, quant_answer, quant_buffer}
use Rattle.coding.proofs.Promises.{reported}

-- the same call in another mode
abbrev pub in_mode : Mode → Quant → Quant
in_mode mode c = record c { mode = mode }

-- ---- refusals: no fault asks for the mode
pub refusals_unchanged : (m n : Mode) (c : Quant) → quant_verdict (in_mode m c) ≡ quant_verdict (in_mode n c)
unfolding quant_verdict
refusals_unchanged m n c = refl

-- an answer that refuses comes from a verdict that does, which leaves what the buffer held
module _ (c : Quant) (number component : ℕ) where
  refused_verdict : quant_answer c ≡ refused number component → quant_verdict c ≡ refused number component
  unfolding quant_answer
  refused_verdict e = refusing_verdict _ (quant_verdict c) number component e

  refused_answer : quant_verdict c ≡ refused number component → quant_answer c ≡ refused number component
  unfolding quant_answer
  refused_answer v = refusing_answer _ (quant_verdict c) number component v

  refused_leaves : quant_verdict c ≡ refused number component → quant_buffer c ≡ c.buffer
  unfolding quant_buffer
  refused_leaves v = rw v

pub refused_in_both : (m n : Mode) (c : Quant) (number component : ℕ)
    → quant_answer (in_mode m c) ≡ refused number component
    → (quant_answer (in_mode n c) ≡ refused number component) × (quant_buffer (in_mode n c) ≡ quant_buffer (in_mode m c))
refused_in_both m n c number component e =
    let v = refused_verdict (in_mode m c) number component e in
    let w = refusals_unchanged n m c ∙ v in (
      refused_answer (in_mode n c) number component w,
      refused_leaves (in_mode n c) number component w ∙ sym (refused_leaves (in_mode m c) number component v),
    )

-- ---- prices, of every call: a skipped block's is the same in both modes
pub price_never_dearer : (c : Quant) → price_of (in_mode Least c) ≤ price_of (in_mode Walk c)
unfolding price_of
price_never_dearer c = by (is_skipped c)
  where
    of : Bool → Mode → ℕ
    of t mode = price (rule_of c) (cond t (map (λ L. 0) (places c)) (written_in mode (rule_of c) (places c))) (places c)

    by : (t : Bool) → of t Least ≤ of t Walk
    by true = omega arith
    by false = never_dearer_than_the_walk (rule_of c) (places c)

pub reported_never_dearer : (c : Quant) (n p n' p' : ℕ) → quant_answer (in_mode Least c) ≡ coded n p
    → quant_answer (in_mode Walk c) ≡ coded n' p' → p ≤ p'
reported_never_dearer c n p n' p' e f =
    omega (arith, price_never_dearer c, reported (in_mode Least c) n p e, reported (in_mode Walk c) n' p' f)
