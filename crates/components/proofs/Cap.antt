-- The source's cap on L never acts in the three-component call either: the transform's coefficients are at most 32736.
use mathlib.Core.Path.{◌≡◌}
use mathlib.Core.Logic.{⊎_elim}
use mathlib.Core.Bool.{true}
use Prim.Native.Nat.{ℕ, ◌*◌, ◌^◌, ◌≤◌, ◌<◌}
use native.Mathlib.Omega.{arith}
use lib.ListN.{length, get_or, get_or-eq_default}
use lib.IntN.{pos, nat_abs}
use Rattle.integers.specs.Sum.{at}
use Rattle.integers.proofs.Order.{below_or_not}
use Rattle.refusals.specs.declared.Component.{Component}
use Rattle.tables.specs.Scales.{forward}
use Rattle.transform.specs.Coefficients.{coefficients}
use Rattle.transform.proofs.Bounds.{coefficients_long, coefficients_small}
use Rattle.coding.specs.Block.{shift_here, places}
use Rattle.coding.specs.Call as quant
use Rattle.coding.proofs.Cap.{capped}
use Rattle.coding.proofs.Cap as alone
use Rattle.components.specs.Call.{SubBlock, runs, log2_of, area, stretch, trans_of, quant_on, quant_of}
use Rattle.components.specs.Inner.Groups.{EarlyPassed}
use Rattle.components.proofs.Log2.{log2_high}
use Rattle.components.proofs.Accepted.{sides_fine, qp_fine, residuals_tame}
use Rattle.components.proofs.Alone.{stretch_long}

-- of a component that is run, in every call by document 01's scales that refusals 1 to 6 let pass
module _ (s : SubBlock) (scales : s.fixed.scales ≡ forward) (early : EarlyPassed s) (k : Component)
    (run : runs k s ≡ true) where
  few : (p : ℕ) → nat_abs (at (coefficients (stretch k s) (log2_of k s.lw) (log2_of k s.lh)) p) ≤ 32768
  unfolding area
  few p =
      let lw = log2_of k s.lw in
      let lh = log2_of k s.lh in
      let l = coefficients (stretch k s) lw lh in
      let i = sides_fine s early.settings in
      let tame = residuals_tame s early.buffer k run in
      let w = log2_high k s.lw i.0.1 in
      let h = log2_high k s.lh i.1.1 in
      ⊎_elim
      (λ (in_block : p < 2 ^ lw * 2 ^ lh).
      let small = coefficients_small lw lh w h (stretch k s) (stretch_long s early k) tame p in_block in
      let r : nat_abs (at l p) ≤ 32768 = omega arith in r)
      (λ (behind : 2 ^ lw * 2 ^ lh ≤ p).
      let none = get_or-eq_default l (pos 0) {n = p} (omega (arith, coefficients_long (stretch k s) lw lh)) in
      rw none (let r : 0 ≤ 32768 = omega arith in r))
      (below_or_not p (2 ^ lw * 2 ^ lh))

  pub cap_never_acts : (p : ℕ) → p < length (places (quant_of k s))
      → capped (shift_here (quant_of k s)) (get_or (places (quant_of k s)) p 0) ≡ get_or (places (quant_of k s)) p 0
  unfolding quant_of quant_on trans_of quant.qp_fault
  cap_never_acts = alone.cap_never_acts (quant_of k s) scales (qp_fine s early.settings k run) few
