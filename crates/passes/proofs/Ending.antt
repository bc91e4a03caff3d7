-- What code meets at a scan place is what is kept there, and the count of what is left falls where something is kept:
-- so the last place is found.
use Rattle.std.proofs.Common.{◌≡◌, List, ℕ, ◌+◌, ◌-◌, ◌*◌, ◌≤◌, ◌<◌, get_or, sym, ap, ◌∙◌, arith}
use Rattle.scan.specs.Scan.{scan_at}
use Rattle.price.proofs.Counting.{ones, one_more, none_more}
use Rattle.weights.specs.declared.kept.Kept.{Kept}
use Rattle.weights.specs.Inner.Places.{kept_at, kept_from}
use Rattle.weights.proofs.Places.{kept_in_all, kept_next, kept_inside, none_kept}
use Rattle.passes.specs.Inner.Passes.{Ends}

module _ (k : Kept) where
  abbrev area : ℕ
  area = k.scan.w * k.scan.h

  abbrev kept : List ℕ
  kept = k.magnitudes.now

  abbrev held : List ℕ
  held = k.scan.held.now

  abbrev left_from : ℕ → ℕ
  left_from n = kept_from k.scan.w k.scan.h kept n

  pub kept_met : {n s t a : ℕ} → s ≡ n → t ≡ scan_at k.scan.w k.scan.h s
      → ((d : ℕ) → a ≡ get_or kept t d) → a ≡ kept_at k.scan.w k.scan.h kept n
  kept_met hs ht ha =
      ha 0 ∙ ap (λ (p : ℕ). get_or kept p 0) (ht ∙ ap (scan_at k.scan.w k.scan.h) hs)

  pub all_left : k.count ≡ left_from 0
  all_left = k.choosable.count ∙ kept_in_all k.scan.w k.scan.h kept held k.scan.scanned k.choosable.weighable.room

  module _ (left n : ℕ) (rest : left ≡ left_from n) where
    pub inside : 0 < left → n < area
    inside more = kept_inside k.scan.w k.scan.h kept held k.scan.scanned n (omega (arith, rest))

    module _ (more : 0 < left) (a : ℕ) (is : a ≡ kept_at k.scan.w k.scan.h kept n) where
      next : left_from n ≡ ones (kept_at k.scan.w k.scan.h kept n) + left_from (n + 1)
      next = kept_next k.scan.w k.scan.h kept held k.scan.scanned n (inside more)

      pub one_less : (a ≡ 0 → ⊥) → left - 1 ≡ left_from (n + 1)
      one_less some =
          omega (arith, rest, next, one_more (kept_at k.scan.w k.scan.h kept n) (λ e. some (is ∙ e)))

      pub as_many : a ≡ 0 → left ≡ left_from (n + 1)
      as_many e = omega (arith, rest, next, none_more (kept_at k.scan.w k.scan.h kept n) (sym is ∙ e))

    pub ends : n ≤ area → left ≡ 0 → Ends k n
    ends le none =
        record { within = le; tail = none_kept k.scan.w k.scan.h kept held k.scan.scanned n (sym rest ∙ none) }
