-- What became of a coefficient, from its rounded magnitude m and the magnitude a of its level, and how many became
-- each.
use Rattle.std.specs.Prelude.{cond, List, ℕ, zero, suc, ◌+◌, ◌≤◌, eqb, ℤ, nat_abs}
use Rattle.integers.specs.Sum.{at}
use Rattle.tables.specs.Scales.{forward, scale_of}
use Rattle.price.specs.Level.{shift_of, scaled, nearest}
use Rattle.fates.specs.declared.Fate.{Fate}
use Rattle.fates.specs.declared.Fate.TheVariants.{Nothing, Kept, Lowered, Dropped, Other}
use Rattle.fates.specs.declared.Tally.{Tally}

unfoldable pub fate_of : (m a : ℕ) → Fate
fate_of m a = cond (eqb a 0) (cond (eqb m 0) Nothing Dropped) (cond (eqb a m) Kept (cond (eqb (a + 1) m) Lowered Other))

-- what became of a coefficient c of a block of side 8 at a QP
abbrev pub fate_at : (qp : ℕ) (c level : ℤ) → Fate
fate_at qp c level = fate_of (nearest (shift_of 3 qp) (scaled (scale_of forward qp) c)) (nat_abs level)

abbrev pub none_yet : Tally
none_yet = record { kept = 0; lowered = 0; dropped = 0; other = 0 }

-- one fate more; nothing to code counts nowhere
abbrev pub counted : Tally → Fate → Tally
counted t Nothing = t
counted t Kept = record { kept = t.kept + 1; lowered = t.lowered; dropped = t.dropped; other = t.other }
counted t Lowered = record { kept = t.kept; lowered = t.lowered + 1; dropped = t.dropped; other = t.other }
counted t Dropped = record { kept = t.kept; lowered = t.lowered; dropped = t.dropped + 1; other = t.other }
counted t Other = record { kept = t.kept; lowered = t.lowered; dropped = t.dropped; other = t.other + 1 }

-- the first n fates of a list of them
unfoldable pub tally_of : (ℕ → Fate) → ℕ → Tally
tally_of fates zero = none_yet
tally_of fates (suc n) = counted (tally_of fates n) (fates n)

-- the fates of a block of side 8, from its coefficients and levels
abbrev pub block_tally : (qp : ℕ) (coefficients levels : List ℤ) → Tally
block_tally qp coefficients levels = tally_of (λ (k : ℕ). fate_at qp (at coefficients k) (at levels k)) 64

-- each count is at most n
pub record Most (n : ℕ) (t : Tally) : Type 0 where
  pub kept : t.kept ≤ n
  pub lowered : t.lowered ≤ n
  pub dropped : t.dropped ≤ n
  pub other : t.other ≤ n
