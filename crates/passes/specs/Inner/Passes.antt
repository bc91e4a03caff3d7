-- What the functions of the search say to one another: least prices as code holds them, what each place takes, and the
-- block that is read off. The search itself is specs/Inner/Search.antt of `price`, one place of it `ahead`.
use Rattle.std.specs.Prelude.{◌≡◌, true, false, cond, List, ℕ, suc, ◌+◌, ◌-◌, ◌*◌, ◌^◌, ◌≤◌, ◌<◌, length, get_or, drop}
use Rattle.price.specs.Rule.{Rule, is_zero}
use Rattle.price.specs.Price.{uncoded}
use Rattle.price.specs.Inner.Search.{Least, none, some, ahead, taken, goes_on, read_off}
use Rattle.scaling.specs.declared.scale.Scale.{Scale}
use Rattle.weights.specs.declared.prices.Prices.{Prices}
use Rattle.weights.specs.declared.kept.Kept.{Kept}
use Rattle.weights.specs.Inner.Prices.{rule_by}
use Rattle.weights.specs.Inner.Places.{kept_at, kept_places, Standing}
use Rattle.weights.specs.Inner.Chosen.{rule_of, places_of}
use Rattle.ahead.specs.declared.Ahead.{Ahead}
use Rattle.ahead.specs.declared.Taken.{Taken}

-- ---- back along the scan
-- a least price as code holds it, where n places are done: none is 2^63 and more
abbrev pub Holds : ℕ → Least → ℕ → Type 0
Holds n none v = (2 ^ 63 ≤ v) × (v ≤ 2 ^ 63 + n * 2 ^ 48)
Holds n (some x) v = (v ≡ x) × (x ≤ 2 ^ 62 + n * 2 ^ 48)

-- what is known of the places ps, where n places are done
pub record Held (p : Prices) (g : Scale) (n : ℕ) (ps : List ℕ) (t : Ahead) : Type 0 where
  pub zero : Holds n (ahead (rule_by p g) ps).after_zero t.zero
  pub level : Holds n (ahead (rule_by p g) ps).after_level t.level
  pub rest : t.rest ≡ uncoded (rule_by p g) ps

-- the places from n on, and what is known of them
abbrev pub from : Kept → ℕ → List ℕ
from k n = drop n (places_of k)

abbrev pub Known : Kept → ℕ → Ahead → Type 0
Known k n t = Held k.weights.prices k.weights.scale (k.scan.w * k.scan.h - n) (from k n) t

-- nothing is kept from `end` on, of magnitudes that are kept by rows
pub record EndsAt (w h : ℕ) (kept : List ℕ) (end : ℕ) : Type 0 where
  pub within : end ≤ w * h
  pub tail : (n : ℕ) → end ≤ n → n < w * h → kept_at w h kept n ≡ 0

abbrev pub Ends : Kept → (end : ℕ) → Type 0
Ends k end = EndsAt k.scan.w k.scan.h k.magnitudes.now end

-- what place n of ps takes by the rule r, where the magnitude a is kept: the one after a 0 and after a nonzero level,
-- and whether a nonzero one goes on
pub record Takes (r : Rule) (ps : List ℕ) (n a : ℕ) (t : Taken) : Type 0 where
  pub zero : t.after_zero ≡ taken r true (get_or ps n 0) (drop (suc n) ps) (ahead r (drop (suc n) ps))
  pub level : t.after_level ≡ taken r false (get_or ps n 0) (drop (suc n) ps) (ahead r (drop (suc n) ps))
  pub on : 1 ≤ a → t.goes_on ≡ goes_on r (drop (suc n) ps) (ahead r (drop (suc n) ps))

abbrev pub nothing : Taken
nothing = record { after_zero = 0; after_level = 0; goes_on = false }

-- where nothing is kept
abbrev pub passed : Taken
passed = record { after_zero = 0; after_level = 0; goes_on = true }

-- each place from n to `end`
abbrev pub DecidedBy : Rule → Scale → (w h : ℕ) → List ℕ → (n end : ℕ) → List Taken → Type 0
DecidedBy r g w h kept n end all =
    (j : ℕ) → n ≤ j → j < end → Takes r (kept_places g w h kept) j (kept_at w h kept j) (get_or all j nothing)

abbrev pub Decided : Kept → (n end : ℕ) → List Taken → Type 0
Decided k n end all = DecidedBy (rule_of k) k.weights.scale k.scan.w k.scan.h k.magnitudes.now n end all

-- ---- forth
-- what a place takes after the level `prev`
abbrev pub taken_after : Taken → ℕ → ℕ
taken_after t prev = cond (is_zero prev) t.after_zero t.after_level

-- the search's levels of the places ps, by rows
pub record Read (r : Rule) (w h : ℕ) (ps after : List ℕ) : Type 0 where
  pub room : length after ≡ w * h
  pub levels : Standing w h after (read_off r false ps)

-- what is read off where that is taken: the levels of every block for which the places are so decided, by every rule
-- that rounds 0 to 0
abbrev pub ReadOff : (w h end : ℕ) → List Taken → List ℕ → Type 0
ReadOff w h end all after =
    (r : Rule) (g : Scale) (kept : List ℕ) → r.top 0 ≡ 0 → EndsAt w h kept end → DecidedBy r g w h kept 0 end all
    → Read r w h (kept_places g w h kept) after
