-- A loop that looks for a dear cost: what was found, or is still to be found in what is left.
use Rattle.std.proofs.Common.{◌≡◌, ℕ, ◌+◌, ◌<◌, ◌≤◌, Bool, ◌||◌, List, length, get_or, drop, sym, ◌∙◌}
use Rattle.integers.specs.Sum.{over, on_or}
use Rattle.integers.specs.Tests.{some}
use Rattle.integers.proofs.Over.{tests, some_over, over_next, over_end}
use Rattle.price.specs.Costs.{dear}

pub next : (table : List ℕ) (i : ℕ) (found : Bool) → i < length table
    → ((found || dear (get_or table i 0)) || over on_or dear (drop (i + 1) table))
    ≡ (found || over on_or dear (drop i table))
next table i found h = over_next tests dear table i 0 found h

pub whole : (table : List ℕ) (i : ℕ) (found : Bool) → length table ≤ i
    → (found || over on_or dear (drop i table)) ≡ over on_or dear table → found ≡ some dear table
whole table i found h e = sym (over_end tests dear table i found h) ∙ e ∙ sym (some_over dear table)
