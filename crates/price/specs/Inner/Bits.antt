-- A bound that all entries of a list share.
use Rattle.std.specs.Prelude.{ℕ, ◌<◌, ◌≤◌, List, length, slice_index}

abbrev pub NoneAbove : ℕ → List ℕ → Type 0
NoneAbove most l = (k : ℕ) → k < length l → slice_index l k ≤ most
