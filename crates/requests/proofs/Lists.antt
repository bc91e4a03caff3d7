-- The list of a verb: its numbers as fields of 32 bits each, and K in front of them.
use Rattle.std.proofs.Common.{◌≡◌, refl, ap, Bool, true, false, [], List, Some, None, ℕ, ◌<◌, length, get_or, take, ◌++◌}
use lib.Seq.{take-append_seam}
use lib.ListN.{length-replicate, get_or-replicate}
use Rattle.requests.specs.declared.kinds.Kind.TheVariants.{Component, Short}
use Rattle.requests.specs.Request.{field_of, fields_of, count_of, list_kinds, list_of}

pub listed : (k : ℕ) → length (list_kinds k) ≡ k
listed k = length-replicate k Short

pub as_listed : (k i : ℕ) (w : List ℕ) → i < k → field_of (get_or (list_kinds k) i Component) w ≡ field_of Short w
as_listed k i w h = ap (λ kind. field_of kind w) (get_or-replicate k i Short Component h)

-- so many numbers in front of a room
pub seam : (list rest : List ℕ) (k : ℕ) → length list ≡ k → take k (list ++ rest) ≡ list
seam list rest k e = rw (← e, take-append_seam list rest) refl

module _ (words : List (List ℕ)) where
  pub no_list : (has : Bool) → has ≡ false → list_of has words ≡ Some ([], words)
  unfolding list_of
  no_list has e = rw e refl

  pub no_count : count_of 4096 words ≡ None → list_of true words ≡ None
  unfolding list_of
  no_count e = rw e refl

  module _ (k : ℕ) (behind : List (List ℕ)) (e : count_of 4096 words ≡ Some (k, behind)) where
    pub numbers : list_of true words ≡ fields_of (list_kinds k) behind
    unfolding list_of
    numbers = rw e refl
