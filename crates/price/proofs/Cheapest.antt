-- What the cheapest block of all is: its magnitudes are allowed, no block whose magnitudes are allowed is cheaper, and
-- of those as cheap it is the first in dictionary order. These leave one block only. It is never dearer than the
-- walk's.
use Rattle.std.proofs.Common.{◌≡◌, ℕ, ◌<◌, ◌≤◌, List, ◌∷◌, length, get_or, inl, inr}
use Rattle.price.specs.Rule.{Rule, Allowed}
use Rattle.price.specs.Price.{price}
use Rattle.price.specs.Walk.{written}
use Rattle.price.specs.Cheapest.{blocks, empty_block, cheapest}
use Rattle.price.proofs.Best.{Best, In, best_unique, best_of_same, first_least_best}
use Rattle.price.proofs.Dictionary.{Before, dictionary}
use Rattle.price.proofs.Blocks.{Block, block_length, block_allowed, allowed_block, empty_block_lem, empty_first}
use Rattle.price.proofs.Blocks.{blocks_in, in_blocks, blocks_ordered}
use Rattle.price.proofs.Promises.{written_length, written_zero_or_m_or_m-1}

module _ (r : Rule) (ps : List ℕ) where
  pub cheapest_best : Best (λ ls. price r ls ps) Before (Block r ps) (cheapest r ps)
  unfolding cheapest
  cheapest_best =
      best_of_same out (λ ls b. inr (in_blocks r ps ls b))
      (first_least_best _ dictionary (empty_block ps) (blocks r ps) (
        λ ls s. empty_first r ps ls (blocks_in r ps ls s),
        blocks_ordered r ps,
      ))
    where
      out : (ls : List ℕ) → In ls (empty_block ps ∷ blocks r ps) → Block r ps ls
      out ls (inl e) = rw e (empty_block_lem r ps)
      out ls (inr s) = blocks_in r ps ls s

  pub cheapest_allowed : Block r ps (cheapest r ps)
  cheapest_allowed = cheapest_best.member

  pub cheapest_length : length (cheapest r ps) ≡ length ps
  cheapest_length = block_length r ps (cheapest r ps) cheapest_allowed

  pub cheapest_zero_or_m_or_m-1 : (k : ℕ) → k < length ps → Allowed (r.top (get_or ps k 0)) (get_or (cheapest r ps) k 0)
  cheapest_zero_or_m_or_m-1 = block_allowed r ps (cheapest r ps) cheapest_allowed

  pub none_cheaper : (ls : List ℕ) → Block r ps ls → price r (cheapest r ps) ps ≤ price r ls ps
  none_cheaper ls b = (cheapest_best.wins ls b).no_dearer

  -- at equal price the first in dictionary order
  pub none_earlier : (ls : List ℕ) → Block r ps ls → price r ls ps ≡ price r (cheapest r ps) ps
      → Before (cheapest r ps) ls
  none_earlier ls b = (cheapest_best.wins ls b).no_later

  -- and no other block is such
  pub cheapest_unique : (ls : List ℕ) → Block r ps ls → ((k : List ℕ) → Block r ps k → price r ls ps ≤ price r k ps)
      → ((k : List ℕ) → Block r ps k → price r k ps ≡ price r ls ps → Before ls k) → ls ≡ cheapest r ps
  cheapest_unique ls b low first =
      best_unique (λ k. price r k ps) dictionary
      (record { member = b; wins = λ k h. record { no_dearer = low k h; no_later = first k h } }) cheapest_best

  pub never_dearer_than_the_walk : price r (cheapest r ps) ps ≤ price r (written r ps) ps
  never_dearer_than_the_walk =
      none_cheaper (written r ps) (allowed_block r ps (written r ps) (written_length r ps)
      (written_zero_or_m_or_m-1 r ps))
