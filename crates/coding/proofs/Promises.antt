-- Demand 3 of the call itself, over its buffer at entry and at exit. Of every accepted block: what is reported is the
-- count and the price of the levels left in the buffer, and bounds their squared error. Of a walked one: what a level
-- is, and, by the mode, that no cut of the walk is cheaper, or no block at all. Then which blocks are skipped, and what
-- these report.
use mathlib.Core.Path.{◌≡◌, refl, sym, ◌∙◌, ap, subst}
use mathlib.Core.Logic.{◌⊎◌, inl, inr, ⊎_elim}
use mathlib.Core.Bool.{Bool, true, false, not, cond}
use mathlib.Core.List.{List, [], ◌∷◌, map}
use Prim.Native.Nat.{ℕ, suc, ◌+◌, ◌^◌, ◌≤◌, ◌<◌}
use native.Mathlib.Nat.{one-le-pow}
use native.Mathlib.Omega.{arith}
use borrow.Author.Tests.{leb-false, lt-leb, not-true}
use lib.Dec.{leb, lit≤}
use lib.ListN.{length, get_or, drop, length-map}
use lib.Signed.{non_neg}
use lib.IntN.{ℤ, pos, nat_abs}
use Rattle.integers.specs.Sum.{at}
use Rattle.integers.specs.Tests.{some}
use Rattle.integers.proofs.Lists.{map_at, none_passes, passed_by_none}
use Rattle.scan.specs.Scan.{scan_at}
use Rattle.scan.proofs.OneToOne.{scan_length}
use Rattle.scan.specs.Order.{laid}
use Rattle.scan.proofs.Laid.{laid_on_scan, surplus_kept}
use Rattle.refusals.specs.Faults.{passed}
use Rattle.refusals.proofs.First.{answer_given}
use Rattle.price.specs.Level.{scaled, nearest, threshold, signed}
use Rattle.price.specs.Rule.{Allowed}
use Rattle.price.specs.Price.{squared_error, nonzeros, price}
use Rattle.price.specs.Walk.{walked, cut_at, Cut, cut_of, written}
use Rattle.price.proofs.Level.{signed_zero, signed_magnitude, signed_sign}
use Rattle.price.proofs.Price.{price_of_zeros}
use Rattle.price.proofs.Bounds.{squared_error_at_most_price}
use Rattle.price.proofs.Promises.{written_is_the_walk_cut, written_no_dearer, empty_wins_then_earliest}
use Rattle.price.proofs.Dictionary.{Before}
use Rattle.price.proofs.Blocks.{Block}
use Rattle.price.proofs.Cheapest.{none_cheaper, none_earlier, never_dearer_than_the_walk}
use Rattle.coding.specs.declared.Coded.{Coded}
use Rattle.coding.specs.declared.Mode.{Mode}
use Rattle.coding.specs.declared.Mode.TheVariants.{Walk, Least}
use Rattle.coding.specs.Block.{Quant, area, scale_here, shift_here, rule_of, block_places, scanned, places}
use Rattle.coding.specs.Block.{is_skipped, written_in, magnitudes, signs, price_of, quantised}
use Rattle.coding.specs.Call.{coded, quant_verdict, uncoded_here, quant_answer, quant_buffer}
use Rattle.coding.proofs.Modes.{length_written, zero_or_m_or_m-1}
use Rattle.coding.proofs.Signed.{signs_length, signs_at, laid_magnitudes}
use Rattle.coding.proofs.Accepted.{Accepted, no_fault}

-- ---- a level
level_of_lem : (z : ℤ) (m a : ℕ) → Allowed m a
    → (signed z a ≡ pos 0)
    ⊎ ((non_neg (signed z a) ≡ non_neg z) × ((nat_abs (signed z a) ≡ m) ⊎ (suc (nat_abs (signed z a)) ≡ m)))
level_of_lem z m a (inl e) = inl (ap (signed z) e ∙ signed_zero z)
level_of_lem z m a (inr h) =
    ⊎_elim inl
    (λ s. inr (s, ⊎_elim (λ e. inl (signed_magnitude z a ∙ e)) (λ e. inr (ap suc (signed_magnitude z a) ∙ e.1)) h))
    (signed_sign z a)

none_nonzero : (l : List ℕ) → nonzeros (map (λ L. 0) l) ≡ 0
unfolding nonzeros
none_nonzero [] = refl
none_nonzero (x ∷ xs) = none_nonzero xs

-- the magnitudes that a buffer holds, in scan order
abbrev pub magnitudes_in : Quant → List ℤ → List ℕ
magnitudes_in c l = map (λ p. nat_abs (at l p)) (block_places c)

-- the block place of a scan place
abbrev pub place_of : Quant → ℕ → ℕ
place_of c p = scan_at (2 ^ c.lw) (2 ^ c.lh) p

-- the rounded magnitude of the coefficient at a scan place
abbrev pub rounded : Quant → ℕ → ℕ
rounded c p = nearest (shift_here c) (scaled (scale_here c) (at c.buffer (place_of c p)))

-- an answer reports the price of its call
pub reported : (c : Quant) (count p : ℕ) → quant_answer c ≡ coded count p → price_of c ≡ p
unfolding quant_answer
reported c count p e = ap (λ (a : Coded). a.price) (answer_given _ (quant_verdict c) _ e)

module _ (c : Quant) (ok : quant_verdict c ≡ passed) where
  facts : Accepted c
  facts = no_fault c ok

  places_count : length (block_places c) ≡ area c
  unfolding block_places area
  places_count = scan_length c.lw c.lh facts.wide.1 facts.high.1

  scanned_count : length (scanned c) ≡ area c
  unfolding scanned
  scanned_count = length-map (block_places c) (λ p. at c.buffer p) ∙ places_count

  pub L-count : length (places c) ≡ area c
  unfolding places
  L-count = length-map (scanned c) (λ z. scaled (scale_here c) z) ∙ scanned_count

  pub magnitudes_count : length (magnitudes c) ≡ area c
  unfolding magnitudes
  magnitudes_count = by (is_skipped c)
    where
      by : (t : Bool) → length (cond t (map (λ L. 0) (places c)) (written_in c.mode (rule_of c) (places c))) ≡ area c
      by true = length-map (places c) (λ L. 0) ∙ L-count
      by false = length_written c.mode (rule_of c) (places c) ∙ L-count

  scanned_at : (p : ℕ) → p < area c → at (scanned c) p ≡ at c.buffer (place_of c p)
  unfolding scanned block_places scan_at
  scanned_at p h = map_at 0 (pos 0) (λ p. at c.buffer p) (block_places c) p (omega (arith, places_count))

  L-at : (p : ℕ) → p < area c → get_or (places c) p 0 ≡ scaled (scale_here c) (at c.buffer (place_of c p))
  unfolding places
  L-at p h =
      map_at (pos 0) 0 (λ z. scaled (scale_here c) z) (scanned c) p (omega (arith, scanned_count))
      ∙ ap (λ (z : ℤ). scaled (scale_here c) z) (scanned_at p h)

  -- ---- the block's levels, laid by any magnitudes
  module _ (ms : List ℕ) (full : length ms ≡ area c) where
    abbrev filled : List ℤ
    filled = laid (block_places c) (signs (scanned c) ms) c.buffer

    -- the level at a scan place
    pub laid_level : (p : ℕ) → p < area c
        → at (laid (block_places c) (signs (scanned c) ms) c.buffer) (place_of c p)
        ≡ signed (at c.buffer (place_of c p)) (get_or ms p 0)
    unfolding block_places area
    laid_level p h =
        let e = full ∙ sym scanned_count in
        laid_on_scan (2 ^ c.lw) (2 ^ c.lh) (one-le-pow _ _ (lit≤ tt)) (one-le-pow _ _ (lit≤ tt))
        (signs (scanned c) ms) c.buffer p
        (signs_length (scanned c) ms e ∙ scanned_count ∙ sym places_count)
        facts.long
        (omega (arith, places_count))
        ∙ signs_at (scanned c) ms p e (omega (arith, scanned_count))
        ∙ ap (λ (z : ℤ). signed z (get_or ms p 0)) (scanned_at p h)

    -- it is 0 or has its coefficient's sign, with magnitude m or m - 1, where its magnitude is so
    pub laid_level_allowed : (p : ℕ) → p < area c → Allowed ((rule_of c).top (get_or (places c) p 0)) (get_or ms p 0)
        → (let v = at (laid (block_places c) (signs (scanned c) ms) c.buffer) (place_of c p) in
        (v ≡ pos 0) ⊎ ((non_neg v ≡ non_neg (at c.buffer (place_of c p)))
        × ((nat_abs v ≡ rounded c p) ⊎ (suc (nat_abs v) ≡ rounded c p))))
    unfolding rule_of
    laid_level_allowed p h m =
        let allowed : Allowed (rounded c p) (get_or ms p 0) =
        subst (λ (L : ℕ). Allowed (nearest (shift_here c) L) (get_or ms p 0)) (L-at p h) m in
        rw (laid_level p h) (level_of_lem (at c.buffer (place_of c p)) (rounded c p) (get_or ms p 0) allowed)

    -- what the buffer holds is what was meant
    pub laid_read_back : magnitudes_in c (laid (block_places c) (signs (scanned c) ms) c.buffer) ≡ ms
    unfolding block_places area
    laid_read_back =
        laid_magnitudes (2 ^ c.lw) (2 ^ c.lh) (one-le-pow _ _ (lit≤ tt)) (one-le-pow _ _ (lit≤ tt)) (scanned c) ms
        c.buffer (full ∙ sym scanned_count) (scanned_count ∙ sym places_count) facts.long

  after : quant_buffer c ≡ quantised c
  unfolding quant_buffer
  after = rw ok

  after_laid : quant_buffer c ≡ laid (block_places c) (signs (scanned c) (magnitudes c)) c.buffer
  unfolding quantised
  after_laid = after

  level_is : (p : ℕ) → p < area c → at (quant_buffer c) (place_of c p)
      ≡ signed (at c.buffer (place_of c p)) (get_or (magnitudes c) p 0)
  level_is p h =
      ap (λ (l : List ℤ). at l (place_of c p)) after_laid ∙ laid_level (magnitudes c) magnitudes_count p h

  pub read_back_lem : magnitudes_in c (quant_buffer c) ≡ magnitudes c
  read_back_lem =
      ap (λ (l : List ℤ). magnitudes_in c l) after_laid ∙ laid_read_back (magnitudes c) magnitudes_count

  answer_is : quant_answer c ≡ coded (nonzeros (magnitudes c)) (price_of c)
  unfolding quant_answer
  answer_is = rw ok

  -- ---- every block, in either mode, skipped or not
  -- the price of the block left in the buffer
  abbrev pub its_price : ℕ
  its_price = price (rule_of c) (magnitudes_in c (quant_buffer c)) (places c)

  price_is : price_of c ≡ its_price
  unfolding price_of
  price_is = ap (λ (l : List ℕ). price (rule_of c) l (places c)) (sym read_back_lem)

  -- the count reported is that of the nonzero levels in the buffer, and the price reported is the block's
  pub count_and_price_are_the_block's : quant_answer c ≡ coded (nonzeros (magnitudes_in c (quant_buffer c))) its_price
  count_and_price_are_the_block's =
      answer_is
      ∙ ap (λ (n : ℕ). coded n (price_of c)) (ap nonzeros (sym read_back_lem))
      ∙ ap (coded (nonzeros (magnitudes_in c (quant_buffer c)))) price_is

  -- the squared error of the block left in the buffer is at most the price reported
  pub error_at_most_the_price : (count p : ℕ) → quant_answer c ≡ coded count p
      → squared_error (rule_of c) (magnitudes_in c (quant_buffer c)) (places c) ≤ p
  error_at_most_the_price count p e =
      let n = length-map (block_places c) (λ p. nat_abs (at (quant_buffer c) p)) ∙ places_count in
      omega (
        arith,
        squared_error_at_most_price (rule_of c) (magnitudes_in c (quant_buffer c)) (places c) (n ∙ sym L-count),
        price_is,
        reported c count p e,
      )

  -- ---- a block that is not skipped, in either mode
  module _ (walks : is_skipped c ≡ false) where
    pub written_magnitudes : magnitudes c ≡ written_in c.mode (rule_of c) (places c)
    unfolding magnitudes
    written_magnitudes = rw walks

    -- a level is 0 or has its coefficient's sign, with magnitude m or m - 1
    pub level_zero_or_signed_m_or_m-1 : (p : ℕ) → p < area c
        → (let v = at (quant_buffer c) (place_of c p) in
        (v ≡ pos 0) ⊎ ((non_neg v ≡ non_neg (at c.buffer (place_of c p)))
        × ((nat_abs v ≡ rounded c p) ⊎ (suc (nat_abs v) ≡ rounded c p))))
    level_zero_or_signed_m_or_m-1 p h =
        rw after_laid
        (laid_level_allowed (magnitudes c) magnitudes_count p h
        (subst (λ (l : List ℕ). Allowed ((rule_of c).top (get_or (places c) p 0)) (get_or l p 0)) (sym written_magnitudes)
        (zero_or_m_or_m-1 c.mode (rule_of c) (places c) p (omega (arith, L-count)))))

    -- the block left in the buffer is the one that the mode writes
    block_is : (v : Mode) → c.mode ≡ v → magnitudes_in c (quant_buffer c) ≡ written_in v (rule_of c) (places c)
    block_is v e = read_back_lem ∙ written_magnitudes ∙ ap (λ (k : Mode). written_in k (rule_of c) (places c)) e

    block_price : (v : Mode) → c.mode ≡ v → its_price ≡ price (rule_of c) (written_in v (rule_of c) (places c)) (places c)
    block_price v e = ap (λ (l : List ℕ). price (rule_of c) l (places c)) (block_is v e)

    -- ---- the walk's
    module _ (mode : c.mode ≡ Walk) where
      -- the block left in the buffer is the walk, cut at 0 or behind a nonzero level
      pub block_is_the_walk_cut :
          (magnitudes_in c (quant_buffer c) ≡ cut_at (cut_of (rule_of c) (places c)) (walked (rule_of c) false (places c)))
          × Cut (walked (rule_of c) false (places c)) (cut_of (rule_of c) (places c))
      block_is_the_walk_cut =
          let w = written_is_the_walk_cut (rule_of c) (places c) in (block_is Walk mode ∙ w.0, w.1)

      -- it is no dearer than the walk cut behind any nonzero level, or the empty block
      pub block_no_dearer : (k : ℕ) → Cut (walked (rule_of c) false (places c)) k
          → its_price ≤ price (rule_of c) (cut_at k (walked (rule_of c) false (places c))) (places c)
      block_no_dearer k h = rw (block_price Walk mode) (written_no_dearer (rule_of c) (places c) k h)

      -- at equal price the empty block wins, then the earliest cut
      pub earlier_cuts_dearer : (k : ℕ) → Cut (walked (rule_of c) false (places c)) k → k < cut_of (rule_of c) (places c)
          → its_price < price (rule_of c) (cut_at k (walked (rule_of c) false (places c))) (places c)
      earlier_cuts_dearer k h l = rw (block_price Walk mode) (empty_wins_then_earliest (rule_of c) (places c) k h l)

    -- ---- the cheapest of all
    module _ (mode : c.mode ≡ Least) where
      -- no block whose magnitudes are each 0, m or m - 1 is cheaper
      pub no_block_cheaper : (ls : List ℕ) → Block (rule_of c) (places c) ls → its_price ≤ price (rule_of c) ls (places c)
      no_block_cheaper ls b = rw (block_price Least mode) (none_cheaper (rule_of c) (places c) ls b)

      -- at equal price none comes earlier in dictionary order
      pub no_block_earlier : (ls : List ℕ) → Block (rule_of c) (places c) ls → price (rule_of c) ls (places c) ≡ its_price
          → Before (magnitudes_in c (quant_buffer c)) ls
      no_block_earlier ls b e =
          rw (block_is Least mode) (none_earlier (rule_of c) (places c) ls b (e ∙ block_price Least mode))

      -- it is never dearer than the walk's
      pub never_dearer : its_price ≤ price (rule_of c) (written (rule_of c) (places c)) (places c)
      never_dearer = rw (block_price Least mode) (never_dearer_than_the_walk (rule_of c) (places c))

  -- ---- the surplus, and a skipped block
  pub surplus_unchanged : drop (area c) (quant_buffer c) ≡ drop (area c) c.buffer
  unfolding quantised block_places area
  surplus_unchanged =
      ap (λ (l : List ℤ). drop (area c) l) after
      ∙ surplus_kept (2 ^ c.lw) (2 ^ c.lh) (one-le-pow _ _ (lit≤ tt)) (one-le-pow _ _ (lit≤ tt))
      (signs (scanned c) (magnitudes c)) c.buffer

  abbrev limit : ℕ
  limit = threshold c.intra_slice (shift_here c)

  pub skipped_if_all_below : ((p : ℕ) → p < area c → get_or (places c) p 0 < limit) → is_skipped c ≡ true
  unfolding is_skipped
  skipped_if_all_below h =
      ap not
      (passed_by_none 0 (λ L. leb limit L) (places c)
      (λ p l. lt-leb limit (get_or (places c) p 0) (h p (omega (arith, L-count)))))

  module _ (skips : is_skipped c ≡ true) where
    pub all_below_if_skipped : (p : ℕ) → p < area c → get_or (places c) p 0 < limit
    unfolding is_skipped
    all_below_if_skipped p h =
        leb-false limit (get_or (places c) p 0)
        (none_passes 0 (λ L. leb limit L) (places c) (not-true (some (λ L. leb limit L) (places c)) skips) p
        (omega (arith, L-count)))

    skipped_magnitudes : magnitudes c ≡ map (λ L. 0) (places c)
    unfolding magnitudes
    skipped_magnitudes = rw skips

    -- D and lambda × cbf[0]
    pub skipped_price : price_of c ≡ uncoded_here c + (rule_of c).empty
    unfolding price_of uncoded_here
    skipped_price =
        ap (λ (l : List ℕ). price (rule_of c) l (places c)) skipped_magnitudes ∙ price_of_zeros (rule_of c) (places c)

    pub skipped_count_and_price : quant_answer c ≡ coded 0 (uncoded_here c + (rule_of c).empty)
    skipped_count_and_price =
        answer_is
        ∙ ap (λ (n : ℕ). coded n (price_of c)) (ap nonzeros skipped_magnitudes ∙ none_nonzero (places c))
        ∙ ap (λ (n : ℕ). coded 0 n) skipped_price

    pub skipped_is_cleared : (p : ℕ) → p < area c → at (quant_buffer c) (place_of c p) ≡ pos 0
    skipped_is_cleared p h =
        level_is p h
        ∙ ap (signed (at c.buffer (place_of c p)))
        (ap (λ (l : List ℕ). get_or l p 0) skipped_magnitudes ∙ map_at 0 0 (λ L. 0) (places c) p (omega (arith, L-count)))
        ∙ signed_zero (at c.buffer (place_of c p))
