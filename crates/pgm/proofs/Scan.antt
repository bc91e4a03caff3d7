-- A gap and a run of digits byte by byte: what is left of each where a byte belongs to it, where one does not, and
-- where the text ends. The loops of `past_gap` and `digits` go by it.
use mathlib.Core.Path.{◌≡◌, refl}
use mathlib.Core.Bool.{Bool, true, false}
use mathlib.Core.List.{List}
use Prim.Native.Nat.{ℕ, suc, ◌+◌, ◌≤◌, ◌<◌}
use native.Mathlib.Numerals.{add-one}
use lib.ListN.{length, get_or, drop, drop_of_length-le}
use lib.Seq.{drop-cons}
use Rattle.pgm.specs.Gap.{in_gap, goes_on, gap}
use Rattle.pgm.specs.Number.{is_digit, with_digit, run, worth}

module _ (w : List ℕ) (i : ℕ) where
  pub gap_stops : (t : Bool) → i < length w → in_gap t (get_or w i 0) ≡ false → gap t (drop i w) ≡ 0
  unfolding gap
  gap_stops t h e = rw (drop-cons w i 0 h, e) refl

  pub gap_next : (t : Bool) → i < length w → in_gap t (get_or w i 0) ≡ true
      → gap t (drop i w) ≡ suc (gap (goes_on t (get_or w i 0)) (drop (i + 1) w))
  unfolding gap
  gap_next t h e = rw (drop-cons w i 0 h, e, add-one) refl

  pub gap_ends : (t : Bool) → length w ≤ i → gap t (drop i w) ≡ 0
  unfolding gap
  gap_ends t h = rw (drop_of_length-le w h) refl

  pub run_stops : i < length w → is_digit (get_or w i 0) ≡ false → run (drop i w) ≡ 0
  unfolding run
  run_stops h e = rw (drop-cons w i 0 h, e) refl

  pub run_next : i < length w → is_digit (get_or w i 0) ≡ true → run (drop i w) ≡ suc (run (drop (i + 1) w))
  unfolding run
  run_next h e = rw (drop-cons w i 0 h, e, add-one) refl

  pub run_ends : length w ≤ i → run (drop i w) ≡ 0
  unfolding run
  run_ends h = rw (drop_of_length-le w h) refl

  pub worth_stops : (v : ℕ) → i < length w → is_digit (get_or w i 0) ≡ false → worth v (drop i w) ≡ v
  unfolding worth
  worth_stops v h e = rw (drop-cons w i 0 h, e) refl

  pub worth_next : (v : ℕ) → i < length w → is_digit (get_or w i 0) ≡ true
      → worth v (drop i w) ≡ worth (with_digit v (get_or w i 0)) (drop (i + 1) w)
  unfolding worth
  worth_next v h e = rw (drop-cons w i 0 h, e, add-one) refl

  pub worth_ends : (v : ℕ) → length w ≤ i → worth v (drop i w) ≡ v
  unfolding worth
  worth_ends v h = rw (drop_of_length-le w h) refl
