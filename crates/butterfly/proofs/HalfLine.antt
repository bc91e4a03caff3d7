-- One level of T, of side 2^(l+1), as `one_level` goes through it: what `odd_half` asks of what `fold` left, and what
-- stands in the row once the odd half is copied in. Each line function is this law at its own l.
use mathlib.Core.Path.{◌≡◌, ◌∙◌, sym, ap, subst}
use mathlib.Core.List.{List}
use Prim.Native.Nat.{ℕ, suc, ◌+◌, ◌-◌, ◌*◌, ◌^◌, ◌<◌, ◌≤◌}
use native.Mathlib.Omega.{arith}
use borrow.Rule.Slice.PartMut.{put_mid}
use lib.Pow.{pow_mono}
use lib.ListN.{length, take, get_or-append}
use lib.Seq.{get_or-append-add, length-take-le, get_or-drop}
use lib.IntN.{ℤ, pos}
use Rattle.std.proofs.lemmas.Slice.{drop-put_mid}
use Rattle.integers.specs.Sum.{at}
use Rattle.refusals.specs.Sides.{most_log2}
use Rattle.tables.specs.Matrix.{matrix}
use Rattle.tables.specs.Inner.OddRows.{odd_rows_of, odd_rows}
use Rattle.tables.proofs.Symmetry.{matrix_symmetric}
use Rattle.tables.proofs.RowSums.{matrix_light}
use Rattle.tables.proofs.OddRows.{odd_rows_are}
use Rattle.butterfly.specs.Inner.Lines.{line_at, Folded, gained, spent, Halved, Row, Room}
use Rattle.butterfly.proofs.Room.{sums_room}
use Rattle.butterfly.proofs.Level as level

-- ---- b comes back in place of the h entries from h on
module _ (h : ℕ) (old b : List ℤ) (room : h + h ≤ length old) (lb : length b ≡ h) where
  abbrev behind : List ℤ
  behind = put_mid h (h + h - h) old b

  holds : (k : ℕ) → k < h → at behind (h + k) ≡ at b k
  holds k g =
      subst (λ (m : ℕ). at behind (m + k) ≡ at b k) (length-take-le h old (omega arith))
      (get_or-append-add (take h old) _ k (pos 0) ∙ get_or-append b _ (pos 0) k (omega arith))

  kept : (p : ℕ) → h + h ≤ p → at behind p ≡ at old p
  kept p g =
      ap (at behind) (omega arith)
      ∙ sym (get_or-drop (h + h) behind (p - (h + h)) (pos 0))
      ∙ ap (λ (l : List ℤ). at l (p - (h + h)))
      (drop-put_mid h (h + h - h) old b (h + h) (omega arith) (omega arith) (omega arith))
      ∙ get_or-drop (h + h) old (p - (h + h)) (pos 0)
      ∙ ap (at old) (omega arith)

-- ---- a line x of side 2h that has room, once `fold` has left its sums e and its differences o; the table and the
-- differences as `odd_half` reads them are t and d
pub record Taken (l h : ℕ) (x e o t d : List ℤ) : Type 0 where
  pub few : l < most_log2
  pub side : h ≡ 2 ^ l
  pub long : length x ≡ h + h
  pub room : Room (suc l) x
  pub sums : length e ≡ h
  pub differences : length o ≡ h
  pub folded : Folded x e o
  pub table : t ≡ odd_rows h
  pub read : d ≡ o

module _ {l h : ℕ} {x e o t d : List ℤ} (k : Taken l h x e o t d) where
  is_table : t ≡ odd_rows_of matrix (2 ^ l)
  is_table = k.table ∙ ap odd_rows k.side ∙ odd_rows_are (2 ^ l)

  long_line : length x ≡ 2 ^ l + 2 ^ l
  long_line = omega (arith, k.long, k.side)

  pub table_long : length o * length o ≤ length t
  table_long =
      level.table_long matrix l (matrix_symmetric l k.few) x long_line e o (k.sums ∙ k.side) k.folded
      (k.differences ∙ k.side) t is_table

  pub differences_few : length o ≤ 16
  differences_few = omega (arith, k.differences, k.side, pow_mono {i = l} {j = 4} (omega (arith, k.few)))

  pub odd_half_fits : (i : ℕ) → i < h → spent t d (length o) i < 2 ^ 31
  odd_half_fits i g =
      subst (λ (z : List ℤ). spent t z (length o) i < 2 ^ 31) (sym k.read)
      (level.odd_half_fits matrix l (matrix_symmetric l k.few) x long_line e o (k.sums ∙ k.side) k.folded
      (k.differences ∙ k.side) t is_table (matrix_light l k.few) k.room i (omega (arith, k.side)))

  module _ (b : List ℤ) (gains : (i : ℕ) → i < h → at b i ≡ gained t d (length o) i) where
    pub odds_held : (i : ℕ) → i < h → at b i ≡ line_at matrix (h + h) x (2 * i + 1)
    odds_held i g =
        gains i g
        ∙ ap (λ (z : List ℤ). gained t z (length o) i) k.read
        ∙ subst (λ (m : ℕ). gained t o (length o) i ≡ line_at matrix (m + m) x (2 * i + 1)) (sym k.side)
        (level.odd_coefficient matrix l (matrix_symmetric l k.few) x long_line e o (k.sums ∙ k.side) k.folded
        (k.differences ∙ k.side) t is_table i (omega (arith, k.side)))

    pub halved : (old : List ℤ) → length b ≡ h → h + h ≤ length old
        → Halved matrix l x e old (put_mid h (h + h - h) old b)
    halved old lb wide =
        record {
          differences = o;
          half = b;
          long = (k.sums ∙ k.side, lb ∙ k.side);
          folded = k.folded;
          put =
              record {
                holds = λ i g.
                    subst (λ (m : ℕ). at (put_mid h (h + h - h) old b) (m + i) ≡ at b i) (sym lb)
                    (holds h old b wide lb i (omega (arith, lb)));
                kept = λ p g. kept h old b wide lb p (omega (arith, lb));
              };
          evens =
              level.even_coefficient matrix l (matrix_symmetric l k.few) x long_line e o (k.sums ∙ k.side) k.folded;
          odds = λ i g.
              subst (λ (m : ℕ). at (put_mid h (h + h - h) old b) (m + i) ≡ line_at matrix (m + m) x (2 * i + 1)) k.side
              (holds h old b wide lb i (omega (arith, k.side)) ∙ odds_held i (omega (arith, k.side)));
          kept = λ p g. kept h old b wide lb p (omega (arith, k.side));
          room = sums_room l x long_line k.room e o (k.sums ∙ k.side) k.folded;
        }

-- ---- the row of the sums in front of what one level left is the row of x
pub row_held : (l : ℕ) → l < most_log2 → (x e old mid new : List ℤ) → length x ≡ 2 ^ l + 2 ^ l
    → Halved matrix l x e old mid → Row matrix l e mid new → Row matrix (suc l) x old new
row_held l few x e old mid new long h =
    level.row_joins matrix l (matrix_symmetric l few) x long e h.differences h.long.0 h.folded h.half old mid new
    h.long.1
    (λ k g.
    sym (subst (λ (m : ℕ). at mid (m + k) ≡ at h.half k) h.long.1 (h.put.holds k (omega (arith, h.long.1))))
    ∙ h.odds k g)
    h.put
