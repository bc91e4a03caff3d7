-- Texts put one behind the other, each behind a space: what the turns of `put_each` keep, said
-- once for whatever is printed.
use mathlib.Core.Path.{◌≡◌, refl, sym, ap, ◌∙◌}
use mathlib.Core.List.{List, [], ◌∷◌, ◌++◌, append_assoc, append-nil}
use Prim.Native.Nat.{ℕ, ◌+◌, ◌*◌, ◌≤◌, ◌<◌}
use native.Mathlib.Nat.{mul-suc}
use native.Mathlib.Numerals.{add-one}
use native.Mathlib.Omega.{arith}
use lib.ListN.{length, take, set, get_or, length-set}
use lib.Seq.{take-suc, take-length}
use Rattle.text.specs.Text.{Put}
use Rattle.text.proofs.Buffers.{put_none, put_byte, put_both}
use Rattle.replies.specs.Reply.{spaced}

module _ {A : Type 0} (print : A → List ℕ) where
  spaced_both : (l m : List A) → spaced print (l ++ m) ≡ spaced print l ++ spaced print m
  unfolding spaced
  spaced_both [] m = refl
  spaced_both (x ∷ l) m =
      ap (λ (t : List ℕ). 32 ∷ (print x ++ t)) (spaced_both l m)
      ∙ ap (λ (t : List ℕ). 32 ∷ t) (sym (append_assoc (print x) (spaced print l) (spaced print m)))

  spaced_one : (x : A) → spaced print (x ∷ []) ≡ 32 ∷ print x
  unfolding spaced
  spaced_one x = ap (λ (t : List ℕ). 32 ∷ t) (append-nil (print x))

  spaced_next : (l : List A) (d : A) (i : ℕ) → i < length l
      → spaced print (take (i + 1) l) ≡ spaced print (take i l) ++ (32 ∷ print (get_or l i d))
  spaced_next l d i h =
      ap (λ (j : ℕ). spaced print (take j l)) (add-one i)
      ∙ ap (spaced print) (take-suc l i d h)
      ∙ spaced_both (take i l) (get_or l i d ∷ [])
      ∙ ap (λ (t : List ℕ). spaced print (take i l) ++ t) (spaced_one (get_or l i d))

  -- ---- in the buffer
  -- the first i stand from `at` up to `next`, each with its space in at most `each` bytes
  pub record Spaced (l : List A) (each : ℕ) (before : List ℕ) (at i : ℕ) (out : List ℕ) (next : ℕ) : Type 0 where
    pub put : Put before at (spaced print (take i l)) (each * i) out next
    pub few : next ≤ at + each * i
    pub room : length out ≡ length before

  module _ (l : List A) (each : ℕ) (before : List ℕ) (at : ℕ) where
    pub none_yet_lem : Spaced l each before at 0 before at
    unfolding spaced
    none_yet_lem =
        let here : at + 0 ≡ at = omega arith in
        record { put = rw here at (put_none before at (each * 0)); few = omega arith; room = refl }

    pub one_more : (d : A) (i : ℕ) (mid after : List ℕ) (next most r : ℕ) → i < length l
        → at + each * (i + 1) ≤ length before → most < each
        → Spaced l each before at i mid next
        → Put (set mid next 32) (next + 1) (print (get_or l i d)) most after r
        → length after ≡ length (set mid next 32)
        → Spaced l each before at (i + 1) after r
    one_more d i mid after next most r h k e s p kept =
        let t = spaced print (take i l) in
        let u = print (get_or l i d) in
        let wide : each * (i + 1) ≡ each * i + each = rw (add-one i) (mul-suc each i) in
        let begun = s.put in
        let space = put_byte mid next 1 32 (omega (arith, begun.next, begun.few, s.room)) (omega arith) in
        let last = put_both mid (32 ∷ []) u (set mid next 32) after next 1 (next + 1) most r each
        (omega (arith, begun.next, begun.few, s.room)) (omega (arith, p.few)) space p in
        record {
          put = rw (spaced_next l d i h) (put_both before t (32 ∷ u) mid after at (each * i) next each r
              (each * (i + 1)) (omega (arith, begun.few)) (omega (arith, begun.few, p.few)) begun last);
          few = omega (arith, p.next, p.few, s.few);
          room = kept ∙ simp length-set s.room;
        }

    pub all_put : (i : ℕ) (out : List ℕ) (next : ℕ) → i ≡ length l → Spaced l each before at i out next
        → Put before at (spaced print l) (each * length l) out next
    all_put i out next e s = rw (e, take-length l) at s.put
