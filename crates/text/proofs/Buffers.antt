-- A text put into a buffer byte by byte, and one text behind another.
use mathlib.Core.Path.{◌≡◌, refl, sym, ap, ◌∙◌}
use mathlib.Core.List.{List, [], ◌∷◌, ◌++◌, append_assoc}
use Prim.Native.Nat.{ℕ, ◌+◌, ◌≤◌, ◌<◌}
use native.Mathlib.Numerals.{add-one}
use native.Mathlib.Omega.{arith}
use lib.ListN.{length, take, drop, set, length-append, length-take, length-drop, take-append-drop}
use lib.Seq.{length-take-le, set_split, take-append_seam, drop-append-add, drop-drop}
use Rattle.text.specs.Text.{Put}

module _ (before : List ℕ) (at most : ℕ) where
  pub put_none : Put before at [] most before (at + 0)
  put_none =
      let here : at ≡ at + 0 = omega arith in
      record {
        next = refl;
        few = omega arith;
        holds = sym (take-append-drop at before) ∙ ap (λ (j : ℕ). take at before ++ drop j before) here;
      }

  pub put_byte : (d : ℕ) → at < length before → 1 ≤ most → Put before at (d ∷ []) most (set before at d) (at + 1)
  put_byte d h k =
      record {
        next = refl;
        few = k;
        holds = set_split before at d h ∙ ap (λ (j : ℕ). take at before ++ (d ∷ drop j before)) (sym (add-one at));
      }

-- ---- one text behind another
behind : (f t u rest : List ℕ) (r : ℕ) → length (f ++ t) ≡ r
    → take r (f ++ (t ++ rest)) ++ (u ++ drop (r + length u) (f ++ (t ++ rest))) ≡ f
    ++ ((t ++ u) ++ drop (length u) rest)
behind f t u rest r e =
    rw (← e, ← append_assoc f t rest, take-append_seam (f ++ t) rest, drop-append-add (f ++ t) rest (length u))
    (append_assoc f t (u ++ drop (length u) rest)
    ∙ ap (λ (l : List ℕ). f ++ l) (sym (append_assoc t u (drop (length u) rest))))

pub put_both : (before t u mid after : List ℕ) (at m r n s most : ℕ) → at + length t ≤ length before
    → length t + length u ≤ most
    → Put before at t m mid r → Put mid r u n after s → Put before at (t ++ u) most after s
put_both before t u mid after at m r n s most h k p q =
    let long : length (t ++ u) ≡ length t + length u = length-append t u in
    let end : at + length t + length u ≡ at + length (t ++ u) = omega arith in
    let met : length (take at before ++ t) ≡ r =
    length-append (take at before) t ∙ ap (λ (j : ℕ). j + length t) (length-take-le at before (omega arith))
    ∙ sym p.next in
    record {
      next = omega (arith, p.next, q.next);
      few = omega arith;
      holds =
          q.holds
          ∙ ap (λ (l : List ℕ). take r l ++ (u ++ drop (r + length u) l)) p.holds
          ∙ behind (take at before) t u (drop (at + length t) before) r met
          ∙ ap (λ (l : List ℕ). take at before ++ ((t ++ u) ++ l)) (drop-drop (length u) (at + length t) before)
          ∙ ap (λ (j : ℕ). take at before ++ ((t ++ u) ++ drop j before)) end;
    }

-- ---- a byte behind a text
kept : (before t after : List ℕ) (at m r : ℕ) → at + length t ≤ length before → Put before at t m after r
    → length after ≡ length before
kept before t after at m r h p = omega (arith, simp (length-append, length-take, length-drop) at (ap length p.holds))

pub put_last : (before t mid : List ℕ) (at d m r most : ℕ) → at + length t < length before → length t < most
    → Put before at t m mid r → Put before at (t ++ (d ∷ [])) most (set mid r d) (r + 1)
put_last before t mid at d m r most h k p =
    put_both before t (d ∷ []) mid (set mid r d) at m r 1 (r + 1) most (omega arith) (omega arith) p
    (put_byte mid r 1 d (omega (arith, p.next, kept before t mid at m r (omega arith) p)) (omega arith))
