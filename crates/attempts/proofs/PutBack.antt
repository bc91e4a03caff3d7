-- Magnitudes put back once more: where fewer were put back before, it is as if only these were. Each is 0, m or m - 1
-- still, so that the block can be priced. And what is known of a list holds of its front.
use mathlib.Core.Path.{◌≡◌, refl, sym, ap, subst, ◌∙◌}
use mathlib.Core.Logic.{inl, inr, ⊎_elim}
use mathlib.Core.List.{List, [], ◌∷◌, ◌++◌, map}
use Prim.Native.Nat.{ℕ, zero, suc, ◌≤◌, ◌<◌}
use native.Mathlib.Nat.{not-suc-le-zero, le_of_suc-le-suc}
use native.Mathlib.Omega.{arith}
use lib.ListN.{length, get_or, take, drop, length-map, get_or-eq_default}
use lib.Seq.{get_or-take, length-take-le}
use Rattle.std.proofs.lemmas.List.{take-map}
use Rattle.integers.proofs.Order.{below_or_not}
use Rattle.integers.proofs.Lists.{map_at}
use Rattle.price.specs.Rule.{Allowed}
use Rattle.scaling.specs.declared.scale.Scale.{Scale}
use Rattle.weights.specs.declared.prices.Prices.{Prices}
use Rattle.finished.specs.Inner.Finished.{Priceable}
use Rattle.guarding.specs.Block.{put_back}
use Rattle.guarding.proofs.Candidates.{put_back_length, put_back_before, put_back_behind}
use Rattle.trial.specs.Inner.Trial.{top_by}

pub put_back_again : (p h : ℕ) (ms rs : List ℕ) → length ms ≡ length rs → h ≤ p
    → put_back p (put_back h ms rs) rs ≡ put_back p ms rs
unfolding put_back
put_back_again p zero ms rs e l = refl
put_back_again zero (suc h) ms rs e l = absurd (not-suc-le-zero l)
put_back_again (suc p) (suc h) [] [] e l = refl
put_back_again (suc p) (suc h) [] (r ∷ rs) e l = absurd (let no : ⊥ = omega arith in no)
put_back_again (suc p) (suc h) (m ∷ ms) [] e l = absurd (let no : ⊥ = omega arith in no)
put_back_again (suc p) (suc h) (m ∷ ms) (r ∷ rs) e l =
    ap (λ (x : List ℕ). r ∷ x) (put_back_again p h ms rs (omega arith) (le_of_suc-le-suc l))

-- the front of a list, put back in its place
pub front_put_back : (f : ℕ → ℕ) (p : ℕ) (ms cs : List ℕ) → map f (take p cs) ++ drop p ms ≡ put_back p ms (map f cs)
unfolding put_back
front_put_back f p ms cs = ap (λ (x : List ℕ). x ++ drop p ms) (sym (take-map f p cs))

pub of_front : (P : ℕ → Type 0) (p : ℕ) (l : List ℕ) → p ≤ length l → ((k : ℕ) → P (get_or l k 0)) → (k : ℕ)
    → P (get_or (take p l) k 0)
of_front P p l h all k =
    ⊎_elim (λ (q : k < p). subst P (sym (get_or-take p l k 0 q)) (all k))
    (λ (q : p ≤ k).
    let none : get_or (take p l) k 0 ≡ 0 = get_or-eq_default (take p l) 0 (omega (arith, length-take-le p l h)) in
    let last : get_or l (length l) 0 ≡ 0 = get_or-eq_default l 0 (omega arith) in
    subst P (last ∙ sym none) (all (length l)))
    (below_or_not k p)

-- a block that can be priced can be with its first p magnitudes put back
pub put_back_priceable : (p : Prices) (g : Scale) (cs ms : List ℕ) (n : ℕ) → Priceable p g ms cs
    → Priceable p g (put_back n ms (map (top_by g) cs)) cs
put_back_priceable p g cs ms n h =
    record {
      long = put_back_length n ms (map (top_by g) cs) same ∙ length-map cs (top_by g);
      few = h.few;
      fine = h.fine;
      allowed = λ k l.
          ⊎_elim
          (λ (q : k < n).
          inr (inl (put_back_before n ms (map (top_by g) cs) k same q (omega (arith, length-map cs (top_by g)))
          ∙ map_at 0 0 (top_by g) cs k l)))
          (λ (q : n ≤ k).
          subst (Allowed (top_by g (get_or cs k 0))) (sym (put_back_behind n ms (map (top_by g) cs) k same q))
          (h.allowed k l))
          (below_or_not k n);
    }
  where
    same : length ms ≡ length (map (top_by g) cs)
    same = h.long ∙ sym (length-map cs (top_by g))
