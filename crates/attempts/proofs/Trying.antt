-- The candidates one after the other: while none of those before the i-th fits, whether one fits, and which is the first, is a
-- matter of those from it on.
use mathlib.Core.Path.{◌≡◌, refl, sym, ap, ◌∙◌}
use mathlib.Core.Bool.{Bool, true, false, cond}
use mathlib.Core.List.{List, [], map}
use Prim.Native.Nat.{ℕ, zero, suc, ◌+◌, ◌/◌, ◌^◌, ◌≤◌, ◌<◌}
use native.Mathlib.Omega.{arith}
use native.Mathlib.Nat.{pow-suc}
use native.Mathlib.Numerals.{add-one}
use lib.ListN.{length, length-map}
use lib.IntN.{ℤ}
use Rattle.std.specs.Prelude.{Option, Some, None, Ok, Err}
use Rattle.integers.specs.Tests.{some, listed}
use Rattle.refusals.specs.declared.Component.{Component}
use Rattle.refusals.specs.declared.Refusal.TheVariants.{Height}
use Rattle.guarding.specs.declared.Guarded.{Guarded}
use Rattle.guarding.specs.Block.{put_back, first_where}
use Rattle.trial.specs.declared.Terms.{Terms}
use Rattle.trial.specs.Inner.Trial.{top_by, levels_by, fits_by, report_by, TriedAs}
use Rattle.attempts.specs.Inner.Candidates.{repaired_by, later_by, first_by, answer_by, RepairedAs}
use Rattle.attempts.proofs.PutBack.{put_back_again}

-- what is said of one candidate
fit_if : (b : Bool) (x a : Guarded) → cond b (Some x) None ≡ Some a → (b ≡ true) × (x ≡ a)
fit_if true x a e = (refl, cc)
fit_if false x a e = absurd cc

no_if : (b : Bool) (x : Guarded) → cond b (Some x) None ≡ None → b ≡ false
no_if true x e = absurd cc
no_if false x e = refl

module _ (t : Terms) (r B : List ℤ) (cs ms : List ℕ) where
  abbrev fit : List ℕ → Bool
  fit = fits_by t r B cs

  abbrev rounded : List ℕ
  rounded = map (top_by t.weights.scale) cs

  -- before the i-th candidate, which has 2^i places put back; j are left
  pub record Trying (i : ℕ) (now : List ℕ) : Type 0 where
    pub j : ℕ
    pub count : i + j ≡ suc (t.log2 + t.log2)
    pub put : now ≡ put_back (2 ^ i / 2) ms rounded
    pub any : some fit (later_by t cs ms) ≡ some fit (listed (repaired_by t cs ms) i j)
    pub first : first_by t r B cs ms ≡ first_where fit [] (listed (repaired_by t cs ms) i j)

  pub trying_first : Trying 0 ms
  unfolding later_by first_by put_back
  trying_first =
      record { j = suc (t.log2 + t.log2); count = omega arith; put = refl; any = refl; first = refl }

  module _ (i : ℕ) (now : List ℕ) (s : Trying i now) where
    pub put_here : length ms ≡ length cs → put_back (2 ^ i) now rounded ≡ repaired_by t cs ms i
    unfolding repaired_by
    put_here same =
        ap (λ (x : List ℕ). put_back (2 ^ i) x rounded) s.put
        ∙ put_back_again (2 ^ i) (2 ^ i / 2) ms rounded (same ∙ sym (length-map cs (top_by t.weights.scale)))
        (omega arith)

    -- its turn: what is left begins with it
    module _ (more : i ≤ t.log2 + t.log2) where
      module _ (o : Option Guarded) (after : List ℤ) (tried : TriedAs t r B cs (repaired_by t cs ms i) after o) where
        pub coded_here : (component : Component) (a : Guarded) → o ≡ Some a
            → RepairedAs t component r B cs ms after (Ok a)
        unfolding answer_by some first_where listed
        coded_here component a e = go s.j s.count s.any s.first
          where
            w : (fit (repaired_by t cs ms i) ≡ true) × (report_by t r B cs (repaired_by t cs ms i) ≡ a)
            w = fit_if (fit (repaired_by t cs ms i)) _ a (sym tried.answer ∙ e)

            go : (j : ℕ) → i + j ≡ suc (t.log2 + t.log2)
                → some fit (later_by t cs ms) ≡ some fit (listed (repaired_by t cs ms) i j)
                → first_by t r B cs ms ≡ first_where fit [] (listed (repaired_by t cs ms) i j)
                → RepairedAs t component r B cs ms after (Ok a)
            go zero n any first = absurd (let no : ⊥ = omega arith in no)
            go (suc j) n any first =
                let f : first_by t r B cs ms ≡ repaired_by t cs ms i = first ∙ rw w.0 refl in
                let y : some fit (later_by t cs ms) ≡ true = any ∙ rw w.0 refl in
                record {
                  answer = rw (y, f, w.1) refl;
                  left = λ x y. tried.left w.0 ∙ ap (levels_by t.log2 B) (sym f);
                }

        pub next_here : o ≡ None → Trying (i + 1) (repaired_by t cs ms i)
        unfolding some first_where listed repaired_by
        next_here e = go s.j s.count s.any s.first
          where
            k : fit (repaired_by t cs ms i) ≡ false
            k = no_if (fit (repaired_by t cs ms i)) _ (sym tried.answer ∙ e)

            go : (j : ℕ) → i + j ≡ suc (t.log2 + t.log2)
                → some fit (later_by t cs ms) ≡ some fit (listed (repaired_by t cs ms) i j)
                → first_by t r B cs ms ≡ first_where fit [] (listed (repaired_by t cs ms) i j)
                → Trying (i + 1) (repaired_by t cs ms i)
            go zero n any first = absurd (let no : ⊥ = omega arith in no)
            go (suc j) n any first =
                rw add-one
                (record {
                  j = j;
                  count = omega arith;
                  put = ap (λ (n : ℕ). put_back n ms rounded)
                      (let half : 2 ^ i ≡ 2 ^ suc i / 2 = omega (arith, pow-suc 2 i) in half);
                  any = any ∙ rw k refl;
                  first = first ∙ rw k refl;
                })

    pub refused_here : t.log2 + t.log2 < i → (component : Component) (after : List ℤ)
        → RepairedAs t component r B cs ms after (Err (record { why = Height; component = component }))
    unfolding answer_by some listed
    refused_here past component after = go s.j s.count s.any
      where
        go : (j : ℕ) → i + j ≡ suc (t.log2 + t.log2)
            → some fit (later_by t cs ms) ≡ some fit (listed (repaired_by t cs ms) i j)
            → RepairedAs t component r B cs ms after (Err (record { why = Height; component = component }))
        go zero n any = record { answer = rw any refl; left = λ a e. absurd cc }
        go (suc j) n any = absurd (let no : ⊥ = omega arith in no)
