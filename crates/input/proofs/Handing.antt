-- What `next_line` hands out, from what the search has found: a line that ends in what is left, or that none does, and then
-- what is left is moved or goes.
use Prim.Native.Nat.{ℕ, ◌+◌, ◌-◌, ◌≤◌, ◌<◌}
use mathlib.Core.Path.{◌≡◌, refl, ◌∙◌}
use mathlib.Core.Bool.{true, false}
use mathlib.Core.List.{List}
use mathlib.Core.Logic.{◌⊎◌, inl, inr}
use native.Mathlib.Nat.{sub-zero}
use native.Mathlib.Omega.{arith}
use lib.ListN.{length, take}
use Rattle.input.specs.declared.Cursor.{Cursor}
use Rattle.input.specs.Lines.{part, left, Free, Within, Ends, HandedOut, PassedOver, Asked}
use Rattle.input.proofs.Search.{FirstNewline}
use Rattle.input.proofs.Parts.{part_length, free_part, part_split}

module _ {buf : List ℕ} {c : Cursor} {end : ℕ} (w : Within c buf) (f : FirstNewline buf c.from c.have end) where
  -- what is left behind a newline
  abbrev behind : Cursor
  behind = record { from = end + 1; have = c.have; passing = false }

  ends : end < c.have → Ends buf c (part buf c.from end) buf behind
  ends h =
      record {
        bytes = part_split buf c.from end c.have f.after h w.held (f.found h);
        free = free_part buf c.from end (omega (arith, w.held)) f.none;
        within = record { order = omega arith; held = w.held };
        fresh = refl;
      }

  pub handed_out : end < c.have → c.passing ≡ false → HandedOut buf c buf c.from end behind
  handed_out h e =
      record {
        whole = e;
        order = f.after;
        held = omega (arith, w.held);
        ends = ends h;
      }

  pub passed_over : end < c.have → c.passing ≡ true → PassedOver buf c buf behind
  passed_over h e = record { long = e; line = part buf c.from end; ends = ends h }

  module _ (h : c.have ≤ end) where
    free_left : Free (left buf c)
    free_left =
        free_part buf c.from c.have w.held (λ k l. f.none k (omega arith))

    -- the bytes of a line that is too long go
    pub asked_long : (c.passing ≡ true) ⊎ (c.have - c.from ≡ length buf) → 0 < length buf
        → Asked buf c buf (record { from = 0; have = 0; passing = true })
    asked_long long some =
        record {
          free = free_left;
          kept = inr (record { long = of long; passing = refl; bytes = refl });
          within = record { order = omega arith; held = omega arith };
          room = some;
        }
      where
        of : (c.passing ≡ true) ⊎ (c.have - c.from ≡ length buf)
            → (c.passing ≡ true) ⊎ (length (left buf c) ≡ length buf)
        of (inl e) = inl e
        of (inr e) = inr (part_length buf c.from c.have w.held ∙ e)

    -- all others are moved to the front
    pub asked_moved : (after : List ℕ) → length after ≡ length buf → c.passing ≡ false → c.have - c.from < length buf
        → take (c.have - c.from) after ≡ left buf c
        → Asked buf c after (record { from = 0; have = c.have - c.from; passing = false })
    asked_moved after same e room moved =
        record {
          free = free_left;
          kept = inl (record { whole = e; still = refl; bytes = rw (sub-zero (c.have - c.from)) moved });
          within = record { order = omega arith; held = omega (arith, same) };
          room = omega (arith, same);
        }
