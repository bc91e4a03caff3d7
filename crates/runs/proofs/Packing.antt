-- A packed symbol tells its fields, whatever the width of the run's field: what was packed is unpacked as it was, so
-- that no two symbols have one number, and a number that uses no other bit is what its fields are packed to.
use mathlib.Core.Path.{◌≡◌, refl, sym, ap, ◌∙◌}
use mathlib.Core.Bool.{Bool, true, false}
use Prim.Native.Nat.{ℕ, zero, suc, ◌+◌, ◌*◌, ◌/◌, ◌%◌, ◌^◌, ◌≤◌, ◌<◌}
use native.Mathlib.Nat.{mod-lt, mod-eq_of_lt, div-one, mul-le-mul_right}
use native.Mathlib.Omega.{arith}
use lib.Dec.{eqb}
use lib.Pow.{pow_pos, pow-add, high, low, split, shr-shr, shr_lt}
use borrow.Author.Tests.{lt-leb, leb-false}
use Rattle.runs.specs.declared.Symbol.{Symbol}
use Rattle.runs.specs.Packing.{mark, packed, unpacked, overfull}

-- the fields of a symbol fit
pub record Fits (bits : ℕ) (s : Symbol) : Type 0 where
  pub run : s.run < 2 ^ bits
  pub magnitude : s.magnitude < 2 ^ 15

-- ---- marks
mark_small : (b : Bool) → mark b ≤ 1
mark_small true = omega arith
mark_small false = omega arith

mark_back : (b : Bool) → eqb (mark b) 1 ≡ b
mark_back true = refl
mark_back false = refl

bit_back : (n : ℕ) → n < 2 → mark (eqb n 1) ≡ n
bit_back zero h = refl
bit_back (suc zero) h = refl
bit_back (suc (suc n)) h = absurd (let z : ⊥ = omega arith in z)

-- ---- the run, and the number of what is over it
-- magnitude, sign and last mark in one number
abbrev pub above : Symbol → ℕ
above s = s.magnitude + mark s.negative * 32768 + mark s.last * 65536

-- the symbol of a run and such a number
abbrev pub fields_of : (r q : ℕ) → Symbol
fields_of r q =
    record { run = r; magnitude = q % 32768; negative = eqb (q / 32768 % 2) 1; last = eqb (q / 65536 % 2) 1 }

above_small : (s : Symbol) → s.magnitude < 2 ^ 15 → above s < 131072
above_small s h = omega (arith, mark_small s.negative, mark_small s.last)

fields_of_above : (s : Symbol) → s.magnitude < 2 ^ 15 → fields_of s.run (above s) ≡ s
fields_of_above s h =
    let q = above s in
    let m = mark_small s.negative in
    let n = mark_small s.last in
    let k = mark s.last * 2 + mark s.negative in
    let is : q ≡ k * 32768 + s.magnitude = omega arith in
    let em : q % 32768 ≡ s.magnitude = ap (λ (a : ℕ). a % 32768) is ∙ low k 15 h in
    let ek : q / 32768 ≡ k = ap (λ (a : ℕ). a / 32768) is ∙ high k 15 h in
    let en : q / 32768 % 2 ≡ mark s.negative =
    ap (λ (a : ℕ). a % 2) ek ∙ low (mark s.last) 1 (omega arith) in
    let eh : q / 65536 ≡ mark s.last = omega arith in
    let el : q / 65536 % 2 ≡ mark s.last = ap (λ (a : ℕ). a % 2) eh ∙ mod-eq_of_lt (omega arith) in
    λ i.
    record {
      run = s.run;
      magnitude = em i;
      negative = (ap (λ (k : ℕ). eqb k 1) en ∙ mark_back s.negative) i;
      last = (ap (λ (k : ℕ). eqb k 1) el ∙ mark_back s.last) i;
    }

above_of_fields : (r q : ℕ) → q < 131072 → above (fields_of r q) ≡ q
above_of_fields r q h =
    let a = q / 32768 % 2 in
    let b = q / 65536 % 2 in
    omega (arith, bit_back a (omega arith), bit_back b (omega arith))

module _ (bits : ℕ) where
  pub packed_layout : (s : Symbol) → packed bits s ≡ above s * 2 ^ bits + s.run
  unfolding packed
  packed_layout s = rw (pow-add 2 bits 15, pow-add 2 bits 16) (omega arith)

  pub unpacked_layout : (u : ℕ) → unpacked bits u ≡ fields_of (u % 2 ^ bits) (u / 2 ^ bits)
  unfolding unpacked
  unpacked_layout u =
      let run : u / 2 ^ 0 % 2 ^ bits ≡ u % 2 ^ bits = ap (λ (k : ℕ). k % 2 ^ bits) (div-one u) in
      let sign : eqb (u / 2 ^ (bits + 15) % 2) 1 ≡ eqb (u / 2 ^ bits / 32768 % 2) 1 =
      ap (λ (k : ℕ). eqb (k % 2) 1) (sym (shr-shr u bits 15)) in
      let last : eqb (u / 2 ^ (bits + 16) % 2) 1 ≡ eqb (u / 2 ^ bits / 65536 % 2) 1 =
      ap (λ (k : ℕ). eqb (k % 2) 1) (sym (shr-shr u bits 16)) in
      λ i. record { run = run i; magnitude = u / 2 ^ bits % 32768; negative = sign i; last = last i }

  -- ---- a packed symbol
  module _ (s : Symbol) (fits : Fits bits s) where
    pub packed_tells_fields : unpacked bits (packed bits s) ≡ s
    packed_tells_fields =
        let q = above s in
        ap (unpacked bits) (packed_layout s)
        ∙ unpacked_layout (q * 2 ^ bits + s.run)
        ∙ ap (λ (r : ℕ). fields_of r ((q * 2 ^ bits + s.run) / 2 ^ bits)) (low q bits fits.run)
        ∙ ap (λ (k : ℕ). fields_of s.run k) (high q bits fits.run)
        ∙ fields_of_above s fits.magnitude

    pub packed_small : packed bits s < 2 ^ (bits + 17)
    packed_small =
        let h : suc (above s) * 2 ^ bits ≤ 131072 * 2 ^ bits =
        mul-le-mul_right (2 ^ bits) (above_small s fits.magnitude) in
        omega (arith, h, packed_layout s, fits.run, pow-add 2 bits 17)

    pub packed_not_overfull : overfull bits (packed bits s) ≡ false
    unfolding overfull
    packed_not_overfull = lt-leb (2 ^ (bits + 17)) (packed bits s) packed_small

  pub packed_apart : (s t : Symbol) → Fits bits s → Fits bits t → packed bits s ≡ packed bits t → s ≡ t
  packed_apart s t fs ft e =
      sym (packed_tells_fields s fs) ∙ ap (unpacked bits) e ∙ packed_tells_fields t ft

  -- ---- a number
  pub unpacked_fits : (u : ℕ) → Fits bits (unpacked bits u)
  unfolding unpacked
  unpacked_fits u =
      record {
        run = mod-lt (u / 2 ^ 0) (pow_pos bits);
        magnitude = mod-lt (u / 2 ^ bits) (omega arith);
      }

  pub unpacked_packs : (u : ℕ) → overfull bits u ≡ false → packed bits (unpacked bits u) ≡ u
  unfolding overfull
  unpacked_packs u h =
      let r = u % 2 ^ bits in
      let q = u / 2 ^ bits in
      let few : q < 131072 =
      shr_lt 17 bits (omega (arith, leb-false (2 ^ (bits + 17)) u h, pow-add 2 bits 17, pow-add 2 17 bits)) in
      ap (packed bits) (unpacked_layout u)
      ∙ packed_layout (fields_of r q)
      ∙ ap (λ (k : ℕ). k * 2 ^ bits + r) (above_of_fields r q few)
      ∙ split u bits
