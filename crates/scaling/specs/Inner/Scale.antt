-- The scale of a block as code holds it, and the square of an error worked out by it.
use Rattle.std.specs.Prelude.{◌≡◌, List, ℕ, ◌+◌, ◌*◌, ◌^◌, ◌≤◌}
use Rattle.tables.specs.Scales.{scale_of, error_scale}
use Rattle.price.specs.Level.{shift_of, distortion}
use Rattle.scaling.specs.declared.scale.Scale.{Scale}
use Rattle.scaling.specs.Inner.Sound.{SoundNumbers}

-- each scale that code holds is
abbrev pub Sound : Scale → Type 0
Sound g = SoundNumbers g.q g.shift g.unit g.half g.error g.front g.rest g.least

-- a row of scales that code can hold: from 4096 on E and the least |c| fit, and up to 32767 what is left of q·E does
pub record Usable (row : List ℕ) : Type 0 where
  pub low : (qp : ℕ) → 4096 ≤ scale_of row qp
  pub high : (qp : ℕ) → scale_of row qp ≤ 32767

pub record ScaleOf (row : List ℕ) (l qp : ℕ) (g : Scale) : Type 0 where
  pub q : g.q ≡ scale_of row qp
  pub shift : g.shift ≡ shift_of l qp
  pub error : g.error ≡ error_scale l g.q

-- the error of a magnitude near L is no larger than that of 0
pub record Near (g : Scale) (L a : ℕ) : Type 0 where
  pub twice : a * g.unit ≤ L + L
  pub scaled : L * g.error ≤ 2 ^ 49

pub record Distortion (g : Scale) (L a r : ℕ) : Type 0 where
  pub is : r ≡ distortion g.shift g.error L a
  pub small : r ≤ 2 ^ 58
