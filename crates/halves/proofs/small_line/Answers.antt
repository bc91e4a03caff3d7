-- `halves::small_line` meets its contract: the line has room, and the row of its coefficients is halved.
use mathlib.Core.Path.{refl, ◌∙◌, ap}
use native.Mathlib.Omega.{arith}
use Rattle.butterfly.specs.Inner.Lines.{place}
use Rattle.columns.proofs.Places.{place_inside}
use Rattle.halves.specs.Inner.Halves.{half}
use Rattle.halves.proofs.small_line.Goals as goal

pub line32-requires : goal.line32-requires
line32-requires c = (
  c.requires.0,
  omega arith,
  record { most = 1047552; each = λ i h. c.requires.2 i (omega arith); room = omega arith },
)

pub returns : goal.returns
returns c = λ k h.
    c.halve.ensures (place 5 k) (omega (arith, place_inside 5 (omega arith) 32 refl k h))
    ∙ ap half (c.line32.ensures.holds k h)
