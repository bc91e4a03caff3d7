-- `fates::became` meets its contract: what it is judged by is m.
use Rattle.std.proofs.Common.{refl, ◌∙◌}
use mir.Facts.{to_z-of_z}
use Rattle.price.specs.Level.{scaled}
use Rattle.fates.proofs.became.Goals as goal

pub returns : goal.returns
unfolding scaled
returns c =
    c.judged.ensures
    ∙ rw (
      c.from-2.ensures,
      c.unsigned_abs-2.ensures.value,
      c.rounded-m.ensures.0,
      c.of.ensures.shift,
      c.of.ensures.q,
      c.from.ensures,
      c.unsigned_abs.ensures.value,
      to_z-of_z c.ranges.c,
      to_z-of_z c.ranges.level,
    ) refl
