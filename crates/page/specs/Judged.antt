-- What became of the coefficients of a block, place by place.
use Rattle.std.specs.Prelude.{◌≡◌, List, ℕ, ◌<◌, ℤ, get_or}
use Rattle.integers.specs.Sum.{at}
use Rattle.fates.specs.Fate.{fate_at}
use Rattle.fates.specs.declared.Fate.{Fate}
use Rattle.fates.specs.declared.Fate.TheVariants.{Nothing}

abbrev pub Judged : (qp : ℕ) → (coefficients levels : List ℤ) → List Fate → Type 0
Judged qp coefficients levels fates =
    (k : ℕ) → k < 64 → get_or fates k Nothing ≡ fate_at qp (at coefficients k) (at levels k)
