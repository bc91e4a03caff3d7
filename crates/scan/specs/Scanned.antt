-- What is lent for a scan, with the width and the height that it is of: code that goes along it need not ask again.
use Rattle.std.specs.Prelude.{◌≡◌, List, ℕ, ◌*◌, ◌≤◌, length}
use Rattle.scan.specs.Scan.{most_places, scan}

-- the scan of a block w wide and h high is held, which is no larger than the largest
pub record Scanned (w h : ℕ) (held : List ℕ) : Type 0 where
  pub is : held ≡ scan w h
  pub wide : 1 ≤ w
  pub high : 1 ≤ h
  pub full : length (scan w h) ≡ w * h
  pub few : w * h ≤ most_places
