-- `label::show` lends its room for the picture whole: by a lemma, since the search would count up to its length.
use Rattle.std.proofs.Common.{ℕ, sym}
use Rattle.std.proofs.lemmas.List.{length-replicate}
use Rattle.label.proofs.show.Goals as goal

pub slice_bounds-read_picture-end : goal.slice_bounds-read_picture-end
slice_bounds-read_picture-end g c = sym (length-replicate {0} {A = ℕ} 524288 0)
