-- The list of the side is as long as what is lent.
use Rattle.std.proofs.Common.{length, ap, sym, ◌∙◌}
use Rattle.scan.proofs.OneToOne.{square_scan_length}
use Rattle.scan.proofs.fill_scan.Goals as goal

pub copy_from_slice-requires : goal.copy_from_slice-requires
copy_from_slice-requires c =
    c.requires.2 ∙ sym (ap length c.listed.ensures ∙ square_scan_length c.args.log2 c.requires.1)
