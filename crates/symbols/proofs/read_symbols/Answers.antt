-- `symbols::read_symbols` meets its contract: what the reader leaves of the block at the front is what is left of the
-- whole buffer.
use Rattle.std.proofs.Common.{ℕ, ◌*◌, arith, sym, ap, ◌∙◌}
use Rattle.std.proofs.lemmas.Bool.Decides.{nat_tests}
use Rattle.runs.specs.Call.{read_verdict, read_buffer}
use Rattle.symbols.proofs.Front.{laid_off}
use Rattle.symbols.proofs.read_symbols.Goals as goal

pub returns-clause-block : goal.returns-clause-block
unfolding read_buffer read_verdict
returns-clause-block c =
    let area = ap (λ (m : ℕ). m * m) (rw c.in_ok-side.ensures.0 at c.length-a.ensures.0) in
    let n = c.length-a.result * c.length-a.result in
    let left = laid_off c.args.log2_side c.in_ok-side.ensures.1 c.args.block.now c.args.list.now n
    area c.if-block-n.false (sym c.misread.ensures ∙ c.if-misread.false) in
    grind (arith, nat_tests)
