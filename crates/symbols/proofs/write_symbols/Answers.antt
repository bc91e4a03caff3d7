-- `symbols::write_symbols` meets its contract: what the writer leaves of the block at the front is what is left of the
-- whole buffer.
use Rattle.std.proofs.Common.{◌≡◌, ℕ, ◌*◌, ◌^◌, take, arith, sym, ap, ◌∙◌}
use Rattle.std.proofs.lemmas.Bool.Decides.{nat_tests}
use lib.Seq.{length-take-le}
use Rattle.coefficients.proofs.Reaching.{within_largest}
use Rattle.runs.specs.Call.{write_verdict, write_list}
use Rattle.symbols.proofs.Front.{written}
use Rattle.symbols.proofs.write_symbols.Goals as goal

pub write-requires-clause-square : goal.write-requires-clause-square
write-requires-clause-square c =
    let top = c.largest.ensures in
    let a = c.length-a.result in
    let area : a * a ≡ 2 ^ c.args.log2_side * 2 ^ c.args.log2_side = ap (λ (m : ℕ). m * m) (rw c.in_ok-side.ensures.0 at c.length-a.ensures.0) in (
      record {
        side = c.in_ok-side.ensures.1;
        room = length-take-le (a * a) c.args.block.now c.if-block-n.false ∙ area;
      },
      λ k. omega (arith, within_largest (take (a * a) c.args.block.now) k, top.is, top.small, c.if-largest-eq-LOWEST.false),
    )

pub returns-clause-list : goal.returns-clause-list
unfolding write_list write_verdict
returns-clause-list c =
    let area = ap (λ (m : ℕ). m * m) (rw c.in_ok-side.ensures.0 at c.length-a.ensures.0) in
    let left = c.write.ensures ∙ written c.args.log2_side c.in_ok-side.ensures.1 c.args.block.now
    c.args.list.now _ area _ c.count_levels-count.ensures in
    grind (arith, nat_tests)
