-- `butterfly::odd_half` meets its contract: before the turn n each output has gained n products.
use Rattle.std.proofs.Common.{arith, sym, ◌∙◌, ◌≡◌, ℕ, ◌^◌, ◌<◌, map, length, ap, subst}
use Rattle.std.proofs.lemmas.List.{length-map, get_or-map}
use lib.IntN.{pos}
use Rattle.integers.specs.Sum.{at}
use Rattle.butterfly.specs.Inner.Lines.{spent}
use Rattle.butterfly.proofs.Gains.{gained_none, column_at, turn_fits, turn_gains}
use Rattle.butterfly.proofs.odd_half.Goals as goal

pub loop-n-init : goal.loop-n-init
loop-n-init g c = λ k h. c.requires.by_index k ∙ sym (gained_none _ _ k)

pub add_times-requires-clause-by_index : goal.add_times-requires-clause-by_index
add_times-requires-clause-by_index g c =
    let f = g.T.Number.value in
    let o = c.args.o.now in
    let n = c.loop-n.n in
    let same = length-map o f in
    let value : f c.index-o-n.result ≡ at (map f o) n =
    ap f c.index-o-n.is ∙ sym (get_or-map f o n c.index-o-n.result (pos 0) (omega arith)) in
    λ k h. turn_fits (map f c.args.t.now) (map f o) c.loop-n.b _ n _ (omega arith) value
    (λ k h. column_at f c.args.t.now (length o) (length (map f o)) n k same h)
    (λ k h. c.loop-n.invariant k (omega arith)) (λ k h.
    subst (λ (m : ℕ). spent (map f c.args.t.now) (map f o) m k < 2 ^ 31) (sym same)
    (c.requires.by_index_2 k (omega arith))) k (omega arith)

pub loop-n-preserved : goal.loop-n-preserved
loop-n-preserved g c =
    let f = g.T.Number.value in
    let o = c.args.o.now in
    let n = c.loop-n.n in
    let same = length-map o f in
    let value : f c.index-o-n.result ≡ at (map f o) n =
    ap f c.index-o-n.is ∙ sym (get_or-map f o n c.index-o-n.result (pos 0) (omega arith)) in
    λ k h. c.add_times.ensures k (omega arith)
    ∙ turn_gains (map f c.args.t.now) (map f o) c.loop-n.b _ n _ (omega arith) value
    (λ k h. column_at f c.args.t.now (length o) (length (map f o)) n k same h)
    (λ k h. c.loop-n.invariant k (omega arith)) k (omega arith)
