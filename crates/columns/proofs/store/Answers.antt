-- `columns::store` meets its contract: the first k entries stand in their places.
use Rattle.std.proofs.Common.{arith, get_or, length, ◌≡◌, ◌≤◌, ◌*◌, ◌+◌, subst}
use Rattle.std.proofs.Math.Nat.{mul-le-mul_right}
use prog.Memory.{size}
use denote.Param.{layout}
use Rattle.std.proofs.lemmas.List.{get_or_read}
use Rattle.columns.specs.Inner.Placed.{PlacedOf}
use Rattle.columns.proofs.Placed.{placed_of_more, place_below}
use Rattle.columns.proofs.store.Goals as goal

pub offset_bounds-dst-k : goal.offset_bounds-dst-k
offset_bounds-dst-k g c =
    let a = c.args in
    let inside : c.loop-k.k * a.width + a.c ≤ length a.dst.now =
    omega (
      arith,
      place_below a.width a.c c.loop-k.k (length a.b.now) (length a.dst.now) c.requires.0 (omega arith)
          c.requires.1,
    ) in
    omega (arith, mul-le-mul_right (size (layout g.row.T)) inside)

pub loop-k-preserved : goal.loop-k-preserved
loop-k-preserved g c = λ d.
    let l = c.loop-k in
    let a = c.args in
    placed_of_more d a.width a.c l.k (λ i. get_or a.b.now i d) a.dst.now l.dst _ c.requires.0
    (omega (
      arith,
      place_below a.width a.c l.k (length a.b.now) (length a.dst.now) c.requires.0 (omega arith)
          c.requires.1,
    ))
    (get_or_read a.b.now l.k c.index-b-k.result (omega arith) c.index-b-k.is d) (l.invariant d)

pub returns : goal.returns
returns g c = λ d.
    let e : c.loop-k.k ≡ length c.args.b.now = omega arith in
    subst (λ m. PlacedOf d c.args.width c.args.c m (λ i. get_or c.args.b.now i d) c.args.dst.now c.loop-k.dst) e
    (c.loop-k.invariant d)
