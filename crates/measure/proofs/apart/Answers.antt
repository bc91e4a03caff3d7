-- `measure::apart` meets its contract: the loop holds the two extremes of the places that it passed.
use mathlib.Core.Path.{◌≡◌, refl}
use Rattle.std.proofs.Common.{arith, length}
use Rattle.std.proofs.lemmas.Int.{to_z-of_z}
use Rattle.std.proofs.lemmas.List.{length_push}
use Rattle.std.proofs.lemmas.Slice.Zip.{zip_turn, zip_end}
use lib.IntN.{pos}
use Rattle.heights.specs.Extremes.{darker, lighter}
use Rattle.measure.proofs.Differences.{darker_more, lighter_more}
use Rattle.measure.proofs.apart.Goals as goal

pub loop-r-init : goal.loop-r-init
unfolding darker lighter
loop-r-init c = (refl, refl)

pub loop-r-preserved : goal.loop-r-preserved
loop-r-preserved c =
    let r = c.args.residuals.now in
    let s = c.args.shown.now in
    let l = c.loop-r in
    let t = zip_turn r s l.yielded c.into_iter-r-iterator.result l.r-iterator c.next.new.self _ (cc) (cc) l.yielded_by
    (c.in-Some.r, c.in-Some.s) c.in-Some.is c.next.ensures.steps in
    let er = t.2 (pos 0) in
    let es = t.3 (pos 0) in
    let n = length_push l.yielded (c.in-Some.r, c.in-Some.s) in
    grind (arith, to_z-of_z, darker_more, lighter_more)

pub returns : goal.returns
returns c =
    let l = c.loop-r in
    let e = zip_end c.args.residuals.now c.args.shown.now l.yielded c.into_iter-r-iterator.result l.r-iterator
    c.next.new.self _ (cc) (cc) l.yielded_by c.in-None.is c.next.ensures.steps in
    let long : length c.loop-r.yielded ≡ length c.args.residuals.now = omega arith in
    (cc, cc)
