-- The first items are put, each with its space.
use Rattle.std.proofs.Common.{ℕ, ◌+◌, ◌*◌, ◌≤◌, subst, arith, length, length-set}
use native.Mathlib.Nat.{mul-le-mul_left}
use lib.ListN.{set}
use Rattle.text.specs.Text.{Put}
use Rattle.replies.proofs.Spaced.{none_yet_lem, one_more, all_put}
use Rattle.replies.proofs.put_each.Goals as goal

-- one more item has its room
more : (each i n : ℕ) → i + 1 ≤ n → each * (i + 1) ≤ each * n
more each i n h = mul-le-mul_left each h

pub loop-item-init : goal.loop-item-init
loop-item-init g c = none_yet_lem g.T.Shown.text _ (g.T.Shown.most + 1) _ _

pub put-next-requires : goal.put-next-requires
put-next-requires g c =
    let l = c.loop-item in
    let each = g.T.Shown.most + 1 in
    rw length-set (omega (arith, l.invariant.few, l.invariant.room, more each l.item-index (length c.args.items.now) (omega arith)))

pub loop-item-preserved : goal.loop-item-preserved
loop-item-preserved g c =
    let l = c.loop-item in
    let p = c.put-next in
    let each = g.T.Shown.most + 1 in
    let i = l.item-index in
    let text = g.T.Shown.text in
    let room = more each i (length c.args.items.now) (omega arith) in
    one_more text _ each _ _ c.item-item.result i _ _ _ g.T.Shown.most _ (omega arith) (omega (arith, room)) (omega arith)
    l.invariant
    (subst (λ x. Put (set l.out l.next 32) (l.next + 1) (text x) g.T.Shown.most p.new.out p.result) c.item-item.is p.ensures)
    p.auto.out

pub returns : goal.returns
returns g c =
    let l = c.loop-item in
    all_put g.T.Shown.text c.args.items.now (g.T.Shown.most + 1) _ _ l.item-index _ _ (omega arith) l.invariant
