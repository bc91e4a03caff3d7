-- A list where the verb has one: K, and so many numbers behind it.
use Rattle.std.proofs.Common.{drop, sym, ◌∙◌, arith}
use lib.Seq.{length-take-le}
use Rattle.requests.proofs.Lists.{seam, no_list, no_count, numbers}
use Rattle.requests.proofs.request.read_list.Goals as goal

pub returns-then-not-has_list-clause-value : goal.returns-then-not-has_list-clause-value
returns-then-not-has_list-clause-value c = no_list _ _ (sym c.if-not-has_list.ensures)

pub returns-in_err-k-clause-value : goal.returns-in_err-k-clause-value
returns-in_err-k-clause-value c =
    rw (c.from_residual.ensures, ← c.if-not-has_list.ensures) (no_count _ c.in_err-k.ensures.value)

pub returns-in_err-read_numbers-clause-value : goal.returns-in_err-read_numbers-clause-value
returns-in_err-read_numbers-clause-value c =
    let size = length-take-le c.in_ok-k.k c.args.room.now (omega (arith, c.in_ok-k.ensures.few)) in
    rw (c.from_residual-in_err-read_numbers.ensures, ← c.if-not-has_list.ensures)
    (numbers _ _ _ c.in_ok-k.ensures.value ∙ rw size at c.in_err-read_numbers.ensures)

pub returns-clause-value : goal.returns-clause-value
returns-clause-value c =
    let k = c.in_ok-k.k in
    let p = c.read_numbers in
    let size = length-take-le k c.args.room.now (omega (arith, c.in_ok-k.ensures.few)) in
    rw (← c.if-not-has_list.ensures, seam p.new.room (drop k c.args.room.now) k (p.auto.room ∙ size))
    (numbers _ _ _ c.in_ok-k.ensures.value ∙ rw size at c.in_ok-read_numbers.ensures)
