-- Verdict, numbers, list, colon and samples stand one behind the other.
use Rattle.std.proofs.Common.{◌≡◌, ℕ, List, ◌≤◌, ◌∙◌, length, take, arith, rules}
use lib.Seq.{length-take-le}
use Rattle.replies.proofs.Lines.{replied}
use Rattle.replies.proofs.put_reply.Goals as goal

-- as many numbers are put as are asked for
taken : (numbers : List ℕ) (count : ℕ) → count ≤ 12 → length numbers ≡ 12 → length (take count numbers) ≤ 12
taken numbers count h k = omega (arith, length-take-le count numbers (omega arith))

pub returns : goal.returns
returns c =
    let twelve : length c.args.reply.numbers ≡ 12 = search rules in
    let kept =
    c.put_each.auto.out ∙ c.put_word-parted.auto.out ∙ c.put_list-behind.auto.out ∙ c.put_each-counted.auto.out
    ∙ c.put_verdict-told.auto.out in
    replied _ _ _ _ _ _ _ _ _ _ _ _ _ _ _ _ (taken _ _ c.requires.0 twelve) c.requires.1
    c.requires.2 kept c.put_verdict-told.ensures c.put_each-counted.ensures c.put_list-behind.ensures
    c.put_word-parted.ensures c.put_each.ensures
