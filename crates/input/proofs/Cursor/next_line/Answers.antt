-- A line ends in what is left, or it is too long, or what is left is moved.
use Rattle.std.proofs.Common.{inl, inr, rules, arith}
use Rattle.input.proofs.Search.{found_at, none_found}
use Rattle.input.proofs.Moved.{moved_all}
use Rattle.input.proofs.Handing.{handed_out, passed_over, asked_long, asked_moved}
use Rattle.input.proofs.Cursor.next_line.Goals as goal
use Rattle.input.proofs.Cursor.next_line.Goals.{then-passing-2-via-then-passing-2, then-passing-2-via-else-passing-2+then-bytes-buf}

pub returns-then-passing : goal.returns-then-passing
returns-then-passing c =
    let w = c.requires.0 in
    let f = found_at _ _ _ w.order w.held c.in-Some.bytes c.in-Some.ensures in
    passed_over w f.0 f.1 c.if-passing.true

pub returns-in-Some : goal.returns-in-Some
returns-in-Some c =
    let w = c.requires.0 in
    let f = found_at _ _ _ w.order w.held c.in-Some.bytes c.in-Some.ensures in
    handed_out w f.0 f.1 c.if-passing.false

pub returns-then-passing-2 : goal.returns-then-passing-2
returns-then-passing-2 c =
    let w = c.requires.0 in
    let f = none_found _ _ _ w.order w.held c.in_default.ensures in
    elim c.then-passing-2.branch [
      | then-passing-2-via-then-passing-2 v ↦
          asked_long w f (omega arith) (inl v.if-passing-2.true) c.requires.1
      | then-passing-2-via-else-passing-2+then-bytes-buf v ↦
          asked_long w f (omega arith) (inr v.if-bytes-buf.true) c.requires.1
    ]

pub returns : goal.returns
returns c =
    let w = c.requires.0 in
    let f = none_found _ _ _ w.order w.held c.in_default.ensures in
    asked_moved w f (omega arith) c.copy_within.new.self (search rules) c.if-passing-2.false (search rules)
    (rw c.copy_within.ensures.after (moved_all _ _ _ w.order w.held))
