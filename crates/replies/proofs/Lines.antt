-- Answer lines out of their parts: what was put at the start of the room, part behind part, is the line.
use mathlib.Core.Path.{◌≡◌, ap, ◌∙◌}
use mathlib.Core.Bool.{Bool}
use Rattle.std.proofs.Common.{Option, Some}
use mathlib.Core.List.{List, ◌++◌}
use Prim.Native.Nat.{ℕ, ◌+◌, ◌*◌, ◌^◌, ◌≤◌, ◌<◌}
use native.Mathlib.Omega.{arith}
use lib.IntN.{ℤ}
use lib.ListN.{length, take, drop, length-append}
use lib.Seq.{take_at}
use Rattle.text.specs.Text.{bytes, printed, printed_sample, Put}
use Rattle.text.proofs.Buffers.{put_both}
use Rattle.text.proofs.Printing.{few_digits}
use Rattle.replies.specs.Reply.{spaced, verdict_text, list_text, reply_text, Written}

pub looser : (before text after : List ℕ) (at few most r : ℕ) → few ≤ most → Put before at text few after r
    → Put before at text most after r
looser before text after at few most r h p =
    record { next = p.next; few = omega (arith, p.few); holds = p.holds }

-- a number of 32 bits has at most ten digits
pub ten_digits : (before after : List ℕ) (at n r : ℕ) → n < 2 ^ 32 → Put before at (printed n) 20 after r
    → Put before at (printed n) 10 after r
ten_digits before after at n r h p =
    record { next = p.next; few = few_digits 9 n (omega arith); holds = p.holds }

pub written : (before text after : List ℕ) (most r : ℕ) → most ≤ 65535 → 0 < length text
    → length after ≡ length before → Put before 0 text most after r → Written text before after r
written before text after most r h k e p =
    record {
      holds = ap (take r) p.holds ∙ take_at text (drop (0 + length text) before) r (omega (arith, p.next));
      some = omega (arith, p.next);
      few = omega (arith, p.next, p.few);
      kept = e;
    }

-- ---- a list behind a colon
pub a_list : (list before parted after : List ℕ) (at r s : ℕ) → at + 2 ≤ length before → Put before at (bytes " :") 2 parted r
    → Put parted r (spaced printed list) (11 * length list) after s
    → Put before at (list_text (Some list)) (2 + 11 * length list) after s
a_list list before parted after at r s h p q =
    put_both before (bytes " :") (spaced printed list) parted after at 2 r (11 * length list) s
    (2 + 11 * length list) h (omega (arith, q.few)) p q

-- ---- the whole line
module _ (accepted : Bool) (numbers : List ℕ) (list : Option (List ℕ)) (long : ℕ) (samples : List ℤ)
    (before told counted behind parted after : List ℕ) where
  -- each part's length is within its room: 8 bytes, 21 for each of up to 12 numbers, 2 and 11 for each number of the
  -- list, 2, 7 for each sample
  pub replied : (a b c d r : ℕ) → length numbers ≤ 12 → 2 * long + length samples ≤ 8192
      → length before ≡ 65536 → length after ≡ length before
      → Put before 0 (verdict_text accepted) 8 told a
      → Put told a (spaced printed numbers) (21 * length numbers) counted b
      → Put counted b (list_text list) (2 + 11 * long) behind c
      → Put behind c (bytes " :") 2 parted d
      → Put parted d (spaced printed_sample samples) (7 * length samples) after r
      → Written (reply_text accepted numbers list samples) before after r
  unfolding reply_text
  replied a b c d r few short room e p q s t u =
      let v = verdict_text accepted in
      let n = spaced printed numbers in
      let k = list_text list in
      let colon = bytes " :" in
      let l = spaced printed_sample samples in
      let room-k = 2 + 11 * long in
      let vn : length (v ++ n) ≡ length v + length n = length-append v n in
      let vnk : length (v ++ n ++ k) ≡ length (v ++ n) + length k = length-append (v ++ n) k in
      let vnkc : length (v ++ n ++ k ++ colon) ≡ length (v ++ n ++ k) + 2 = length-append (v ++ n ++ k) colon in
      let all : length (v ++ n ++ k ++ colon ++ l) ≡ length (v ++ n ++ k ++ colon) + length l =
      length-append (v ++ n ++ k ++ colon) l in
      let numbered = put_both before v n told counted 0 8 a (21 * length numbers) b 260 (omega (arith, p.few))
      (omega (arith, p.few, q.few)) p q in
      let with-list = put_both before (v ++ n) k counted behind 0 260 b room-k c (260 + room-k)
      (omega (arith, numbered.few)) (omega (arith, numbered.few, s.few)) numbered s in
      let closed = put_both before (v ++ n ++ k) colon behind parted 0 (260 + room-k) c 2 d (262 + room-k)
      (omega (arith, with-list.few)) (omega (arith, with-list.few)) with-list t in
      written before (v ++ n ++ k ++ colon ++ l) after 57608 r (omega arith) (omega arith) e
      (put_both before (v ++ n ++ k ++ colon) l parted after 0 (262 + room-k) d (7 * length samples) r 57608
      (omega (arith, closed.few)) (omega (arith, closed.few, u.few)) closed u)
