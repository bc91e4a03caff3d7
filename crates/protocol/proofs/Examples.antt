-- The definition at some whole lines of the verbs whose calls answer a verdict alone, of `guarded`, of `measure` and of
-- those with a list. The fields of a line differ, so that one taken for the other shows. The answers were worked out by
-- a program that shares nothing with the definitions.
use mathlib.Core.Path.{◌≡◌, refl}
use mathlib.Core.List.{List, ◌++◌}
use Prim.Native.Nat.{ℕ}
use lib.Ieee.{of_bits}
use Rattle.tables.specs.Scales.{back}
use Rattle.runs.specs.Call.{write_answer, write_list, read_verdict, read_buffer}
use Rattle.transform.specs.Call.{trans_buffer}
use Rattle.decoding.specs.Call.{scale_buffer, inverse_buffer}
use Rattle.price.specs.Costs.{costs_of}
use Rattle.heights.specs.Call.{measure_answer}
use Rattle.guarding.specs.Call.{guarded_request, guarded_answer, guarded_buffer}
use Rattle.text.specs.Text.{bytes}
use Rattle.protocol.specs.Answer.{answer_to}

transformed : answer_to (bytes "transform 1 1 4 1 2 3 4") ≡ bytes "accepted : 80 -16 -32 0"
unfolding answer_to trans_buffer
transformed = refl

-- 4 wide and 2 high, with a surplus
inverted :
    answer_to (bytes "inverse 2 1 9 91 -250 3 7 -1900 20 0 -61 -32768")
    ≡ bytes "accepted : -67 -58 -55 -46 52 55 70 72 -32768"
unfolding answer_to inverse_buffer
inverted = refl

-- side 2 at QP 17
scaled_back_lem : answer_to (bytes "scaleback 1 17 4 9 -2 -32768 32767") ≡ bytes "accepted : 648 -144 -32768 32767"
unfolding answer_to scale_buffer back
scaled_back_lem = refl

-- the first refusal of three, two and one
side_refused : answer_to (bytes "scaleback 6 64 1 2") ≡ bytes "refused 1 0 : 2"
unfolding answer_to scale_buffer
side_refused = refl

qp_refused : answer_to (bytes "scaleback 1 64 1 2") ≡ bytes "refused 2 0 : 2"
unfolding answer_to scale_buffer
qp_refused = refl

length_refused : answer_to (bytes "inverse 1 2 7 1 2 3 4 5 6 7") ≡ bytes "refused 5 0 : 1 2 3 4 5 6 7"
unfolding answer_to inverse_buffer
length_refused = refl

past_32_bits : answer_to (bytes "scaleback 1 4294967296 4 1 2 3 4") ≡ bytes "malformed"
unfolding answer_to
past_32_bits = refl

-- U and V of a block, with a surplus; U lighter by 2 where 2 and where 1 is allowed
abbrev guarded_line : List ℕ → List ℕ
guarded_line lighter =
    bytes "guarded 2 6 31 3fa7700000000000 14 3faf400000000000 24 3f9c200000000000 2 0 1 5 0 "
    ++ lighter ++ bytes " 4 310 28365 25447 43284 35203 24429 44970 45197 4594 18607 13666 14409 36614 27580"
    ++ bytes " 8674 41287 1071 43035 35060 49408 12891 43307 34547 49964 7598 13705 13517 23789 25 "
    ++ bytes "4 5 28 5 -18 -19 -10 -10 7 -23 32 -26 6 -33 -23 29"
    ++ bytes " -2 -5 -9 4 11 -12 20 -12 77"

guarded :
    answer_to (guarded_line (bytes "2"))
    ≡ bytes "accepted 0 0 3 1340826756 1 4186996535 0 1 5 0 2 4 : "
    ++ bytes "4 5 28 5 -18 -19 -10 -10 7 -23 32 -26 6 -33 -23 29"
    ++ bytes " -2 -2 0 2 0 3 0 0 77"
unfolding answer_to guarded_request guarded_answer guarded_buffer costs_of of_bits
guarded = refl

height_refused :
    answer_to (guarded_line (bytes "1"))
    ≡ bytes "refused 15 1 : "
    ++ bytes "4 5 28 5 -18 -19 -10 -10 7 -23 32 -26 6 -33 -23 29"
    ++ bytes " -2 -5 -9 4 11 -12 20 -12 77"
unfolding answer_to guarded_request guarded_answer guarded_buffer costs_of of_bits
height_refused = refl

-- five residuals and five levels; flags that mean nothing
measured :
    answer_to (bytes "measure 1 17 4294967295 5 10 50 -30 7 -100 900 3 -1 0 2 -5")
    ≡ bytes "accepted 41 114 : 50 -30 7 -100 900 3 -1 0 2 -5"
unfolding answer_to measure_answer back
measured = refl

-- more residuals than samples: no levels
no_levels :
    answer_to (bytes "measure 1 17 0 18446744073709551615 8 50 -30 7 -100 900 3 -1 0")
    ≡ bytes "refused 5 0 : 50 -30 7 -100 900 3 -1 0"
unfolding answer_to measure_answer
no_levels = refl

-- a block of side 2 and a surplus; two symbols, and a number of the list behind them
written :
    answer_to (bytes "write 1 3 9 8 7 5 0 -5 0 32767 77")
    ≡ bytes "accepted 2 : 33559553 100662273 7 : 0 -5 0 32767 77"
unfolding answer_to write_answer write_list
written = refl

room_refused : answer_to (bytes "write 1 1 9 4 1 0 0 -1") ≡ bytes "refused 10 0 : 9 : 1 0 0 -1"
unfolding answer_to write_answer write_list
room_refused = refl

read_back :
    answer_to (bytes "read 1 2 33559553 100662273 5 1 2 3 4 77")
    ≡ bytes "accepted : 33559553 100662273 : 0 -5 0 32767 77"
unfolding answer_to read_verdict read_buffer
read_back = refl

-- a list without numbers, and one whose last symbol lacks its mark
none_read : answer_to (bytes "read 1 0 4 1 2 3 4") ≡ bytes "accepted : : 0 0 0 0"
unfolding answer_to read_verdict read_buffer
none_read = refl

symbol_refused : answer_to (bytes "read 1 1 1024 4 1 2 3 4") ≡ bytes "refused 11 0 : 1024 : 1 2 3 4"
unfolding answer_to read_verdict read_buffer
symbol_refused = refl
