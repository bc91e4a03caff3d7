-- The definitions at some numbers: the ends of the ranges.
use mathlib.Core.Path.{◌≡◌, refl}
use Prim.Native.Nat.{◌-◌, ◌^◌}
use lib.IntN.{negsuc}
use Rattle.text.specs.Text.{bytes, printed, printed_sample}

zero_printed : printed 0 ≡ bytes "0"
unfolding printed
zero_printed = refl

largest_printed : printed (2 ^ 64 - 1) ≡ bytes "18446744073709551615"
unfolding printed
largest_printed = refl

lowest_printed : printed_sample (negsuc 32767) ≡ bytes "-32768"
unfolding printed_sample
lowest_printed = refl
