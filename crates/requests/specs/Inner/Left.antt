-- The words that are left of a line: what the readers of a request take their parts from.
use Rattle.std.specs.Prelude.{◌≡◌, List, [], ℕ, Option, Some, None, length, take}
use Rattle.std.specs.Option.{option_map}
use denote.Ref.{Bor}
use Rattle.requests.specs.declared.words.Words.{Words}
use Rattle.requests.specs.declared.kinds.Kind.{Kind}
use Rattle.requests.specs.Words.{words_of}
use Rattle.requests.specs.Request.{fields_of, Limited}

abbrev pub words_in : Option (Bor (List ℕ)) → List (List ℕ)
words_in None = []
words_in (Some rest) = words_of rest.now

abbrev pub left : Words → List (List ℕ)
left words = words_in words.rest

-- what the fields that were read say, in front of an array, and the words behind them
pub record Fields (kinds : List Kind) (words behind : List (List ℕ)) (r : Option (List ℕ)) : Type 0 where
  pub read : fields_of kinds words ≡ option_map (λ fields. (take (length kinds) fields, behind)) r
  pub within : (fields : List ℕ) → r ≡ Some fields → Limited kinds fields
