-- A request, read from a whole line of at most 65,535 bytes: the word of a verb, the verb's fields, for some verbs K
-- and a list of K numbers, N, and N samples.
use Rattle.std.specs.Prelude.{Bool, true, false, cond, List, [], ◌∷◌, ℕ, ◌*◌, ◌-◌, ◌≤◌, ◌<◌, ltb, eqb, ℤ, length, get_or, replicate}
use Rattle.std.specs.Prelude.{Option, Some, None}
use Rattle.requests.specs.declared.kinds.Kind.{Kind}
use Rattle.requests.specs.declared.kinds.Kind.TheVariants.{Component, Short, Double, Long}
use Rattle.verbs.specs.declared.Verb.{Verb}
use Rattle.verbs.specs.declared.Verb.TheVariants.{Transform, Quantise, SubBlock, ScaleBack, Inverse, Guarded, Measure}
use Rattle.verbs.specs.declared.Verb.TheVariants.{Write, Read}
use Rattle.numerals.specs.Number.{natural_up_to, sample_of, bits_of}
use Rattle.verbs.specs.Verbs.{verb_of}
use Rattle.requests.specs.Words.{words_of}

-- ---- nothing where a part is nothing, so that `do` reads one part after the other
infixl 1 ◌>>=◌
abbrev pub ◌>>=◌ : {A B : Type 0} → Option A → (A → Option B) → Option B
◌>>=◌ None f = None
◌>>=◌ (Some a) f = f a

-- ---- fields, each by its kind
-- the most that a field of a kind can be
abbrev pub limit_of : Kind → ℕ
limit_of Component = 2
limit_of Short = 4294967295
limit_of Double = 18446744073709551615
limit_of Long = 18446744073709551615

unfoldable pub field_of : Kind → List ℕ → Option ℕ
unfolding bits_of natural_up_to
field_of Component w = natural_up_to (limit_of Component) w
field_of Short w = natural_up_to (limit_of Short) w
field_of Double w = bits_of w
field_of Long w = natural_up_to (limit_of Long) w

-- the 28 costs
abbrev pub cost_kinds : List Kind
cost_kinds = replicate 28 Long

-- the fields of each verb, up to its list or the number of samples:
--   transform: LOG2W LOG2H
--   quantise: COMPONENT LOG2 QP LAMBDA FLAGS, COSTS
--   subblock: LOG2 RUN QPY LAMBDAY QPU LAMBDAU QPV LAMBDAV FLAGS, COSTS
--   scaleback: LOG2 QP
--   inverse: LOG2W LOG2H
--   guarded: those of subblock up to FLAGS, DARKERY DARKERU DARKERV LIGHTERY LIGHTERU LIGHTERV, COSTS
--   measure: LOG2 QP FLAGS RESIDUALS
--   write: LOG2
--   read: LOG2
abbrev pub kinds_of : Verb → List Kind
kinds_of Transform = Long ∷ Long ∷ []
kinds_of Quantise = Component ∷ Long ∷ Short ∷ Double ∷ Short ∷ cost_kinds
kinds_of SubBlock = Long ∷ Short ∷ Short ∷ Double ∷ Short ∷ Double ∷ Short ∷ Double ∷ Short ∷ cost_kinds
kinds_of ScaleBack = Long ∷ Short ∷ []
kinds_of Inverse = Long ∷ Long ∷ []
kinds_of Guarded =
    Long ∷ Short ∷ Short ∷ Double ∷ Short ∷ Double ∷ Short ∷ Double ∷ Short ∷ Short ∷ Short ∷ Short ∷ Short ∷ Short ∷ Short ∷ cost_kinds
kinds_of Measure = Long ∷ Short ∷ Short ∷ Long ∷ []
kinds_of Write = Long ∷ []
kinds_of Read = Long ∷ []

-- a number for each kind, from the words at the front, and the words behind them
unfoldable pub fields_of : List Kind → List (List ℕ) → Option (List ℕ × List (List ℕ))
unfolding field_of
fields_of [] words = Some ([], words)
fields_of (k ∷ kinds) [] = None
fields_of (k ∷ kinds) (w ∷ words) = do
  n ← field_of k w
  (fields, behind) ← fields_of kinds words
  Some (n ∷ fields, behind)

-- no field is above its limit
abbrev pub Limited : List Kind → List ℕ → Type 0
Limited kinds fields = (k : ℕ) → k < length kinds → get_or fields k 0 ≤ limit_of (get_or kinds k Component)

-- ---- K and N
-- such a number, at most `most`, and the words behind it
unfoldable pub count_of : (most : ℕ) → List (List ℕ) → Option (ℕ × List (List ℕ))
unfolding natural_up_to
count_of most [] = None
count_of most (w ∷ words) = do
  n ← natural_up_to most w
  Some (n, words)

-- ---- the list
-- whether a verb has one
abbrev pub has_list : Verb → Bool
has_list Transform = false
has_list Quantise = false
has_list SubBlock = false
has_list ScaleBack = false
has_list Inverse = false
has_list Guarded = false
has_list Measure = false
has_list Write = true
has_list Read = true

-- numbers of 32 bits
abbrev pub list_kinds : ℕ → List Kind
list_kinds k = replicate k Short

-- K and so many of them, and the words behind; where a verb has no list, there is no K, and its list is empty
unfoldable pub list_of : (has : Bool) → List (List ℕ) → Option (List ℕ × List (List ℕ))
unfolding fields_of count_of
list_of false words = Some ([], words)
list_of true words = do
  (k, behind) ← count_of 4096 words
  fields_of (list_kinds k) behind

-- ---- samples
-- the most of them behind a list: 2·K + N is at most 8,192, so that the answer fits its room
abbrev pub most_behind : List ℕ → ℕ
most_behind list = 8192 - 2 * length list

-- all words
unfoldable pub samples_of : List (List ℕ) → Option (List ℤ)
unfolding sample_of
samples_of [] = Some []
samples_of (w ∷ words) = do
  x ← sample_of w
  xs ← samples_of words
  Some (x ∷ xs)

-- so many, and no other number of them
abbrev pub exactly : ℕ → List ℤ → Option (List ℤ)
exactly n xs = cond (eqb (length xs) n) (Some xs) None

unfoldable pub exactly_of : ℕ → List (List ℕ) → Option (List ℤ)
unfolding samples_of
exactly_of n words = do
  xs ← samples_of words
  exactly n xs

-- ---- the request
pub record Request : Type 0 where
  pub verb : Verb
  pub fields : List ℕ
  pub list : List ℕ
  pub samples : List ℤ

-- with these samples, where there are such
unfoldable pub with_samples : Verb → (fields list : List ℕ) → Option (List ℤ) → Option Request
with_samples verb fields list samples = do
  xs ← samples
  Some (record { verb = verb; fields = fields; list = list; samples = xs })

-- behind the list
unfoldable pub behind_list : Verb → (fields list : List ℕ) → List (List ℕ) → Option Request
unfolding count_of exactly_of with_samples
behind_list verb fields list words = do
  (n, behind) ← count_of (most_behind list) words
  with_samples verb fields list (exactly_of n behind)

-- behind the fields
unfoldable pub behind_fields : Verb → List ℕ → List (List ℕ) → Option Request
unfolding list_of behind_list
behind_fields verb fields words = do
  (list, behind) ← list_of (has_list verb) words
  behind_list verb fields list behind

-- behind the verb
unfoldable pub behind_verb : Verb → List (List ℕ) → Option Request
unfolding fields_of behind_fields
behind_verb verb words = do
  (fields, behind) ← fields_of (kinds_of verb) words
  behind_fields verb fields behind

unfoldable pub request_of : List (List ℕ) → Option Request
unfolding verb_of behind_verb
request_of [] = None
request_of (w ∷ words) = do
  verb ← verb_of w
  behind_verb verb words

-- what a line asks for
unfoldable pub asked : List ℕ → Option Request
unfolding words_of request_of
asked line = cond (ltb 65535 (length line)) None (request_of (words_of line))
