-- What `find` finds is the first verb whose word has the same bytes.
use Rattle.std.proofs.Common.{rules, tests, eqb, sym, ◌∙◌}
use Rattle.std.specs.Cmp.Lexicographic.{pointwise}
use Rattle.std.proofs.lemmas.Iterator.Search.{find_from_yields_List}
use Rattle.std.proofs.lemmas.Iterator.Consumers.{YieldsList-from_copied}
use Rattle.std.proofs.lemmas.Iterator.{YieldsList-from_slice}
use Rattle.std.proofs.lemmas.Iterator.Adapters.{option_map_id}
use Rattle.verbs.specs.Verbs.{word_of}
use Rattle.verbs.proofs.Apart.{verbs, first_found}
use Rattle.verbs.proofs.read_verb.Goals as goal

pub returns : goal.returns
returns c =
    sym (option_map_id c.find.result)
    ∙ find_from_yields_List (λ v. pointwise eqb c.args.word.now (word_of v)) _ _ c.find.result c.find.ensures.ran
    (YieldsList-from_copied (YieldsList-from_slice verbs cc)) (λ x b q k. search (rules, tests))
    ∙ first_found c.args.word.now
