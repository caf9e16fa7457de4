-- What was split so far, and what will be of the rest, is what is split of the whole.
use Rattle.std.proofs.Common.{◌≡◌, ◌++◌, None, length, map, string_bytes}
use Rattle.std.specs.Prelude.{option_copied}
use Rattle.mock_program.specs.Options.{given_of, options_in, words_in}
use Rattle.mock_program.proofs.options.split_rest.Given as goal

abbrev pub invariant-loop-rest : goal.invariant-loop-rest
invariant-loop-rest l = record {
  words : map (λ word. word.now) l.split.words.items ++ words_in (option_copied l.name) (map string_bytes l.rest)
      ≡ map (λ word. word.now) l.fn.split.words.items ++ words_in None (map string_bytes l.fn.arguments);
  options : map given_of l.split.options.items ++ options_in (option_copied l.name) (map string_bytes l.rest)
      ≡ map given_of l.fn.split.options.items ++ options_in None (map string_bytes l.fn.arguments);
}

abbrev pub decreases-loop-rest : goal.decreases-loop-rest
decreases-loop-rest l = length l.rest
