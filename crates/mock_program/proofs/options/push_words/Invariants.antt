-- The words so far, and those that are left, give the whole.
use Rattle.std.proofs.Common.{◌≡◌, ◌++◌, map, drop, string_bytes}
use Rattle.mock_program.proofs.options.push_words.Given as goal

abbrev pub invariant-loop-argument : goal.invariant-loop-argument
invariant-loop-argument l =
    map (λ word. word.now) l.words.items ++ map string_bytes (drop l.argument-index l.arguments)
    ≡ map (λ word. word.now) l.initial.words.items ++ map string_bytes l.arguments
