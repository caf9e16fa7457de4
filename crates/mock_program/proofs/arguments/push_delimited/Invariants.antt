-- The arguments so far, and those that are left, give the whole.
use Rattle.std.proofs.Common.{◌≡◌, ◌++◌, map, drop}
use Rattle.mock_program.proofs.arguments.push_delimited.Given as goal

abbrev pub invariant-loop-argument : goal.invariant-loop-argument
invariant-loop-argument l =
    map (λ argument. argument.now) l.made.items ++ map (λ argument. argument.now) (drop l.argument-index l.arguments)
    ≡ map (λ argument. argument.now) l.initial.made.items ++ map (λ argument. argument.now) l.arguments
