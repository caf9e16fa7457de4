-- What is added up and what is left give the whole.
use Rattle.std.proofs.Common.{◌≡◌, ◌++◌, drop}
use Rattle.code_rules.specs.Polynomial.{plus}
use Rattle.mapping_commands.proofs.budgets.sum.Given as goal

abbrev pub invariant-loop-index : goal.invariant-loop-index
invariant-loop-index l =
    l.sum.items ++ plus (drop l.index l.total) (drop l.index l.list) ≡ plus l.total l.list
