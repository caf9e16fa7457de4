use Rattle.mapping_commands.proofs.budgets.total_with.Goals as goal

pub returns-clause-steps_grow : goal.returns-clause-steps_grow
returns-clause-steps_grow c = λ count within. c.in_ok-plus.ensures.grows count (rw c.as_slice.ensures.value within)

pub returns-clause-bytes_grow : goal.returns-clause-bytes_grow
returns-clause-bytes_grow c = λ count within. c.in_ok-plus-2.ensures.grows count (rw c.as_slice-2.ensures.value within)
