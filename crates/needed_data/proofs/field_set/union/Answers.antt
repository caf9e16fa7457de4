use Rattle.needed_data.proofs.FieldSets.{union_first, union_second}
use Rattle.needed_data.proofs.field_set.union.Goals as goal

pub returns-clause-first : goal.returns-clause-first
returns-clause-first c = union_first c.args.set c.args.other

pub returns-clause-second : goal.returns-clause-second
returns-clause-second c = union_second c.args.set c.args.other
