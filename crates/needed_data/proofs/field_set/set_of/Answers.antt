use Rattle.needed_data.proofs.FieldSets.{own_name}
use Rattle.needed_data.proofs.field_set.set_of.Goals as goal

pub returns : goal.returns
returns c = own_name c.args.field c.index.result c.index.ensures.index c.index.ensures.within
