use Rattle.mapping_model.specs.MappingId.{id_of_name}
use Rattle.mapping_model.proofs.mapping_id.named.Goals as goal

pub returns : goal.returns
unfolding id_of_name
returns c = rw c.as_bytes.ensures.value at c.new_v5.ensures.value
