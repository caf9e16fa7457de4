use Rattle.std.proofs.lemmas.Bool.{false≢true}
use Rattle.mapping_model.proofs.OptionFacts.{none_without_value}
use Rattle.mapping_model.proofs.mapping_id.MappingId.parse.Goals as goal

pub returns-in-Err : goal.returns-in-Err
returns-in-Err c = none_without_value _ (λ u found. false≢true (c.in-Err.ensures.ok.1 (u, found)))
