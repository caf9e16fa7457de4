use Rattle.std.proofs.Common.{ap, ◌∙◌}
use Rattle.mock_request.specs.Inner.Parts.{headers_in}
use Rattle.mock_request.proofs.PartsLemmas.{headers_in-fields}
use Rattle.mock_request.proofs.fields.Fields.are_of_map.Goals as goal

pub returns : goal.returns
returns c = λ are. rw (← c.self.view_is) (ap headers_in (c.is_of_map.ensures are) ∙ headers_in-fields _)
