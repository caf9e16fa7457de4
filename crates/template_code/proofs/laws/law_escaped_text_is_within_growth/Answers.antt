use Rattle.template_code.proofs.EscapeFacts.{escaped-length}
use Rattle.template_code.proofs.laws.law_escaped_text_is_within_growth.Goals as goal

pub returns : goal.returns
returns c = escaped-length
