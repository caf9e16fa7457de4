use Rattle.template_code.proofs.ItemFacts.{comes-open}
use Rattle.template_code.proofs.laws.law_open_loops_have_an_item.Goals as goal

pub returns : goal.returns
returns c = comes-open
