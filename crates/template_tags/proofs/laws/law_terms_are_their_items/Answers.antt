use Rattle.template_tags.proofs.Flat.{terms_are_items}
use Rattle.template_tags.proofs.laws.law_terms_are_their_items.Goals as goal

pub returns : goal.returns
returns c = terms_are_items
