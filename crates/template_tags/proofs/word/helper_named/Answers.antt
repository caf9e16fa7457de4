use Rattle.template_tags.proofs.Helpers.{helper_is}
use Rattle.template_tags.proofs.word.helper_named.Goals as goal

pub returns : goal.returns
returns c = helper_is c.args.text.now c.from_name.result c.from_name.ensures.found c.from_name.ensures.unknown
