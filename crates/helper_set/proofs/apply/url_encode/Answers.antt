use Rattle.std.proofs.Common.{◌∙◌}
use Rattle.helper_set.proofs.Escapes.{percent_encode_is}
use Rattle.helper_set.proofs.apply.url_encode.Goals as goal

pub returns : goal.returns
returns c = rw (c.utf8_percent_encode.ensures.text ∙ percent_encode_is c.args.text.now) at c.into_cow.ensures.value
