use Rattle.std.proofs.Common.{refl}
use Rattle.std.proofs.lemmas.Str.Ascii.{trim_ascii_is}
use Rattle.helper_set.specs.Texts.{without_leading_blanks}
use Rattle.template_machine.proofs.slot.trim.Goals as goal

pub returns : goal.returns
returns c = trim_ascii_is c.args.text.now _ (without_leading_blanks c.args.text.now) refl c.trim_ascii.ensures.value
