use Rattle.template_tags.proofs.Raised.{tag_sound_within}
use Rattle.template_tags.proofs.laws.law_tags_are_sound.Goals as goal

pub returns : goal.returns
returns c = tag_sound_within
