use Rattle.std.proofs.lemmas.Str.Pattern.{contains_text}
use Rattle.helper_set.proofs.Contained.{contains_from}
use Rattle.helper_set.proofs.apply.has_part.Goals as goal

pub returns : goal.returns
returns c = contains_from _ _ _ (contains_text _ _ _ c.contains.ensures.cases)
