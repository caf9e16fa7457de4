use Rattle.std.proofs.lemmas.Str.Pattern.{contains_text}
use Rattle.value_match.proofs.value_matcher.contains.Goals as goal

pub returns : goal.returns
returns c = contains_text _ _ _ c.contains.ensures.cases
