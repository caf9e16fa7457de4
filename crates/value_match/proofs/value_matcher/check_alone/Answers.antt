use Rattle.value_match.proofs.PatternLemmas.{pattern_of_read}
use Rattle.value_match.proofs.value_matcher.check_alone.Goals as goal

pub returns-clause-pattern : goal.returns-clause-pattern
returns-clause-pattern c = pattern_of_read _ _ _ c.in_ok-_read.ensures.read
