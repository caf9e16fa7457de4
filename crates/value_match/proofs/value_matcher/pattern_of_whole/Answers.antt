use Rattle.value_match.proofs.PatternLemmas.{pattern_of_read}
use Rattle.value_match.proofs.value_matcher.pattern_of_whole.Goals as goal

pub returns-clause-pattern : goal.returns-clause-pattern
returns-clause-pattern c =
    (c.in_ok-check_alone.ensures.pattern, pattern_of_read _ _ _ c.in_ok-pattern.ensures.read.2)
