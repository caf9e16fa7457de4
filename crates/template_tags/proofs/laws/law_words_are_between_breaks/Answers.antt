use Rattle.template_tags.proofs.Between.{word_between, word_last}
use Rattle.template_tags.proofs.laws.law_words_are_between_breaks.Goals as goal

pub returns : goal.returns
returns c = record { between = word_between; last = word_last }
