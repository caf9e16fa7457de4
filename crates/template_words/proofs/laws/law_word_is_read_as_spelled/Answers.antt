use Rattle.template_words.proofs.Spelled.{word_is_read}
use Rattle.template_words.proofs.laws.law_word_is_read_as_spelled.Goals as goal

pub returns : goal.returns
returns c = word_is_read
