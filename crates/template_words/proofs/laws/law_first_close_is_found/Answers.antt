use Rattle.template_words.proofs.Closes as found
use Rattle.template_words.proofs.laws.law_first_close_is_found.Goals as goal

pub returns : goal.returns
returns c = λ close text content rest some. found.first_close close text content rest some
