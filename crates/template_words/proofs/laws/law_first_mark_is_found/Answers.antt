use Rattle.template_words.proofs.Closes as found
use Rattle.template_words.proofs.laws.law_first_mark_is_found.Goals as goal

pub returns : goal.returns
returns c = λ mark text before after some. found.first_mark mark text before after some
