use Rattle.template_words.proofs.Finding.{split_once_is}
use Rattle.template_words.proofs.marks.around_mark.Goals as goal

pub returns : goal.returns
returns c = split_once_is c.args.mark.now c.args.text.now c.split_once.result c.requires c.split_once.ensures.cases
