use Rattle.template_words.proofs.Finding.{strip_is}
use Rattle.template_words.proofs.marks.after_mark.Goals as goal

pub returns : goal.returns
returns c = strip_is c.args.mark.now c.args.text.now c.strip_prefix.result c.strip_prefix.ensures.cases
