use Rattle.std.proofs.Common.{codes, arith}
use Rattle.template_words.proofs.Finding.{find_is, find_cut}
use Rattle.template_words.proofs.marks.mark_offset.Goals as goal

pub returns : goal.returns
returns c = record {
  value = find_is (codes "{{") c.args.text.now c.find.result (omega arith) c.find.ensures.cases;
  cut = find_cut (codes "{{") c.args.text.now c.find.result c.find.ensures.cases;
}
