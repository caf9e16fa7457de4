use Rattle.template_tree.proofs.Texts.{are_texts}
use Rattle.template_tree.proofs.Vectors.{are_examples, are_blocks}
use Rattle.template_tree.proofs.laws.law_examples.Goals as goal

pub returns : goal.returns
returns c = record { one_tag = are_examples; blocks = are_blocks; texts = are_texts }
