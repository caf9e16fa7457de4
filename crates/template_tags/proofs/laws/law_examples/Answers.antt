use Rattle.template_tags.proofs.Vectors.{are_prints, are_blocks, are_errors, are_unmatched}
use Rattle.template_tags.proofs.laws.law_examples.Goals as goal

pub returns : goal.returns
returns c = record { prints = are_prints; blocks = are_blocks; errors = are_errors; unmatched = are_unmatched }
