use Rattle.std.proofs.Common.{◌≡◌, false, length}
use Rattle.template_tags.specs.Items.{lacks_space}
use Rattle.template_words.specs.declared.mode.Mode.TheVariants.{Start}
use Rattle.template_tags.proofs.items.lacks_space.Given as goal

abbrev pub invariant-loop-rest : goal.invariant-loop-rest
invariant-loop-rest l = lacks_space Start false l.content ≡ lacks_space l.mode l.after_close l.rest

abbrev pub decreases-loop-rest : goal.decreases-loop-rest
decreases-loop-rest l = length l.rest
