use Rattle.std.proofs.Common.{◌≡◌, false, length}
use denote.Text.{Utf8}
use denote.Shadow.{shadow}
use Rattle.template_words.specs.Paths.{dotted_parts}
use Rattle.template_words.specs.PathReads.{all_steps}
use Rattle.template_words.proofs.Steps.{with_front}
use Rattle.template_words.proofs.paths.steps_of.Given as goal

abbrev pub invariant-loop-part : goal.invariant-loop-part
invariant-loop-part l = record {
  utf8 : shadow (Utf8 l.rest);
  same : all_steps (dotted_parts false l.text) ≡ with_front l.steps.items (all_steps (dotted_parts false l.rest));
}

abbrev pub decreases-loop-part : goal.decreases-loop-part
decreases-loop-part l = length l.rest
