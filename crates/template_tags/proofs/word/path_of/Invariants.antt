use Rattle.std.proofs.Common.{◌≡◌, take}
use Rattle.template_tags.proofs.word.path_of.Given as goal

abbrev pub invariant-loop-step : goal.invariant-loop-step
invariant-loop-step l = l.copies.items ≡ take l.step-index l.steps
