use Rattle.std.proofs.Common.{◌≡◌, length, map}
use Rattle.template_words.specs.Errors.{joined}
use Rattle.template_tags.specs.Inner.CallReads.{errors_in}
use Rattle.template_tags.specs.Inner.Views.{read_view}
use Rattle.template_tags.proofs.calls.errors_in.Given as goal

abbrev pub invariant-loop-rest : goal.invariant-loop-rest
invariant-loop-rest l = errors_in (map read_view l.reads) ≡ joined l.error (errors_in (map read_view l.rest))

abbrev pub decreases-loop-rest : goal.decreases-loop-rest
decreases-loop-rest l = length l.rest
