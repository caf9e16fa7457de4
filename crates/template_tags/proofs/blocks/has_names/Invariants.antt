use Rattle.std.proofs.Common.{◌≡◌, length, map}
use Rattle.template_tags.specs.Blocks.{has_names}
use Rattle.template_tags.specs.Inner.Scan.{item_view}
use Rattle.template_tags.proofs.blocks.has_names.Given as goal

abbrev pub invariant-loop-rest : goal.invariant-loop-rest
invariant-loop-rest l = has_names (map item_view l.items) ≡ has_names (map item_view l.rest)

abbrev pub decreases-loop-rest : goal.decreases-loop-rest
decreases-loop-rest l = length l.rest
