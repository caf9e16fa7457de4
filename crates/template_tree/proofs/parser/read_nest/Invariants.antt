use Rattle.std.proofs.Common.{length}
use denote.Text.{Utf8}
use denote.Shadow.{shadow}
use Rattle.template_tree.specs.Inner.Frames.{nest_view, Read}
use Rattle.template_tree.specs.Source.{with_escape}
use Rattle.template_tree.proofs.parser.read_nest.Given as goal

abbrev pub invariant-loop-rest : goal.invariant-loop-rest
invariant-loop-rest l = record {
  utf8 : shadow (Utf8 l.rest);
  read : Read (with_escape l.fn.escape l.text) (nest_view l.nest) l.rest;
}

abbrev pub decreases-loop-rest : goal.decreases-loop-rest
decreases-loop-rest l = length l.rest
