use Rattle.std.proofs.Common.{map, take}
use Rattle.mapping_model.specs.declared.header_lines.HeaderLine.{HeaderLine}
use Rattle.template_tree.specs.Source.{Source}
use Rattle.stub_response.specs.Inner.Alike.{IsNeededBy}
use Rattle.stub_response.proofs.needs.needed_by_headers.Given as goal

abbrev pub invariant-loop-header : goal.invariant-loop-header
invariant-loop-header l =
    IsNeededBy l.needed (map (λ (line : HeaderLine Source). line.value) (take l.header-index l.fn.headers))
