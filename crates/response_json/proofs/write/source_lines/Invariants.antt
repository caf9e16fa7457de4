use Rattle.std.proofs.Common.{◌≡◌, map, take}
use Rattle.response_json.specs.Writing.{text_line}
use Rattle.response_json.proofs.write.source_lines.Given as goal

abbrev pub invariant-loop-line : goal.invariant-loop-line
invariant-loop-line l = l.sources.items ≡ map text_line (take l.line-index l.fn.lines)
