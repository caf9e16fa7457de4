use Rattle.std.proofs.Common.{◌≡◌, take, map}
use Rattle.recorder.specs.Stubs.{header_line}
use Rattle.recorded_stubs.proofs.response.header_lines.Given as goal

abbrev pub invariant-loop-line : goal.invariant-loop-line
invariant-loop-line l = l.kept.items ≡ map header_line (take l.line-index l.lines)
