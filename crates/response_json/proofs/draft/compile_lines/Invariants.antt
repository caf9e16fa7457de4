use Rattle.std.proofs.Common.{◌≡◌, take, All}
use Rattle.response_json.specs.Draft.{values_of, lines_with}
use Rattle.template_machine.specs.Program.{IsProgramText}
use Rattle.response_json.proofs.draft.compile_lines.Given as goal

abbrev pub invariant-loop-line : goal.invariant-loop-line
invariant-loop-line l = record {
  compiled : l.compiled.items ≡ lines_with l.fn.escape (take l.line-index l.fn.lines);
  programs : All IsProgramText (values_of (lines_with l.fn.escape (take l.line-index l.fn.lines)));
}
