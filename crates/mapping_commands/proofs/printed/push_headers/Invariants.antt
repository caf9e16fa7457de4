use Rattle.std.proofs.Common.{◌≡◌, ◌++◌, take}
use Rattle.std.specs.Prelude.{flat_map}
use Rattle.mapping_commands.specs.Answering.{header_line}
use Rattle.mapping_commands.proofs.printed.push_headers.Given as goal

abbrev pub invariant-loop-header : goal.invariant-loop-header
invariant-loop-header l =
    l.text.items ≡ l.initial.text.items ++ flat_map header_line (take l.header-index l.headers)
