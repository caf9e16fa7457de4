-- The numbers so far, and those that are left, give the whole.
use Rattle.std.proofs.Common.{◌≡◌, ◌++◌, string_bytes, drop}
use Rattle.std.specs.Prelude.{flat_map}
use Rattle.command_output.specs.Lines.{next_number}
use Rattle.command_output.proofs.lines.numbers.Given as goal

abbrev pub invariant-loop-number : goal.invariant-loop-number
invariant-loop-number l =
    string_bytes l.text ++ flat_map next_number (drop l.number-index l.rest)
    ≡ string_bytes l.initial.text ++ flat_map next_number l.rest
