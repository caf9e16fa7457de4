use Rattle.std.proofs.Common.{◌≡◌, ◌++◌, string_bytes}
use Rattle.std.specs.Str.Iter.{chars_rest}
use Rattle.helper_set.specs.Escape.{html_escaped}
use Rattle.template_machine.proofs.escape.escaped.Given as goal

-- what is made, and the escape of what is left, are the whole
abbrev pub invariant-loop-c : goal.invariant-loop-c
invariant-loop-c l = string_bytes l.made ++ html_escaped (chars_rest l.c-iterator) ≡ html_escaped l.fn.text
