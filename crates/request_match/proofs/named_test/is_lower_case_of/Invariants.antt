use Rattle.std.proofs.Common.{◌≡◌, take, map}
use Rattle.std.specs.Char.{to_ascii_lowercase}
use Rattle.request_match.proofs.named_test.is_lower_case_of.Given as goal

abbrev pub invariant-loop-i : goal.invariant-loop-i
invariant-loop-i l = map to_ascii_lowercase (take l.i l.fn.name) ≡ take l.i l.fn.text
