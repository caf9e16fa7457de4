use Rattle.std.proofs.Common.{◌≡◌}
use Rattle.json_reading.proofs.Lists.{joined}
use Rattle.json_reading.specs.Fields.{each_member}
use Rattle.request_json.specs.RequestReading.{named_matcher_of}
use Rattle.serde_json.specs.View.{members_view}
use Rattle.request_json.proofs.named_reading.named_of.Given as goal

-- what is read, joined with the members that are left, is the whole
abbrev pub invariant-loop-name : goal.invariant-loop-name
invariant-loop-name l =
    each_member named_matcher_of (members_view l.initial.name-iterator)
    ≡ joined l.matchers (each_member named_matcher_of (members_view l.name-iterator))
