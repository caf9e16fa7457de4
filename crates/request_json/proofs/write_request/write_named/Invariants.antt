use Rattle.std.proofs.Common.{◌≡◌, drop}
use Rattle.request_json.specs.RequestWritten.{with_named}
use Rattle.serde_json.specs.Data.{no_members}
use Rattle.serde_json.specs.View.{members_view}
use Rattle.request_json.proofs.write_request.write_named.Given as goal

-- what is written, with the matchers that are left, is the whole
abbrev pub invariant-loop-named : goal.invariant-loop-named
invariant-loop-named l =
    with_named l.matchers no_members
    ≡ with_named (drop l.named-index l.matchers) (members_view l.members.entries)
