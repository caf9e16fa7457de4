use Rattle.std.proofs.Common.{sym, ap, ◌∙◌, string_bytes}
use Rattle.json_reading.proofs.Lists.{joined, joined-pushed}
use Rattle.json_reading.specs.Fields.{each_member}
use Rattle.json_reading.specs.Reading.{pushed}
use Rattle.request_json.specs.RequestReading.{named_matcher_of}
use Rattle.serde_json.specs.View.{view, members_view}
use Rattle.request_json.proofs.named_reading.named_of.Goals as goal

pub loop-name-preserved : goal.loop-name-preserved
loop-name-preserved c =
    let found = c.loop-name.matchers in
    let part = named_matcher_of (string_bytes c.in-Some-2.name.now) (view c.in-Some-2.member.now) in
    let rest = each_member named_matcher_of (members_view c.next.new.self) in
    c.loop-name.invariant
    ∙ ap (λ es. joined found (each_member named_matcher_of (members_view es))) c.in-Some-2.ensures.steps
    ∙ joined-pushed found part rest
    ∙ ap (λ list. joined list rest)
    (sym (c.in_ok-matchers.ensures ∙ ap (pushed found) c.in_ok-named_matcher_of.ensures))
