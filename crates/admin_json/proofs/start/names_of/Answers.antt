use Rattle.std.proofs.Common.{◌≡◌, sym, ap, ◌∙◌, rules, string_bytes}
use Rattle.admin_json.specs.Start.{name_at}
use Rattle.json_reading.proofs.Lists.{joined, joined-pushed}
use Rattle.json_reading.specs.Fields.{each_member}
use Rattle.json_reading.specs.Reading.{pushed}
use Rattle.serde_json.specs.View.{view, members_view}
use Rattle.admin_json.proofs.start.names_of.Goals as goal

pub loop-name-preserved : goal.loop-name-preserved
loop-name-preserved c =
    let found = c.loop-name.names in
    let part = name_at (string_bytes c.in-Some-2.name.now) (view c.in-Some-2.member.now) in
    let text : c.as_str.result.now ≡ string_bytes c.in-Some-2.name.now = search rules in
    let read = c.in_ok-name_at.ensures ∙ ap (λ name. name_at name (view c.in-Some-2.member.now)) text in
    let rest = each_member name_at (members_view c.next.new.self) in
    c.loop-name.invariant
    ∙ ap (λ es. joined found (each_member name_at (members_view es))) c.in-Some-2.ensures.steps
    ∙ joined-pushed found part rest
    ∙ ap (λ list. joined list rest) (sym (c.in_ok-names.ensures ∙ ap (pushed found) read))
