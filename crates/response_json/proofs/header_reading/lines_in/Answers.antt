use Rattle.std.proofs.Common.{◌≡◌, ◌∷◌, rules, string_bytes, sym, ap, ◌∙◌}
use Rattle.response_json.specs.Reading.{lines_in, lines_at, joined}
use Rattle.serde_json.specs.View.{view, members_view}
use Rattle.response_json.proofs.Lines.{joined_assoc}
use Rattle.response_json.proofs.header_reading.lines_in.Goals as goal

pub loop-name-preserved : goal.loop-name-preserved
loop-name-preserved c =
    let so_far = c.loop-name.lines in
    let left = c.next.new.self in
    let here = lines_at (string_bytes c.in-Some.name.now) (view c.in-Some.value.now) in
    let next : members_view c.loop-name.name-iterator
    ≡ members_view ((c.in-Some.name.now, c.in-Some.value.now) ∷ left) = search rules in
    let read : c.in_ok-lines_at.field-0 ≡ here =
    c.in_ok-lines_at.ensures ∙ ap (λ name. lines_at name (view c.in-Some.value.now)) c.as_str.ensures.value in
    c.loop-name.invariant
    ∙ ap (λ ms. joined so_far (lines_in ms)) next
    ∙ sym (joined_assoc so_far here (lines_in (members_view left)))
    ∙ ap (λ lines. joined (joined so_far lines) (lines_in (members_view left))) (sym read)
    ∙ ap (λ lines. joined lines (lines_in (members_view left))) (sym c.in_ok-lines.ensures)
