use Rattle.std.proofs.Common.{sym, ap, ◌∙◌, ◌∷◌, ◌≡◌, ◌+◌, drop, arith}
use Rattle.std.proofs.lemmas.List.{drop_more}
use Rattle.json_reading.proofs.Lists.{joined, joined-pushed}
use Rattle.json_reading.specs.Fields.{each_item}
use Rattle.json_reading.specs.Reading.{pushed}
use Rattle.request_json.specs.BodyReading.{reading_of_body}
use Rattle.serde_json.specs.View.{view, items_view}
use Rattle.request_json.proofs.request_reading.patterns_of.Goals as goal

pub loop-item-preserved : goal.loop-item-preserved
loop-item-preserved c =
    let found = c.loop-item.patterns in
    let x = c.item-item.result in
    let i = c.loop-item.item-index in
    let all = c.deref-item-items.result.now in
    let here : drop i all ≡ x ∷ drop (i + 1) all =
    drop_more all i x (omega arith) ∙ ap (λ y. y ∷ drop (i + 1) all) (sym c.item-item.is) in
    let rest = each_item reading_of_body (items_view (drop (i + 1) all)) in
    c.loop-item.invariant
    ∙ ap (λ xs. joined found (each_item reading_of_body (items_view xs))) here
    ∙ joined-pushed found (reading_of_body (view x)) rest
    ∙ ap (λ list. joined list rest) (sym (c.in_ok-patterns.ensures ∙ ap (pushed found) c.in_ok-body_of.ensures))
