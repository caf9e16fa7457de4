use Rattle.std.proofs.Common.{◌<◌, ◌≡◌, ◌∙◌, ◌++◌, ◌∷◌, [], ap, length, map, subst, sym, take, arith}
use Rattle.std.proofs.lemmas.List.{map-append}
use Rattle.har_export.specs.Document.{AreEntries, IsEntry}
use Rattle.serde_json.specs.View.{items_of, items_view, view}
use Rattle.har_export.proofs.EntryLemmas.{entries_more}
use Rattle.har_export.proofs.PairLemmas.{taken}
use Rattle.har_export.proofs.har.entries.Goals as goal

pub loop-shared-preserved : goal.loop-shared-preserved
loop-shared-preserved c =
    let target = c.args.target.now in
    let exchanges = c.args.exchanges.now in
    let i = c.loop-shared.shared-index in
    let within : i < length exchanges = omega arith in
    let exchange = c.shared-item.result in
    let entry = c.in_ok-entry_value.field-0 in
    let before = c.loop-shared.values.items in
    let values : items_view c.push.new.self.items ≡ items_of (map view before ++ view entry ∷ []) =
    ap items_view c.in_ok-push.ensures.items ∙ ap items_of (map-append view before (entry ∷ [])) in
    let more =
    entries_more target (take i exchanges) (map view before) exchange (view entry) c.loop-shared.invariant
    (subst (λ x. IsEntry target x (view entry)) c.exchange.ensures c.in_ok-entry_value.ensures) in
    subst (λ es. AreEntries target es (items_view c.push.new.self.items))
    (sym (taken exchanges i exchange within c.shared-item.is))
    (subst (λ ds. AreEntries target (take i exchanges ++ exchange ∷ []) ds) (sym values) more)
