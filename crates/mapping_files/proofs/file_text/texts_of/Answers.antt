use Rattle.std.proofs.Common.{◌≡◌, ◌+◌, ◌∷◌, ◌++◌, ◌∙◌, [], ℕ, List, ap, arith, map, string_bytes, subst, sym, take}
use Rattle.std.proofs.lemmas.List.{map-append, take_all, take_more}
use Rattle.std.specs.List.{AllZip}
use Rattle.mapping_json.proofs.Zips.{zip_map, zip_push}
use Rattle.mapping_files.specs.Saved.{IsDocumentText}
use Rattle.serde_json.specs.View.{view}
use Rattle.serde_json.specs.declared.value.Value.{Value}
use Rattle.mapping_files.proofs.file_text.texts_of.Goals as goal

abbrev IsText : Value → List ℕ → Type 0
IsText value text = IsDocumentText (view value) text

pub loop-value-preserved : goal.loop-value-preserved
loop-value-preserved c =
    let items = c.args.values.now in
    let i = c.loop-value.value-index in
    let value = c.value-item.result in
    let text = c.in_ok-to_string.field-0 in
    let texts = c.loop-value.texts.items in
    let more : take (i + 1) items ≡ take i items ++ value ∷ [] =
    take_more items i value (omega arith) ∙ ap (λ v. take i items ++ v ∷ []) (sym c.value-item.is) in
    let pushed : map string_bytes c.push.new.self.items ≡ map string_bytes texts ++ string_bytes text ∷ [] =
    ap (map string_bytes) c.in_ok-push.ensures.items ∙ map-append string_bytes texts (text ∷ []) in
    subst (λ vs. AllZip IsText vs (map string_bytes c.push.new.self.items)) (sym more)
    (subst (AllZip IsText (take i items ++ value ∷ [])) (sym pushed)
    (zip_push IsText (take i items) (map string_bytes texts) value (string_bytes text) c.loop-value.invariant
    (c.in_ok-to_string.ensures.order, c.in_ok-to_string.ensures.reads_back)))

pub returns : goal.returns
returns c =
    let all : take c.loop-value.value-index c.args.values.now ≡ c.args.values.now =
    take_all c.loop-value.value-index c.args.values.now (omega arith) in
    zip_map IsDocumentText view c.args.values.now (map string_bytes c.loop-value.texts.items)
    (subst (λ vs. AllZip IsText vs (map string_bytes c.loop-value.texts.items)) all c.loop-value.invariant)
