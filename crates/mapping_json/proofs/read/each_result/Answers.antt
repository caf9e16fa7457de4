use Rattle.std.proofs.Common.{◌≡◌, ◌+◌, ◌∷◌, ◌++◌, [], take, sym, ap, subst, arith, ◌∙◌}
use Rattle.std.proofs.lemmas.List.{take_all, take_more}
use Rattle.std.specs.List.{AllZip}
use Rattle.mapping_json.specs.Documents.{IsResultOf}
use Rattle.mapping_json.proofs.Zips.{zip_map, zip_push}
use Rattle.serde_json.specs.View.{view}
use Rattle.serde_json.specs.declared.value.Value.{Value}
use Rattle.mapping_json.proofs.read.each_result.Goals as goal

pub loop-value-preserved : goal.loop-value-preserved
loop-value-preserved c =
    let items = c.args.values.now in
    let i = c.loop-value.value-index in
    let value = c.value-item.result in
    let more : take (i + 1) items ≡ take i items ++ value ∷ [] =
    take_more items i value (omega arith) ∙ ap (λ v. take i items ++ v ∷ []) (sym c.value-item.is) in
    subst (λ vs. AllZip (λ (v : Value). IsResultOf c.args.escape (view v)) vs c.push.new.self.items) (sym more)
    (subst (AllZip (λ (v : Value). IsResultOf c.args.escape (view v)) (take i items ++ value ∷ []))
    (sym c.in_ok-push.ensures.items)
    (zip_push (λ (v : Value). IsResultOf c.args.escape (view v)) (take i items) c.loop-value.results.items value
    c.in_ok-result_of.field-0 c.loop-value.invariant c.in_ok-result_of.ensures))

pub returns : goal.returns
returns c =
    let all : take c.loop-value.value-index c.args.values.now ≡ c.args.values.now =
    take_all c.loop-value.value-index c.args.values.now (omega arith) in
    zip_map (IsResultOf c.args.escape) view c.args.values.now c.loop-value.results.items
    (subst (λ vs. AllZip (λ (v : Value). IsResultOf c.args.escape (view v)) vs c.loop-value.results.items)
    all c.loop-value.invariant)
