use Rattle.std.proofs.Common.{◌≡◌, ◌+◌, ◌∷◌, ◌++◌, [], ◌||◌, map, string_bytes, take}
use Rattle.std.proofs.Common.{append_assoc, sym, ap, subst, arith, ◌∙◌, refl, rules}
use Rattle.std.proofs.lemmas.List.{map-append, take_all, take_more}
use Rattle.mapping_commands.proofs.LinesOf.{value_more}
use Rattle.mapping_commands.specs.Inner.Reports.{IsChecked, Reports}
use Rattle.mapping_commands.specs.declared.check.Checked.{Checked}
use Rattle.serde_json.specs.View.{view}
use Rattle.mapping_commands.proofs.check.add_values.Goals as goal

pub loop-index-preserved : goal.loop-index-preserved
loop-index-preserved c = λ values so_far.
    let items = c.args.values.now in
    let i = c.loop-index.index in
    let value = c.index-values-index.result in
    let old = c.loop-index.checked in
    let refused = c.in_ok-is_refused.is_refused in
    let new : Checked = record {
      text = c.push_line.new.text;
      is_refused = old.is_refused || refused;
      count = c.in-Some.number;
    } in
    let ds = map view (take i items) in
    let more : map view (take (i + 1) items) ≡ ds ++ view value ∷ [] =
    ap (map view) (take_more items i value (omega arith)
    ∙ ap (λ v. take i items ++ v ∷ []) (sym c.index-values-index.is))
    ∙ map-append view (take i items) (value ∷ []) in
    let number : c.in-Some.number ≡ old.count + 1 = search rules in
    let longer : (values ++ ds) ++ view value ∷ [] ≡ values ++ map view (take (i + 1) items) =
    append_assoc values ds (view value ∷ []) ∙ ap (λ vs. values ++ vs) (sym more) in
    subst (λ vs. IsChecked c.args.escape vs new) longer
    (value_more c.args.escape (values ++ ds) old new (view value) refused (c.loop-index.invariant values so_far)
    (subst (λ n. Reports c.args.escape n (view value) (string_bytes old.text) (string_bytes new.text) refused) number
    c.in_ok-is_refused.ensures) number refl)

pub returns : goal.returns
returns c = λ values so_far.
    let all : take c.loop-index.index c.args.values.now ≡ c.args.values.now =
    take_all c.loop-index.index c.args.values.now (omega arith) in
    subst (λ vs. IsChecked c.args.escape (values ++ map view vs) c.loop-index.checked) all
    (c.loop-index.invariant values so_far)
