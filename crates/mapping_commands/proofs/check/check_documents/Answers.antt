use Rattle.std.proofs.Common.{◌≡◌, ◌+◌, ◌∷◌, ◌++◌, [], ℕ, Vec, drop, inl, map, slice_index_or, take, sym, ap, subst}
use Rattle.std.proofs.Common.{arith, ◌∙◌, refl}
use Rattle.std.proofs.lemmas.List.{map-append, take_more}
use Rattle.json_reading.specs.Document.{IsDocument}
use Rattle.mapping_commands.proofs.LinesOf.{nothing, split_mapped, values_push}
use Rattle.mapping_commands.specs.Checking.{HasValues}
use Rattle.mapping_json.specs.Documents.{IsOuterError}
use Rattle.mapping_commands.proofs.check.check_documents.Goals as goal

pub loop-index-init : goal.loop-index-init
loop-index-init c = ([], refl, nothing c.args.escape _ c.new.ensures.bytes refl refl)

pub returns-in-Err-clause-error : goal.returns-in-Err-clause-error
returns-in-Err-clause-error c =
    let texts = c.args.documents.now.texts.items in
    let i = c.loop-index.index in
    let text = c.text-item.result in
    let bytes = λ (document : Vec ℕ _). document.items in
    let is_text : text ≡ slice_index_or texts i text =
    c.text-item.is ∙ ap (λ xs. slice_index_or xs i text) c.deref-text-items.ensures.value in
    let more : take (i + 1) texts ≡ take i texts ++ text ∷ [] =
    take_more texts i text (omega arith) ∙ ap (λ t. take i texts ++ t ∷ []) (sym is_text) in
    let (values, has, is) = c.loop-index.invariant in
    inl (record {
      before = map bytes (take i texts);
      bytes = text.items;
      after = map bytes (drop (i + 1) texts);
      values = values;
      whole = split_mapped bytes texts i text more;
      read = has;
      is = subst (λ b. IsOuterError b c.in-Err.error) c.as_slice.ensures.value c.in-Err.ensures.error;
    })

pub loop-index-preserved : goal.loop-index-preserved
loop-index-preserved c =
    let texts = c.args.documents.now.texts.items in
    let i = c.loop-index.index in
    let text = c.text-item.result in
    let bytes = λ (document : Vec ℕ _). document.items in
    let is_text : text ≡ slice_index_or texts i text =
    c.text-item.is ∙ ap (λ xs. slice_index_or xs i text) c.deref-text-items.ensures.value in
    let more : map bytes (take (i + 1) texts) ≡ map bytes (take i texts) ++ text.items ∷ [] =
    ap (map bytes) (take_more texts i text (omega arith) ∙ ap (λ t. take i texts ++ t ∷ []) (sym is_text))
    ∙ map-append bytes (take i texts) (text ∷ []) in
    let (values, has, is) = c.loop-index.invariant in
    let more_of = c.in-Ok.ensures.ok in (
      values ++ more_of.own,
      subst (λ ds. HasValues ds (values ++ more_of.own)) (sym more)
          (values_push (map bytes (take i texts)) values text.items more_of.d more_of.own has
          (subst (λ b. IsDocument b more_of.d) c.as_slice.ensures.value more_of.document) more_of.listed),
      more_of.adds values is,
    )
