use Rattle.std.proofs.Common.{◌≡◌, ◌+◌, ◌∷◌, ◌++◌, ◌∙◌, [], ℕ, Vec, ap, arith, drop, inl, map, rules, subst, sym, take}
use Rattle.std.proofs.lemmas.List.{map-append, take_more}
use Rattle.mapping_commands.proofs.DocumentLemmas.{spell_push, split_mapped}
use Rattle.mapping_commands.specs.Answering.{SpellDocuments}
use Rattle.mapping_json.specs.Documents.{IsMappingsError, SpellMappings}
use Rattle.mapping_commands.proofs.fresh.mappings_of.Goals as goal

pub returns-in-Err-clause-refusal : goal.returns-in-Err-clause-refusal
returns-in-Err-clause-refusal c =
    let texts = c.args.texts.now in
    let i = c.loop-text.text-index in
    let text = c.text-item.result in
    let bytes = λ (document : Vec ℕ _). document.items in
    let more : take (i + 1) texts ≡ take i texts ++ text ∷ [] =
    take_more texts i text (omega arith) ∙ ap (λ t. take i texts ++ t ∷ []) (sym c.text-item.is) in
    inl (record {
      before = map bytes (take i texts);
      bytes = text.items;
      after = map bytes (drop (i + 1) texts);
      mappings = c.loop-text.mappings.items;
      e = c.in-Err.error;
      whole = split_mapped bytes texts i text more;
      read = c.loop-text.invariant;
      refused = subst (λ b. IsMappingsError c.args.escape b c.in-Err.error) c.as_slice.ensures.value
          c.in-Err.ensures.error;
      is = search rules;
    })

pub loop-text-preserved : goal.loop-text-preserved
loop-text-preserved c =
    let texts = c.args.texts.now in
    let i = c.loop-text.text-index in
    let text = c.text-item.result in
    let bytes = λ (document : Vec ℕ _). document.items in
    let more : map bytes (take (i + 1) texts) ≡ map bytes (take i texts) ++ text.items ∷ [] =
    ap (map bytes) (take_more texts i text (omega arith) ∙ ap (λ t. take i texts ++ t ∷ []) (sym c.text-item.is))
    ∙ map-append bytes (take i texts) (text ∷ []) in
    let spelled = subst (λ b. SpellMappings c.args.escape b c.in-Ok.more.items) c.as_slice.ensures.value
    c.in-Ok.ensures.ok in
    subst (λ ds. SpellDocuments c.args.escape ds c.append.new.self.items) (sym more)
    (subst (SpellDocuments c.args.escape (map bytes (take i texts) ++ text.items ∷ []))
    (sym c.in_ok-append-in-Ok.ensures.items)
    (spell_push c.args.escape (map bytes (take i texts)) c.loop-text.mappings.items text.items c.in-Ok.more.items
    c.loop-text.invariant spelled))
