use Rattle.std.proofs.Common.{◌≡◌, ◌+◌, ◌∷◌, ◌++◌, [], take, All, ap, sym, subst, arith, ◌∙◌}
use Rattle.std.proofs.lemmas.List.{take_more, map-append}
use Rattle.std.proofs.lemmas.List.Elements.{All-append, All-cons, All-nil}
use Rattle.mapping_model.specs.declared.named_matcher.NamedMatcher.{NamedMatcher}
use Rattle.request_match.specs.Parts.Refusal.{matchers_of}
use Rattle.value_match.specs.Refusal.{HasPattern}
use Rattle.request_match.proofs.named_test.build_tests.Goals as goal

pub loop-spec-preserved : goal.loop-spec-preserved
loop-spec-preserved c =
    let specs = c.args.specs.now in
    let i = c.loop-spec.spec-index in
    let item = c.spec-item.result in
    let more : take (i + 1) specs ≡ take i specs ++ item ∷ [] =
    take_more specs i item (omega arith) ∙ ap (λ s. take i specs ++ s ∷ []) (sym c.spec-item.is) in
    record {
      built = c.in_ok-push.ensures ∙ ap (λ ts. ts ++ c.in_ok-build.field-0 ∷ []) c.loop-spec.invariant.built
          ∙ ap (λ t. take i specs ++ t ∷ []) c.in_ok-build.ensures.ok ∙ sym more;
      patterns = subst (λ xs. All HasPattern (matchers_of xs)) (sym more)
          (subst (All HasPattern) (sym (map-append (λ (m : NamedMatcher). m.matcher) (take i specs) (item ∷ [])))
          (All-append HasPattern _ _ c.loop-spec.invariant.patterns
          (All-cons HasPattern item.matcher [] c.in_ok-build.ensures.pattern (All-nil HasPattern))));
    }
