use Rattle.std.proofs.Common.{◌≡◌, ◌+◌, ◌∷◌, ◌++◌, [], None, Some, take, ap, sym, subst, arith, ◌∙◌}
use Rattle.std.proofs.lemmas.List.{take_more}
use Rattle.request_match.specs.Inner.FirstError.{IsFirstError}
use Rattle.request_match.proofs.ErrorLemmas.{none_added, of_all, body_error}
use Rattle.request_match.proofs.body_test.build_body.Goals as goal
use Rattle.request_match.proofs.body_test.build_body.Goals.{in-Ok+in_ok-push-in-Ok, in-Err}

pub loop-spec-preserved : goal.loop-spec-preserved
loop-spec-preserved c =
    let specs = c.args.specs.now in
    let i = c.loop-spec.spec-index in
    let item = c.spec-item.result in
    let more : take (i + 1) specs ≡ take i specs ++ item ∷ [] =
    take_more specs i item (omega arith) ∙ ap (λ s. take i specs ++ s ∷ []) (sym c.spec-item.is) in
    elim c.match-build.branch [
      | in-Ok+in_ok-push-in-Ok w ↦ record {
        is_first = subst (λ f. IsFirstError f (take (i + 1) specs)) (sym w.first-is)
            (subst (IsFirstError c.loop-spec.first) (sym more)
            (none_added c.loop-spec.first (take i specs) (item ∷ [])
            c.loop-spec.invariant.is_first w.in-Ok.ensures.usable));
        built = λ none. ap (λ v. v.items) w.tests-is ∙ w.in_ok-push-in-Ok.ensures
            ∙ ap (λ ts. ts ++ w.in-Ok.test ∷ []) (c.loop-spec.invariant.built (sym w.first-is ∙ none))
            ∙ ap (λ t. take i specs ++ t ∷ []) w.in-Ok.ensures.ok ∙ sym more;
      }
      | in-Err w ↦ record {
        is_first = subst (λ f. IsFirstError f (take (i + 1) specs)) (sym w.first-is)
            (subst (IsFirstError (Some w.first_error.result)) (sym more)
            (w.first_error.ensures (take i specs) (item ∷ [])
            c.loop-spec.invariant.is_first w.in-Err.ensures.refusal));
        built = λ none. absurd cc (sym w.first-is ∙ none);
      }
    ]

pub returns-in-Some-clause-refusal : goal.returns-in-Some-clause-refusal
returns-in-Some-clause-refusal c =
    body_error c.in-Some.error c.args.specs.now
    (of_all c.loop-spec.first (Some c.in-Some.error) c.loop-spec.spec-index c.args.specs.now (omega arith) c.in-Some.is
    c.loop-spec.invariant.is_first)

pub returns-in-None-clause-patterns : goal.returns-in-None-clause-patterns
returns-in-None-clause-patterns c =
    (of_all c.loop-spec.first None c.loop-spec.spec-index c.args.specs.now (omega arith) c.in-None.is
    c.loop-spec.invariant.is_first).passed.patterns_are (omega arith)

pub returns-in-None-clause-trees : goal.returns-in-None-clause-trees
returns-in-None-clause-trees c =
    (of_all c.loop-spec.first None c.loop-spec.spec-index c.args.specs.now (omega arith) c.in-None.is
    c.loop-spec.invariant.is_first).passed.trees (omega arith)

pub returns-in-None-clause-paths : goal.returns-in-None-clause-paths
returns-in-None-clause-paths c =
    (of_all c.loop-spec.first None c.loop-spec.spec-index c.args.specs.now (omega arith) c.in-None.is
    c.loop-spec.invariant.is_first).passed.paths (omega arith)
