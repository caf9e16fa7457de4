use Rattle.std.proofs.Common.{◌≡◌, ◌+◌, true, false, arith, ap, sym, refl, subst, ◌∙◌, ◌↔◌, drop, string_bytes}
use Rattle.std.specs.Str.{bytes_eq}
use Rattle.std.proofs.lemmas.List.{drop_all, length-map}
use Rattle.mock_request.specs.Values.{pairs_of, pair_of, values_of}
use Rattle.request_match.proofs.RestLemmas.{both, answered, matched, matches_read, pair_at, step_found, step_unmet}
use Rattle.request_match.proofs.RestLemmas.{step_other, at_end}
use Rattle.request_match.specs.Inner.Rest.{MeetsRest}
use Rattle.request_match.proofs.named_test.meets_any.Goals as goal
use Rattle.request_match.proofs.named_test.meets_any.Goals.{then-eq+in_ok-matches+else-branch, else-eq}

pub returns-then-branch-clause-answer : goal.returns-then-branch-clause-answer
returns-then-branch-clause-answer c =
    let m = c.args.matcher.now in
    let name = c.args.name.now in
    let item = c.loop-key-item.result in
    let here = pair_at c.args.pairs.now c.loop-key.key-index item (omega arith) c.loop-key-item.is in
    let named : bytes_eq name (string_bytes item.0) ≡ true =
    ap (bytes_eq name) (sym c.as_str.ensures.value) ∙ sym c.eq.ensures ∙ c.if-eq.true in
    let value = matched m c.loop-key.matcher (string_bytes item.1) c.as_str-then-eq.result.now
    c.loop-key.invariant.same c.as_str-then-eq.ensures.value (c.in_ok-matches.ensures.answer.0 c.if-branch.true) in (
      λ _. c.loop-key.invariant.left.1
          (step_found m name (pairs_of c.args.pairs.now) c.loop-key.key-index (pair_of item)
          here c.loop-key.found named value),
      λ _. refl,
    )

pub loop-key-preserved : goal.loop-key-preserved
loop-key-preserved c =
    let m = c.args.matcher.now in
    let name = c.args.name.now in
    let pairs = pairs_of c.args.pairs.now in
    let i = c.loop-key.key-index in
    let item = c.loop-key-item.result in
    let here = pair_at c.args.pairs.now i item (omega arith) c.loop-key-item.is in
    elim c.if-eq.branch [
      | then-eq+in_ok-matches+else-branch w ↦
          let named : bytes_eq name (string_bytes item.0) ≡ true =
          ap (bytes_eq name) (sym c.as_str.ensures.value) ∙ sym c.eq.ensures ∙ w.if-eq.true in
          record {
            same = w.matcher-is ∙ w.in_ok-matches.ensures.same ∙ c.loop-key.invariant.same;
            left = both c.loop-key.invariant.left
                (subst (λ f. MeetsRest c.loop-key.found m (values_of name (drop i pairs))
                ↔ MeetsRest f m (values_of name (drop (i + 1) pairs))) (sym w.found-is)
                (step_unmet m name pairs i (pair_of item) here c.loop-key.found named
                (λ v. absurd cc (sym w.if-branch.false ∙ w.in_ok-matches.ensures.answer.1
                (matches_read m c.loop-key.matcher (string_bytes item.1) w.as_str-then-eq.result.now
                c.loop-key.invariant.same w.as_str-then-eq.ensures.value v)))));
          }
      | else-eq w ↦
          let other : bytes_eq name (string_bytes item.0) ≡ false =
          ap (bytes_eq name) (sym c.as_str.ensures.value) ∙ sym c.eq.ensures ∙ w.if-eq.false in
          record {
            same = w.matcher-is ∙ c.loop-key.invariant.same;
            left = both c.loop-key.invariant.left
                (subst (λ f. MeetsRest c.loop-key.found m (values_of name (drop i pairs))
                ↔ MeetsRest f m (values_of name (drop (i + 1) pairs))) (sym w.found-is)
                (step_other m name pairs i (pair_of item) here c.loop-key.found other));
          }
    ]

pub returns-clause-answer : goal.returns-clause-answer
returns-clause-answer c =
    let pairs = pairs_of c.args.pairs.now in
    answered c.meets_none.result c.meets_none.ensures.answer
    (at_end c.args.matcher.now c.loop-key.matcher c.args.name.now pairs c.loop-key.key-index c.loop-key.found
    c.loop-key.invariant.same
    (drop_all c.loop-key.key-index pairs (omega (arith, length-map c.args.pairs.now pair_of)))
    c.loop-key.invariant.left)
