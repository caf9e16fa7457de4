use Rattle.std.proofs.Common.{◌≡◌, ◌+◌, ◌<◌, [], true, false, arith, sym, refl, subst, ◌∙◌}
use Rattle.std.proofs.Common.{◌↔◌, length, drop, map, ℕ, List}
use Rattle.std.specs.Char.{to_ascii_lowercase}
use Rattle.std.specs.Str.{bytes_eq}
use Rattle.std.proofs.lemmas.List.{drop_all, length-map}
use Rattle.std.proofs.lemmas.Option.{slice_get-get_or}
use Rattle.mock_request.specs.HeaderFields.{header_pair, header_pairs}
use Rattle.mock_request.specs.Values.{values_of}
use Rattle.request_match.proofs.RestLemmas.{both, answered, matched, matches_read, step_found, step_unmet, step_other}
use Rattle.request_match.proofs.RestLemmas.{at_end}
use Rattle.request_match.specs.Inner.Rest.{MeetsRest}
use Rattle.request_match.proofs.named_test.meets_any_header.Goals as goal
use Rattle.request_match.proofs.named_test.meets_any_header.Goals.{
  in-Some+then-is_lower_case_of+in_ok-matches+else-branch,
  in-Some+else-is_lower_case_of,
  in_default,
}

pub returns-then-branch-clause-answer : goal.returns-then-branch-clause-answer
returns-then-branch-clause-answer c =
    let m = c.args.matcher.now in
    let name = map to_ascii_lowercase c.args.name.now in
    let key = c.in-Some.key.now in
    let named : bytes_eq name key ≡ true = sym c.is_lower_case_of.ensures ∙ c.if-is_lower_case_of.true in
    let value = matched m c.loop-i.matcher c.in-Some.value.now c.in-Some.value.now
    c.loop-i.invariant.same refl (c.in_ok-matches.ensures.answer.0 c.if-branch.true) in (
      λ _. c.loop-i.invariant.left.1 (step_found m name (header_pairs c.args.request.now.headers) c.loop-i.i
          (key, c.in-Some.value.now) (sym c.in-Some.ensures) c.loop-i.found named value),
      λ _. refl,
    )

pub loop-i-preserved : goal.loop-i-preserved
loop-i-preserved c =
    let m = c.args.matcher.now in
    let name = map to_ascii_lowercase c.args.name.now in
    let headers = c.args.request.now.headers in
    let pairs = header_pairs headers in
    let i = c.loop-i.i in
    elim c.match-header.branch [
      | in-Some+then-is_lower_case_of+in_ok-matches+else-branch w ↦
          let pair : List ℕ × List ℕ = (w.in-Some.key.now, w.in-Some.value.now) in
          let named : bytes_eq name pair.0 ≡ true =
          sym w.is_lower_case_of.ensures ∙ w.if-is_lower_case_of.true in
          record {
            same = w.matcher-is ∙ w.in_ok-matches.ensures.same ∙ c.loop-i.invariant.same;
            left = both c.loop-i.invariant.left
                (subst (λ f. MeetsRest c.loop-i.found m (values_of name (drop i pairs))
                ↔ MeetsRest f m (values_of name (drop (i + 1) pairs))) (sym w.found-is)
                (step_unmet m name pairs i pair (sym w.in-Some.ensures) c.loop-i.found named
                (λ v. absurd cc (sym w.if-branch.false ∙ w.in_ok-matches.ensures.answer.1
                (matches_read m c.loop-i.matcher pair.1 pair.1 c.loop-i.invariant.same refl v)))));
          }
      | in-Some+else-is_lower_case_of w ↦
          let pair : List ℕ × List ℕ = (w.in-Some.key.now, w.in-Some.value.now) in
          let other : bytes_eq name pair.0 ≡ false =
          sym w.is_lower_case_of.ensures ∙ w.if-is_lower_case_of.false in
          record {
            same = w.matcher-is ∙ c.loop-i.invariant.same;
            left = both c.loop-i.invariant.left
                (subst (λ f. MeetsRest c.loop-i.found m (values_of name (drop i pairs))
                ↔ MeetsRest f m (values_of name (drop (i + 1) pairs))) (sym w.found-is)
                (step_other m name pairs i pair (sym w.in-Some.ensures) c.loop-i.found other));
          }
      | in_default w ↦
          let within : i < length pairs = omega (arith, length-map headers header_pair, c.header_count-i-end.ensures) in
          let here = slice_get-get_or pairs i ([], []) within in
          let none = w.in_default.ensures in
          absurd (cc)
    ]

pub returns-clause-answer : goal.returns-clause-answer
returns-clause-answer c =
    let pairs = header_pairs c.args.request.now.headers in
    answered c.meets_none.result c.meets_none.ensures.answer
    (at_end c.args.matcher.now c.loop-i.matcher (map to_ascii_lowercase c.args.name.now) pairs c.loop-i.i c.loop-i.found
    c.loop-i.invariant.same
    (drop_all c.loop-i.i pairs (omega (arith, length-map c.args.request.now.headers header_pair)))
    c.loop-i.invariant.left)
