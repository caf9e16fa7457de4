use Rattle.std.proofs.Common.{◌≡◌, map, sym, ap, subst, ◌∙◌, lit<}
use Rattle.std.proofs.lemmas.List.{get_or_default}
use Rattle.std.proofs.lemmas.Str.Pattern.{contains_char}
use Rattle.mock_request.specs.Target.{question_mark}
use Rattle.path_template.specs.Template.{IsTemplate, piece_of, names_of, pieces_of}
use Rattle.path_template.proofs.Distinct.{AreDistinct, texts}
use Rattle.path_template.proofs.path_template.PathTemplate.parse.Goals as goal

pub returns-clause-spelled : goal.returns-clause-spelled
returns-clause-spelled c =
    let text = c.args.text.now in
    let names : texts c.deref.result.now ≡ names_of (pieces_of text) =
    ap texts c.deref.ensures.value ∙ c.in_ok-names.ensures
    ∙ ap (λ ss. names_of (map piece_of ss)) (c.in-Some.ensures).1 in
    let absent = (contains_char question_mark text c.contains.result c.contains.ensures.cases (lit< tt)).1 in
    record {
      rooted = (c.in-Some.ensures).0;
      no_query = λ has.
          let there = absent has.0 has.1 (get_or_default text has.0 0 question_mark has.1 ∙ has.2) in absurd (cc);
      distinct = subst AreDistinct names ((c.in_ok-are_distinct.ensures).0 c.if-not-branch.false);
    }

pub invariant_of-result : goal.invariant_of-result
invariant_of-result c = subst IsTemplate (sym c.in_ok-from_str.ensures.ok) (returns-clause-spelled c)
