use Rattle.std.proofs.Common.{ap, ◌∙◌}
use Rattle.std.proofs.lemmas.Result.{on_ok_weaker}
use Rattle.helper_set.specs.declared.signature.HelperSignature.{HelperSignature}
use Rattle.template_compile.specs.Kinds.{expression_kind}
use Rattle.template_tree.proofs.Views.{view_call_two}
use Rattle.template_tags.specs.Expression.{expression_view}
use Rattle.template_compile.proofs.Drafts.{call_two-steps}
use Rattle.template_compile.proofs.expressions.+add_expression.Goals as goal

pub returns-in_ok-convert-in-CallTwo-2 : goal.returns-in_ok-convert-in-CallTwo-2
returns-in_ok-convert-in-CallTwo-2 t c =
    let x = c.in-CallTwo in
    let e = expression_view x.first.value in
    let f = expression_view x.second.value in
    let first = c.into_inner-first.ensures in
    let second = c.into_inner-second.ensures in
    rw (x.is, view_call_two x.helper x.first x.second)
    (on_ok_weaker c.push-in-CallTwo.result
    (λ pushed. call_two-steps x.helper e f c.signature-in-CallTwo.result.first c.second_parameter.result
    c.expression_kind-first_kind.result c.expression_kind-second_kind.result c.args.draft.now
    c.add_expression-in-CallTwo.new.draft c.convert-in-CallTwo.new.draft c.add_expression-in-CallTwo-2.new.draft
    c.convert-in-CallTwo-2.new.draft c.push-in-CallTwo.new.self
    (ap (λ (s : HelperSignature). s.first) c.signature-in-CallTwo.ensures) c.second_parameter.ensures
    (c.expression_kind-first_kind.ensures ∙ ap (λ v. expression_kind (expression_view v)) first)
    (c.expression_kind-second_kind.ensures ∙ ap (λ v. expression_kind (expression_view v)) second)
    (rw first at c.in_ok-add_expression-in-CallTwo.ensures) c.in_ok-convert-in-CallTwo.ensures
    (rw second at c.in_ok-add_expression-in-CallTwo-2.ensures) c.in_ok-convert-in-CallTwo-2.ensures pushed)
    c.push-in-CallTwo.ensures)
