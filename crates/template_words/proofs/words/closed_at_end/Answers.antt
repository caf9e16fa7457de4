use Rattle.std.proofs.Common.{length, sym, ◌∙◌}
use Rattle.std.proofs.lemmas.Bool.{eqb-true}
use Rattle.template_words.proofs.Finding.{closed_at_end_yes}
use Rattle.template_words.proofs.words.closed_at_end.Goals as goal

pub returns-then-is_empty : goal.returns-then-is_empty
returns-then-is_empty c =
    closed_at_end_yes c.args.close.now c.args.text.now
    c.in_ok-inner.inner.now c.in_ok-inner.rest.now c.in_ok-inner.ensures
    (eqb-true (length c.in_ok-inner.rest.now) 0 (sym c.is_empty.ensures ∙ c.if-is_empty.true))
