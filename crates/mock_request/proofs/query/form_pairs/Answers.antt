use Rattle.std.proofs.Common.{sym, ◌∙◌}
use Rattle.mock_request.proofs.QueryLemmas.{no_pair_left, texts_of_form}
use Rattle.mock_request.proofs.query.form_pairs.Goals as goal

pub returns : goal.returns
returns c =
    no_pair_left c.loop-pair.pairs.items _ _ c.loop-pair.invariant c.in-None.ensures.steps
    ∙ sym (texts_of_form c.args.form.now)
