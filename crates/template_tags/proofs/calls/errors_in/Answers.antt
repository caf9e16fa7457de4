use Rattle.std.proofs.Common.{◌-◌, sym, ap, ◌∙◌, length, map, take, drop}
use Rattle.template_words.specs.Errors.{joined}
use Rattle.template_tags.specs.Inner.CallReads.{errors_in}
use Rattle.template_tags.specs.Inner.Views.{read_view}
use Rattle.template_tags.proofs.Joins.{errors_more}
use Rattle.template_tags.proofs.calls.errors_in.Goals as goal

pub loop-rest-preserved : goal.loop-rest-preserved
loop-rest-preserved c =
    let reads = c.loop-rest.rest.now in
    let later = errors_in (map read_view (take (length reads - 1) (drop 1 reads))) in
    c.loop-rest.invariant
    ∙ errors_more c.loop-rest.error reads c.read-item.result c.in-len1-up.len_at_least c.read-item.is
    ∙ ap (λ e. joined e later) (sym (c.joined-error.ensures ∙ ap (joined c.loop-rest.error) c.error_in.ensures))
