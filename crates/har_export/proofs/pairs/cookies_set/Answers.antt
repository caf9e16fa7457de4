use Rattle.std.proofs.Common.{◌<◌, ◌∙◌, ◌++◌, ◌∷◌, [], ap, length, sym, arith}
use Rattle.har_export.specs.Pairs.{cookies_set}
use Rattle.mock_request.specs.Values.{pair_of}
use Rattle.har_export.proofs.PairLemmas.{cookies_more}
use Rattle.har_export.proofs.pairs.cookies_set.Goals as goal

pub loop-pair-preserved : goal.loop-pair-preserved
loop-pair-preserved c =
    let pairs = c.args.pairs.now in
    let i = c.loop-pair.pair-index in
    let within : i < length pairs = omega arith in
    c.in_ok-push_cookie.ensures
    ∙ ap (λ cs. cs ++ cookies_set (pair_of c.pair-item.result ∷ [])) c.loop-pair.invariant
    ∙ sym (cookies_more pairs i c.pair-item.result within c.pair-item.is)
