use Rattle.std.proofs.Common.{◌≡◌, ◌++◌, [], append-nil, sym, ap, subst, ◌∙◌, rules}
use Rattle.http_header.specs.HeaderMap.{pairs}
use Rattle.mock_request.specs.Request.{headers_of}
use Rattle.recorder.specs.Forwarding.{IsRelayed, passed_back}
use Rattle.recorder.proofs.ForwardingLemmas.{relayed_by}
use Rattle.recorder.proofs.forwarding.relayed_headers.Goals as goal

pub returns : goal.returns
returns c =
    let received = headers_of (pairs c.args.received.now) in
    let unsorted = c.loop-name.relayed.items in
    let ended : c.loop-name.name-iterator ≡ [] = search rules in
    let whole : unsorted ≡ passed_back received received =
    sym (append-nil unsorted) ∙ ap (λ rest. unsorted ++ passed_back received (headers_of rest)) (sym ended)
    ∙ c.loop-name.invariant.whole in
    subst (IsRelayed received) (sym c.from.ensures)
    (relayed_by received unsorted c.sort.new.headers.items whole c.loop-name.invariant.fields c.sort.ensures.same
    c.in_ok-sort.ensures.in_order c.sort.ensures.stable)
