use Rattle.std.proofs.Common.{ap, ◌∙◌, ◌++◌, lit<}
use Rattle.std.proofs.lemmas.Iterator.Consumers.{YieldsList-end}
use Rattle.std.proofs.lemmas.Iterator.Splits.{YieldsList-from_str_split}
use Rattle.std.specs.List.{filter_map}
use Rattle.std.specs.Str.Iter.{split_text, split_has_more, split_pattern}
use Rattle.mock_request.specs.Cookies.{semicolon, cookie_in, without_spaces_around}
use Rattle.mock_request.specs.Values.{pairs_of}
use Rattle.mock_request.proofs.CookieLemmas.{cookie_pushed, no_cookie_pushed}
use Rattle.mock_request.proofs.cookies.push_cookies.Goals as goal

pub loop-piece-preserved-in_ok-push : goal.loop-piece-preserved-in_ok-push
loop-piece-preserved-in_ok-push c =
    cookie_pushed c.loop-piece.pairs.items _ (pairs_of c.args.pairs.now.items) c.loop-piece.yielded c.in-Some.piece
    (c.in_ok-from_str.field-0, c.in_ok-from_str-2.field-0) c.in-Some-cookie_in.name.now c.in-Some-cookie_in.value.now
    c.loop-piece.invariant c.in_ok-push.ensures.items c.in_ok-from_str.ensures.ok c.in_ok-from_str-2.ensures.ok
    (c.in-Some-cookie_in.ensures ∙ ap cookie_in c.without_spaces_around.ensures)

pub loop-piece-preserved : goal.loop-piece-preserved
loop-piece-preserved c =
    no_cookie_pushed c.loop-piece.pairs.items (pairs_of c.args.pairs.now.items) c.loop-piece.yielded c.in-Some.piece
    c.loop-piece.invariant (c.in_default.ensures ∙ ap cookie_in c.without_spaces_around.ensures)

pub returns : goal.returns
returns c =
    let same = c.into_iter-piece-iterator.ensures.into_iter_gives in
    let split = c.split-piece-items.ensures in
    let given =
    YieldsList-from_str_split semicolon c.args.text.now (lit< tt) (ap split_text same ∙ split.text)
    (ap split_has_more same ∙ split.has_more) (ap split_pattern same ∙ split.pattern) in
    let end =
    YieldsList-end given c.loop-piece.yielded _ c.loop-piece.yielded_by _ _ c.in-None.is c.next.ensures.steps in
    c.loop-piece.invariant
    ∙ ap (λ pieces. pairs_of c.args.pairs.now.items
    ++ filter_map (λ piece. cookie_in (without_spaces_around piece)) pieces) end.0
