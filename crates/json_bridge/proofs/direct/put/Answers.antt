use Rattle.std.proofs.Common.{◌≡◌, slice_index_or, slice_set, rules, arith, subst, ap, ◌∙◌}
use Rattle.data_tree.specs.Tree.{members_view}
use Rattle.json_bridge.specs.Inner.Direct.{IsFoundAt, BelongsAt, EndBefore}
use Rattle.json_bridge.proofs.Places.{put_changed, put_inserted, put_last, found_within, belongs_within, belongs_at_end}
use Rattle.json_bridge.proofs.direct.put.Goals as goal

pub index_mut-requires : goal.index_mut-requires
index_mut-requires c =
    omega (arith, found_within c.as_str-2.result.now c.in-Ok.index c.as_slice-2.result.now c.in-Ok.ensures, c.as_slice-2.ensures.len)

pub insert-requires : goal.insert-requires
insert-requires c =
    omega (arith, belongs_within c.as_str-2.result.now c.in-Err.index c.as_slice-2.result.now c.in-Err.ensures, c.as_slice-2.ensures.len)

pub returns-in-Ok : goal.returns-in-Ok
returns-in-Ok c =
    let i = c.in-Ok.index in
    let items = c.args.made.now.items in
    let k = c.args.name in
    let at : IsFoundAt k i items =
    subst (λ ms. IsFoundAt k i ms) c.as_slice-2.ensures.value
    (subst (λ name. IsFoundAt name i c.as_slice-2.result.now) c.as_str-2.ensures c.in-Ok.ensures) in
    let same : c.index_mut.result.now ≡ slice_index_or items i c.index_mut.result.now = search rules in
    ap (λ m. members_view (slice_set items i (m.0, c.args.member))) same
    ∙ put_changed k c.args.member i items c.index_mut.result.now at

pub returns-in_ok-insert-in-Err : goal.returns-in_ok-insert-in-Err
returns-in_ok-insert-in-Err c =
    let i = c.in-Err.index in
    let items = c.args.made.now.items in
    let k = c.args.name in
    let at : BelongsAt k i items =
    subst (λ ms. BelongsAt k i ms) c.as_slice-2.ensures.value
    (subst (λ name. BelongsAt name i c.as_slice-2.result.now) c.as_str-2.ensures c.in-Err.ensures) in
    ap members_view c.in_ok-insert-in-Err.ensures.items
    ∙ put_inserted c.args.name c.args.member i items at

pub returns-then-end_before : goal.returns-then-end_before
returns-then-end_before c =
    let items = c.args.made.now.items in
    let k = c.args.name in
    let ends : EndBefore items k =
    subst (λ ms. EndBefore ms k) c.as_slice.ensures.value
    (subst (λ name. EndBefore c.as_slice.result.now name) c.as_str.ensures (c.end_before.ensures c.if-end_before.true)) in
    ap members_view c.in_ok-push.ensures.items
    ∙ put_last k c.args.member items (belongs_at_end k items c.requires ends)
