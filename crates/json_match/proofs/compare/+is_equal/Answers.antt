use Rattle.std.proofs.Common.{◌≡◌, ◌+◌, ◌∷◌, inl, inr, true, drop, length, vec_len, ◌<◌, sym, ap}
use Rattle.std.proofs.Common.{subst, ◌∙◌, ◌⊎◌, arith, rules}
use Rattle.std.proofs.lemmas.List.{drop_more}
use Rattle.data_tree.specs.Tree.{view, items_view}
use Rattle.json_match.proofs.Lists.{unequal_lengths, other_lengths, if_they_take, no_partner, partner}
use Rattle.json_match.proofs.Lists.{all_taken, none_is_left, length-items_view, not_true, not_false}
use Rattle.json_match.proofs.Takings.{none_taken, no_first, the_first}
use Rattle.json_match.proofs.Takings.{left_of}
use Rattle.json_match.specs.Inner.Walk.{is_equal, each_takes_one}
use Rattle.json_match.proofs.Counting.{if_scalars_take}
use Rattle.json_match.proofs.compare.+is_equal.Goals as goal
use Rattle.json_match.proofs.compare.+is_equal.Goals.{are_equal_in_any_order-else-not-flags-via-then-not-flags+else-len}
use Rattle.json_match.proofs.compare.+is_equal.Goals.{are_equal_in_any_order-else-not-flags-via-else-not-flags}

pub are_equal-returns-then-len : goal.are_equal-returns-then-len
are_equal-returns-then-len t c =
    let expected : vec_len c.args.expected.now ≡ length c.args.expected.now.items = search rules in
    let actual : vec_len c.args.actual.now ≡ length c.args.actual.now.items = search rules in
    sym (unequal_lengths c.args.flags c.args.expected.now.items c.args.actual.now.items (λ same.
    c.if-len.true (c.len.ensures ∙ expected ∙ same ∙ sym (c.len-2.ensures ∙ actual))))

pub are_equal_in_any_order-returns-then-len : goal.are_equal_in_any_order-returns-then-len
are_equal_in_any_order-returns-then-len t c =
    let expected : vec_len c.args.expected.now ≡ length c.args.expected.now.items = search rules in
    let actual : vec_len c.args.actual.now ≡ length c.args.actual.now.items = search rules in
    sym (other_lengths c.args.flags c.args.expected.now.items c.args.actual.now.items
    (not_true c.args.flags.ignore_extra_elements c.if-not-flags.true) (λ same.
    c.if-len.true (c.len.ensures ∙ expected ∙ same ∙ sym (c.len-then-not-flags.ensures ∙ actual))))

pub are_equal_in_any_order-returns-then-are_scalars : goal.are_equal_in_any_order-returns-then-are_scalars
are_equal_in_any_order-returns-then-are_scalars t c =
    let f = c.args.flags in
    let es = c.args.expected.now.items in
    let ts = c.args.actual.now.items in
    let expected : vec_len c.args.expected.now ≡ length es = search rules in
    let actual : vec_len c.args.actual.now ≡ length ts = search rules in
    let fit : (f.ignore_extra_elements ≡ true) ⊎ (length es ≡ length ts) =
    elim c.else-not-flags.branch [
      | are_equal_in_any_order-else-not-flags-via-then-not-flags+else-len w ↦
          inr (sym (w.len.ensures ∙ expected) ∙ w.if-len.false ∙ w.len-then-not-flags.ensures ∙ actual)
      | are_equal_in_any_order-else-not-flags-via-else-not-flags w ↦
          inl (not_false f.ignore_extra_elements w.if-not-flags.false)
    ] in
    if_they_take f es ts c.each_takes_same.result fit
    (if_scalars_take f (items_view es) (items_view ts) c.each_takes_same.result
    (sym c.are_scalars.ensures ∙ c.if-are_scalars.true) c.each_takes_same.ensures)

pub are_equal_in_any_order-returns : goal.are_equal_in_any_order-returns
are_equal_in_any_order-returns t c =
    let f = c.args.flags in
    let es = c.args.expected.now.items in
    let ts = c.args.actual.now.items in
    let expected : vec_len c.args.expected.now ≡ length es = search rules in
    let actual : vec_len c.args.actual.now ≡ length ts = search rules in
    let fit : (f.ignore_extra_elements ≡ true) ⊎ (length es ≡ length ts) =
    elim c.else-not-flags.branch [
      | are_equal_in_any_order-else-not-flags-via-then-not-flags+else-len w ↦
          inr (sym (w.len.ensures ∙ expected) ∙ w.if-len.false ∙ w.len-then-not-flags.ensures ∙ actual)
      | are_equal_in_any_order-else-not-flags-via-else-not-flags w ↦
          inl (not_false f.ignore_extra_elements w.if-not-flags.false)
    ] in
    if_they_take f es ts c.each_takes_one.result fit c.each_takes_one.ensures

pub each_takes_one-loop-item-init : goal.each_takes_one-loop-item-init
each_takes_one-loop-item-init t c =
    let fresh = c.in_ok-taken.ensures.items_if_clones_equal (λ y same. search rules) in
    record {
      counted = c.in_ok-taken.ensures.len ∙ c.len.ensures;
      left = ap (λ es. each_takes_one c.args.flags (items_view es) (items_view c.args.actual.now.items))
          (sym c.deref-item-items.ensures.value)
          ∙ ap (each_takes_one c.args.flags (items_view c.deref-item-items.result.now))
          (sym (ap (λ bs. left_of bs (items_view c.args.actual.now.items)) fresh
          ∙ none_taken _ (items_view c.args.actual.now.items)));
    }

pub each_takes_one-returns-in_default : goal.each_takes_one-returns-in_default
each_takes_one-returns-in_default t c =
    let l = c.loop-item in
    let f = c.args.flags in
    let x = c.item-item.result in
    let es = c.deref-item-items.result.now in
    let ts = c.args.actual.now.items in
    let later = drop (l.item-index + 1) es in
    let here : drop l.item-index es ≡ x ∷ later =
    drop_more es l.item-index x (omega arith) ∙ ap (λ y. y ∷ later) (sym c.item-item.is) in
    let taken : vec_len l.taken ≡ length l.taken.items = search rules in
    let actual : vec_len c.args.actual.now ≡ length ts = search rules in
    let none = no_first (is_equal f (view x)) l.taken.items (items_view ts) c.in_ok-i.field-0
    (sym taken ∙ l.invariant.counted ∙ actual ∙ sym (length-items_view ts)) c.in_ok-i.ensures c.in_default.is in
    sym (l.invariant.left ∙ no_partner f (drop l.item-index es) later x
    (left_of l.taken.items (items_view ts)) here none)

pub each_takes_one-index_mut-requires : goal.each_takes_one-index_mut-requires
each_takes_one-index_mut-requires t c =
    let l = c.loop-item in
    let ts = c.args.actual.now.items in
    let taken : vec_len l.taken ≡ length l.taken.items = search rules in
    let actual : vec_len c.args.actual.now ≡ length ts = search rules in
    let first = the_first (is_equal c.args.flags (view c.item-item.result)) l.taken.items (items_view ts)
    c.in_ok-i.field-0 c.in-Some.i (sym taken ∙ l.invariant.counted ∙ actual ∙ sym (length-items_view ts))
    c.in_ok-i.ensures c.in-Some.is in
    subst (λ n. c.in-Some.i < n) (sym taken) first.0

pub each_takes_one-loop-item-preserved : goal.each_takes_one-loop-item-preserved
each_takes_one-loop-item-preserved t c =
    let l = c.loop-item in
    let f = c.args.flags in
    let x = c.item-item.result in
    let es = c.deref-item-items.result.now in
    let ts = c.args.actual.now.items in
    let later = drop (l.item-index + 1) es in
    let here : drop l.item-index es ≡ x ∷ later =
    drop_more es l.item-index x (omega arith) ∙ ap (λ y. y ∷ later) (sym c.item-item.is) in
    let taken : vec_len l.taken ≡ length l.taken.items = search rules in
    let actual : vec_len c.args.actual.now ≡ length ts = search rules in
    let first = the_first (is_equal f (view x)) l.taken.items (items_view ts) c.in_ok-i.field-0 c.in-Some.i
    (sym taken ∙ l.invariant.counted ∙ actual ∙ sym (length-items_view ts)) c.in_ok-i.ensures c.in-Some.is in
    record {
      counted = l.invariant.counted;
      left = l.invariant.left
          ∙ partner f (drop l.item-index es) later x (left_of l.taken.items (items_view ts)) _ here first.1;
    }

pub each_takes_one-returns : goal.each_takes_one-returns
each_takes_one-returns t c =
    sym (c.loop-item.invariant.left
    ∙ all_taken c.args.flags c.deref-item-items.result.now c.loop-item.item-index _ (omega arith))

pub have_equal-returns-else-flags : goal.have_equal-returns-else-flags
have_equal-returns-else-flags t c =
    c.is_empty.ensures
    ∙ none_is_left c.args.flags c.deref-name-items.result.now c.loop-name.rest.now
    c.loop-name.name-index (omega arith)
    c.if-flags.false
    ∙ sym c.loop-name.invariant
