use Rattle.std.proofs.Common.{◌≡◌, ◌+◌, ◌∷◌, drop, sym, ap, ◌∙◌, arith}
use Rattle.std.proofs.lemmas.List.{drop_more}
use Rattle.data_tree.specs.Tree.{view, items_view}
use Rattle.json_match.specs.Inner.Counts.{each_takes_same, counted}
use Rattle.json_match.proofs.Counting.{none_is_left, one_less, none_left, some_left}
use Rattle.json_match.proofs.counts.each_takes_same.Goals as goal

pub loop-item-init : goal.loop-item-init
loop-item-init c = (
  items_view c.args.actual.now.items,
  ap (λ es. each_takes_same (items_view es) (items_view c.args.actual.now.items))
      (sym c.deref-item-items.ensures.value),
  c.in_ok-counts.ensures,
)

pub returns-then-not-branch : goal.returns-then-not-branch
returns-then-not-branch c =
    let i = c.loop-item.item-index in
    let x = c.item-item.result in
    let es = c.deref-item-items.result.now in
    let later = drop (i + 1) es in
    let here : drop i es ≡ x ∷ later =
    drop_more es i x (omega arith) ∙ ap (λ y. y ∷ later) (sym c.item-item.is) in
    sym (none_is_left (items_view c.args.expected.now.items) (items_view c.args.actual.now.items)
    (items_view (drop i es)) (items_view later) (view x) c.loop-item.counts (ap items_view here)
    c.loop-item.invariant
    (none_left (counted c.loop-item.counts (view x)) c.in_ok-take.field-0 c.in_ok-take.ensures.found
    c.if-not-branch.true))

pub loop-item-preserved : goal.loop-item-preserved
loop-item-preserved c =
    let i = c.loop-item.item-index in
    let x = c.item-item.result in
    let es = c.deref-item-items.result.now in
    let later = drop (i + 1) es in
    let here : drop i es ≡ x ∷ later =
    drop_more es i x (omega arith) ∙ ap (λ y. y ∷ later) (sym c.item-item.is) in
    let more = c.if-not-branch.false in
    one_less (items_view c.args.expected.now.items) (items_view c.args.actual.now.items)
    (items_view (drop i es)) (items_view later) (view x) c.loop-item.counts c.take.new.self
    (ap items_view here) c.loop-item.invariant
    (some_left (counted c.loop-item.counts (view x)) c.in_ok-take.field-0 c.in_ok-take.ensures.found more)
    (c.in_ok-take.ensures.left more)
