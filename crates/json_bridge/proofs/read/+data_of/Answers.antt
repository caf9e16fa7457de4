use Rattle.std.proofs.Common.{Some, option_map, ℕ, List, length, sym, ap, ◌∙◌, arith}
use Rattle.std.specs.Vec.Iter.{into_iter_items}
use Rattle.data_tree.specs.declared.data.Data.{Data}
use Rattle.serde_json.specs.View as seen
use Rattle.json_bridge.specs.Reading.{tree_of_value, items_of, members_of}
use Rattle.json_bridge.proofs.Grown.{found_tree, items_before, items_before-none, item_read, no_item_left}
use Rattle.json_bridge.proofs.Grown.{members_before, members_before-none, member_read}
use Rattle.json_bridge.proofs.read.+data_of.Goals as goal

pub list_of-loop-item-preserved : goal.list_of-loop-item-preserved
list_of-loop-item-preserved t c =
    let l = c.loop-item in
    let x = c.in-Some.item in
    let d = c.in-Some-2.data in
    let rest = seen.items_view (into_iter_items c.next.new.self) in
    let steps = c.in-Some.ensures.steps in
    let taken = found_tree c.in_ok-data.field-0 d (tree_of_value (seen.view x)) c.in-Some-2.is c.in_ok-data.ensures in
    record {
      counted = omega (arith, l.invariant.counted, steps.1, ap length steps.0);
      whole = l.invariant.whole
          ∙ ap (λ xs. option_map (items_before l.found.items) (items_of (seen.items_view xs))) steps.0
          ∙ item_read l.found.items c.push.new.self.items d (seen.view x) rest taken
          c.in_ok-push-in-Some-2.ensures.items;
    }

pub list_of-returns : goal.list_of-returns
list_of-returns t c =
    let l = c.loop-item in
    sym (l.invariant.whole
    ∙ ap (option_map (items_before l.found.items))
    (no_item_left (into_iter_items l.item-iterator) (sym l.invariant.counted ∙ c.in-None.ensures.steps.0))
    ∙ ap Some (items_before-none l.found.items))

pub fields_of-loop-name-preserved : goal.fields_of-loop-name-preserved
fields_of-loop-name-preserved t c =
    let l = c.loop-name in
    let x = c.in-Some.member in
    let d = c.in-Some-2.data in
    let m : List ℕ × Data = (c.new.result, d) in
    let rest = seen.members_view c.next.new.self in
    let taken = found_tree c.in_ok-data.field-0 d (tree_of_value (seen.view x)) c.in-Some-2.is c.in_ok-data.ensures in
    l.invariant
    ∙ ap (λ es. option_map (members_before l.found.items)
    (members_of (seen.members_view es))) c.in-Some.ensures.steps
    ∙ member_read l.found.items c.push.new.self.items m _ (seen.view x) rest taken
    (sym c.new.ensures) c.in_ok-push-in-Some-2.ensures.items

pub fields_of-returns : goal.fields_of-returns
fields_of-returns t c =
    let l = c.loop-name in
    sym (l.invariant
    ∙ ap (λ es. option_map (members_before l.found.items) (members_of (seen.members_view es)))
    c.in-None.ensures.steps.0
    ∙ ap Some (members_before-none l.found.items))
