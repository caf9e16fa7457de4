use Rattle.std.proofs.Common.{◌-◌, sym, ap, ◌∙◌, None, length, map, take}
use Rattle.template_tags.specs.Blocks.{loop_items}
use Rattle.template_tags.specs.Inner.Scan.{item_view, with_items}
use Rattle.template_tags.proofs.Names.{few_items, last_two_view, loop_items_end, loop_end}
use Rattle.template_tags.proofs.blocks.loop_items.Goals as goal

pub returns-in_default : goal.returns-in_default
returns-in_default c = few_items c.args.items.now c.in_default.len_below

pub returns-in-Some : goal.returns-in-Some
returns-in-Some c =
    let items = c.args.items.now in
    let before = map item_view (take (length items - 2) items) in
    let a = item_view c.first-item.result in
    let b = item_view c.second-item.result in
    let split = last_two_view items c.first-item.result c.second-item.result c.in-len2-up.len_at_least
    c.first-item.is c.second-item.is in
    sym (ap loop_items split ∙ loop_items_end before a b ∙ ap (loop_end before a b) (sym c.in-Some.ensures))

pub returns-in-None : goal.returns-in-None
returns-in-None c =
    let items = c.args.items.now in
    let before = map item_view (take (length items - 2) items) in
    let a = item_view c.first-item.result in
    let b = item_view c.second-item.result in
    let split = last_two_view items c.first-item.result c.second-item.result c.in-len2-up.len_at_least
    c.first-item.is c.second-item.is in
    sym (ap loop_items split ∙ loop_items_end before a b ∙ ap (loop_end before a b) (sym c.in-None.ensures)
    ∙ ap (λ xs. with_items xs None) (sym split))
