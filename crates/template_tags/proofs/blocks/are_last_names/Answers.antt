use Rattle.std.proofs.Common.{◌-◌, ◌&&◌, sym, ap, ◌∙◌, length, map, take, drop}
use Rattle.template_tags.specs.Blocks.{are_last_names}
use Rattle.template_tags.specs.Inner.Scan.{item_view}
use Rattle.template_tags.proofs.Names.{names_more}
use Rattle.template_tags.proofs.blocks.are_last_names.Goals as goal

pub returns-then-not-is_name_item : goal.returns-then-not-is_name_item
returns-then-not-is_name_item c =
    let items = c.loop-rest.rest.now in
    let later = are_last_names (map item_view (take (length items - 1) (drop 1 items))) in
    sym (c.loop-rest.invariant
    ∙ names_more items c.item-item.result c.in-len1-up.len_at_least c.item-item.is c.if-is_empty.ensures
    ∙ ap (λ b. b && later) (sym c.if-not-is_name_item.ensures))

pub loop-rest-preserved : goal.loop-rest-preserved
loop-rest-preserved c =
    let items = c.loop-rest.rest.now in
    let later = are_last_names (map item_view (take (length items - 1) (drop 1 items))) in
    c.loop-rest.invariant
    ∙ names_more items c.item-item.result c.in-len1-up.len_at_least c.item-item.is c.if-is_empty.ensures
    ∙ ap (λ b. b && later) (sym c.if-not-is_name_item.ensures)
