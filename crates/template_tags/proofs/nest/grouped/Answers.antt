use Rattle.std.proofs.Common.{◌≡◌, ◌-◌, ◌++◌, ◌∷◌, [], ◌≤◌, List, length, get_or, map, option_map, reverse, take, Option, Some, None, sym, ap}
use Rattle.std.proofs.Common.{◌∙◌, arith}
use Rattle.std.proofs.lemmas.List.{map-append, length-take}
use Rattle.template_tags.proofs.Fronts.{last_split}
use Rattle.template_tags.proofs.Nests.{nest_is, none_found, pieces_before-append, pieces_before_none, stack_pieces}
use Rattle.template_tags.proofs.Nests.{pieces_before}
use Rattle.template_tags.specs.Inner.Pieces.{Piece, piece_before}
use Rattle.template_tags.specs.Inner.Scan.{item_view}
use Rattle.template_tags.specs.Items.{Item}
use Rattle.template_tags.specs.Inner.Views.{stack_view, pieces_view, later_view}
use Rattle.template_tags.specs.Terms.{grouped}
use Rattle.template_tags.specs.declared.items.Item as declared
use Rattle.template_tags.specs.declared.level.Level.{Level}
use Rattle.template_tags.proofs.nest.grouped.Goals as goal

-- one item more of those that are left
step :
    (levels : List Level) (left : List declared.Item) (item : declared.Item) (all : List Item)
    (stack next : Option (List (List Piece)))
    → 1 ≤ length left → item ≡ get_or left (length left - 1) item
    → pieces_before levels (map item_view left) stack ≡ stack_pieces levels (grouped all)
    → next ≡ piece_before levels (item_view item) stack
    → pieces_before levels (map item_view (take (length left - 1) left)) next ≡ stack_pieces levels (grouped all)
step levels left item all stack next some is ahead made =
    let before = map item_view (take (length left - 1) left) in
    let split : map item_view left ≡ before ++ item_view item ∷ [] =
    ap (map item_view) (last_split left item some is)
    ∙ map-append item_view (take (length left - 1) left) (item ∷ []) in
    ap (pieces_before levels before) made ∙ sym (pieces_before-append levels before (item_view item) stack)
    ∙ ap (λ items. pieces_before levels items stack) (sym split) ∙ ahead

pub loop-left-init : goal.loop-left-init
loop-left-init c =
    let levels = reverse c.args.levels.now in
    let items = map item_view c.args.items.now in
    let empty : stack_view (record { pieces = c.new.result; later = c.new-2.result }) ≡ [] ∷ [] =
    λ i. pieces_view (c.new.ensures.items i) ∷ later_view (c.new-2.ensures.items i) in
    record {
      shorter = omega arith;
      ahead = ap (λ stack. pieces_before levels items (Some stack)) empty ∙ nest_is levels items;
    }

pub returns-in-None : goal.returns-in-None
returns-in-None c =
    let levels = reverse c.args.levels.now in
    let left = c.loop-left.left.now in
    let before = map item_view (take (length left - 1) left) in
    none_found levels (map item_view c.args.items.now)
    (sym (pieces_before_none levels before)
    ∙ step levels left c.item-item.result (map item_view c.args.items.now) (Some (stack_view c.loop-left.stack)) None
    c.in-len1-up.len_at_least c.item-item.is c.loop-left.invariant.ahead
    (ap (option_map stack_view) (sym c.in-None.is) ∙ c.in_ok-next.ensures))

pub loop-left-preserved : goal.loop-left-preserved
loop-left-preserved c =
    let levels = reverse c.args.levels.now in
    let left = c.loop-left.left.now in
    record {
      shorter = omega (arith, c.loop-left.invariant.shorter, length-take (length left - 1) left);
      ahead =
          step levels left c.item-item.result (map item_view c.args.items.now)
          (Some (stack_view c.loop-left.stack)) (Some (stack_view c.in-Some.next))
          c.in-len1-up.len_at_least c.item-item.is c.loop-left.invariant.ahead
          (ap (option_map stack_view) (sym c.in-Some.is) ∙ c.in_ok-next.ensures);
    }
