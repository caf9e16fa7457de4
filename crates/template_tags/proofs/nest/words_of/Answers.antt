use Rattle.std.proofs.Common.{◌≡◌, ◌-◌, ◌++◌, ◌∷◌, [], length, map, take, sym, ap, ◌∙◌, arith, append_assoc}
use Rattle.std.proofs.lemmas.List.{map-append, length-take}
use Rattle.template_tags.proofs.Fronts.{last_split}
use Rattle.template_tags.proofs.Nests.{word_pieces-append}
use Rattle.template_tags.specs.Inner.Pieces.{word_pieces}
use Rattle.template_tags.specs.Inner.Scan.{item_view}
use Rattle.template_tags.specs.Inner.Views.{pieces_view}
use Rattle.template_tags.proofs.nest.words_of.Goals as goal

pub loop-left-preserved : goal.loop-left-preserved
loop-left-preserved c =
    let left = c.loop-left.left.now in
    let before = map item_view (take (length left - 1) left) in
    let item = item_view c.item-item.result in
    let after = pieces_view c.loop-left.pieces.items in
    let split : map item_view left ≡ before ++ item ∷ [] =
    ap (map item_view) (last_split left c.item-item.result c.in-len1-up.len_at_least c.item-item.is)
    ∙ map-append item_view (take (length left - 1) left) (c.item-item.result ∷ []) in
    record {
      shorter = omega (arith, c.loop-left.invariant.shorter, length-take (length left - 1) left);
      ahead =
          c.loop-left.invariant.ahead ∙ ap (λ items. word_pieces items ++ after) split
          ∙ ap (λ pieces. pieces ++ after) (word_pieces-append before item)
          ∙ append_assoc (word_pieces before) (word_pieces (item ∷ [])) after
          ∙ ap (λ pieces. word_pieces before ++ pieces) (sym c.in_ok-pieces.ensures);
    }
