use Rattle.std.proofs.Common.{map, reverse, sym, ap, ◌∙◌}
use Rattle.template_tags.proofs.Nests.{unmatched_parts}
use Rattle.template_tags.specs.Inner.Scan.{item_view}
use Rattle.template_tags.specs.Inner.Views.{pieces_view, grouped_view}
use Rattle.template_tags.proofs.nest.tag_parts.Goals as goal

pub returns-in_ok-words_of-in-None : goal.returns-in_ok-words_of-in-None
returns-in_ok-words_of-in-None c =
    unmatched_parts (reverse c.args.levels.now) (map item_view c.args.items.now)
    (pieces_view c.in_ok-words_of-in-None.field-0.items) (ap grouped_view (sym c.in-None.is) ∙ c.in_ok-pieces.ensures)
    c.in_ok-words_of-in-None.ensures
