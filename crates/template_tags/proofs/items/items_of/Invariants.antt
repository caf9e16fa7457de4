use Rattle.std.proofs.Common.{◌≡◌, ◌≤◌, ◌++◌, length, map}
use denote.Text.{Utf8}
use denote.Shadow.{shadow}
use Rattle.template_tags.specs.Items.{items_of, items_after}
use Rattle.template_tags.specs.Inner.Scan.{item_view}
use Rattle.template_tags.proofs.items.items_of.Given as goal

abbrev pub invariant-loop-text : goal.invariant-loop-text
invariant-loop-text l = record {
  utf8 : shadow (Utf8 l.rest);
  short : length l.rest ≤ length l.content;
  same : items_of l.content ≡ map item_view l.items.items ++ items_after l.mode l.rest;
}

abbrev pub decreases-loop-text : goal.decreases-loop-text
decreases-loop-text l = length l.rest
