-- The items of a tag, as a pass over its bytes finds them.
use Rattle.std.specs.Prelude.{ℕ, suc, Bool, false, ◌&&◌, List, [], ◌∷◌, map, take, drop, get_or, Option}
use Rattle.std.specs.Prelude.{Some, None, option_map, if◌then◌else◌}
use denote.Ref.{Bor}
use Rattle.template_words.specs.Modes.{mode_after, is_outside}
use Rattle.template_words.specs.Words.{is_break}
use Rattle.template_words.specs.declared.mode.Mode.{Mode}
use Rattle.template_words.specs.Views.{part_view}
use Rattle.template_tags.specs.Blocks.{LoopItems}
use Rattle.template_tags.specs.Items as items
use Rattle.template_tags.specs.declared.items.Item.{Item}
use Rattle.template_tags.specs.declared.items.Item.TheVariants.{Word, LeftParenthesis, RightParenthesis}

abbrev pub item_view : Item → items.Item
item_view (Word w) = items.word w.text.now
item_view LeftParenthesis = items.left_parenthesis
item_view RightParenthesis = items.right_parenthesis

abbrev pub text_of : items.Item → Option (List ℕ)
text_of (items.word text) = Some text
text_of items.left_parenthesis = None
text_of items.right_parenthesis = None

-- a word that the test holds of
abbrev pub item_is : (List ℕ → Bool) → items.Item → Bool
item_is test (items.word text) = test text
item_is test items.left_parenthesis = false
item_is test items.right_parenthesis = false

abbrev pub with_items : List items.Item → Option (List ℕ) → LoopItems
with_items before parameter = record { items = before; parameter = parameter }

abbrev pub loop_view : Bor (List Item) × Option (Bor (List ℕ)) → LoopItems
loop_view x = with_items (map item_view x.0.now) (part_view x.1)

-- the byte offset of the first break outside of literals and brackets
abbrev pub break_at : Mode → List ℕ → Option ℕ
break_at mode [] = None
break_at mode (b ∷ bs) =
    if is_outside mode && is_break b then Some 0 else option_map suc (break_at (mode_after mode b) bs)

-- the text before that offset, the byte there, and the text after it
abbrev pub split_around : List ℕ → Option ℕ → Option (List ℕ × ℕ × List ℕ)
split_around s None = None
split_around s (Some n) = Some (take n s, get_or s n 0, drop (suc n) s)

abbrev pub around_break : Mode → List ℕ → Option (List ℕ × ℕ × List ℕ)
around_break mode s = split_around s (break_at mode s)

abbrev pub around_view : Option (Bor (List ℕ) × ℕ × Bor (List ℕ)) → Option (List ℕ × ℕ × List ℕ)
around_view None = None
around_view (Some x) = Some (x.0.now, x.1, x.2.now)
