-- The words and the parentheses of a tag (Handlebars' tokens).
use Rattle.std.specs.Prelude.{ℕ, ◌==◌, Bool, true, false, ◌&&◌, ◌||◌, not, List, [], ◌∷◌, if◌then◌else◌}
use Rattle.template_words.specs.Bytes.{open_parenthesis, close_parenthesis}
use Rattle.template_words.specs.Modes.{mode_after, is_outside}
use Rattle.template_words.specs.Words.{is_break}
use Rattle.template_words.specs.declared.mode.Mode.{Mode}
use Rattle.template_words.specs.declared.mode.Mode.TheVariants.{Start, Word, Bracket, Literal}

pub data Item : Type 0 where
  word : List ℕ → Item
  left_parenthesis : Item
  right_parenthesis : Item

-- white space, which is no item, or a parenthesis, before other items
abbrev pub break_before : ℕ → List Item → List Item
break_before b items =
    if b == open_parenthesis then left_parenthesis ∷ items
    else if b == close_parenthesis then right_parenthesis ∷ items
    else items

-- a word before other items; it is none where it has no byte
abbrev pub word_before : List ℕ → List Item → List Item
word_before [] items = items
word_before (b ∷ bs) items = word (b ∷ bs) ∷ items

-- one more byte, which is a break or not, before a word and the items after it
abbrev pub byte_before : Bool → ℕ → List ℕ × List Item → List ℕ × List Item
byte_before true b later = ([], break_before b (word_before later.0 later.1))
byte_before false b later = (b ∷ later.0, later.1)

-- the word that the bytes begin with, up to the first break outside of literals and brackets, and the items from there
abbrev pub cut : Mode → List ℕ → List ℕ × List Item
cut mode [] = ([], [])
cut mode (b ∷ bs) = byte_before (is_outside mode && is_break b) b (cut (mode_after mode b) bs)

abbrev pub items_after : Mode → List ℕ → List Item
items_after mode bytes = word_before (cut mode bytes).0 (cut mode bytes).1

-- the items of the content of a tag, in order
abbrev pub items_of : List ℕ → List Item
items_of content = items_after Start content

abbrev pub is_start : Mode → Bool
is_start Start = true
is_start Word = false
is_start Bracket = false
is_start (Literal quote) = false

-- a `(` that follows a word or a `)`, or a word that follows a `)`
abbrev pub touches : Mode → Bool → ℕ → Bool
touches mode after_close b =
    is_outside mode && (((b == open_parenthesis) && not (is_start mode)) || (after_close && not (is_break b)))

-- white space is missing between two words, where a parenthesis groups some
abbrev pub lacks_space : Mode → Bool → List ℕ → Bool
lacks_space mode after_close [] = false
lacks_space mode after_close (b ∷ bs) =
    touches mode after_close b
    || lacks_space (mode_after mode b) (is_outside mode && (b == close_parenthesis)) bs
