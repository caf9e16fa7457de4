-- What the values of this crate's private types are seen as.
use Rattle.std.specs.Prelude.{List, ◌∷◌, map, reverse, Option, option_map, Result, Ok, Err}
use Rattle.std.specs.Global.{Vec}
use Rattle.template_words.specs.declared.error.TagError.{TagError}
use Rattle.template_tags.specs.Expression.{Expression, expression_view}
use Rattle.template_tags.specs.Tags.{Tag, tag_view}
use Rattle.template_tags.specs.Words as words
use Rattle.template_tags.specs.Inner.Pieces as spelled
use Rattle.template_tags.specs.declared.expression.Expression as declared
use Rattle.template_tags.specs.declared.tag.Tag as tags
use Rattle.template_tags.specs.declared.word.Word.{Word}
use Rattle.template_tags.specs.declared.word.Word.TheVariants as kinds
use Rattle.template_tags.specs.declared.nest.Piece.{Piece}
use Rattle.template_tags.specs.declared.nest.Piece.TheVariants as pieces
use Rattle.template_tags.specs.declared.nest.Stack.{Stack}
use Rattle.template_tags.specs.declared.nest.Parts.{Parts}

abbrev pub read_view : Result declared.Expression TagError → Result Expression TagError
read_view (Ok x) = Ok (expression_view x)
read_view (Err e) = Err e

abbrev pub word_view : Word → words.Word
word_view (kinds.Text literal) = words.text_word literal.now
word_view (kinds.Number n) = words.number_word n
word_view (kinds.Truth b) = words.truth_word b
word_view (kinds.Loop w) = words.loop_word w
word_view (kinds.Helper h) = words.helper_word h
word_view kinds.Foreign = words.foreign_word
word_view (kinds.Path reference) = words.path_word reference
word_view (kinds.Wrong e) = words.wrong_word e

abbrev pub piece_view : Piece → spelled.Piece
piece_view (pieces.Word w) = spelled.word_piece w.text.now
piece_view (pieces.Group value height) = spelled.group_piece (read_view value) height

-- the first piece is the last element
abbrev pub pieces_view : List Piece → List spelled.Piece
pieces_view elements = map piece_view (reverse elements)

-- and so is the first list
abbrev pub later_view : List (Vec Piece) → List (List spelled.Piece)
later_view lists = map (λ elements. pieces_view elements.items) (reverse lists)

abbrev pub stack_view : Stack → List (List spelled.Piece)
stack_view stack = pieces_view stack.pieces.items ∷ later_view stack.later.items

abbrev pub grouped_view : Option (Vec Piece) → Option (List spelled.Piece)
grouped_view found = option_map (λ elements. pieces_view elements.items) found

abbrev pub parts_view : Parts → spelled.Parts
parts_view parts = record { pieces = pieces_view parts.pieces.items; matched = parts.matched }

abbrev pub said_view : Result tags.Tag TagError → Result Tag TagError
said_view (Ok tag) = Ok (tag_view tag)
said_view (Err e) = Err e
