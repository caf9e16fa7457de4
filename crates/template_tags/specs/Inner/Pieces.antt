-- What a tag's parentheses group, as a pass over its items keeps it: groups as what they are read as.
use Rattle.std.specs.Prelude.{ℕ, ◌==◌, suc, min, max, Bool, not, List, [], ◌∷◌, length, map, Option, Some, None}
use Rattle.std.specs.Prelude.{Result, Err, if◌then◌else◌}
use Rattle.helper_set.specs.declared.helper.Helper.{Helper}
use Rattle.template_words.specs.Errors.{joined}
use Rattle.template_words.specs.declared.error.TagError.{TagError}
use Rattle.template_words.specs.declared.error.TagError.TheVariants.{UnknownHelper, WrongArguments, BadPath}
use Rattle.template_words.specs.declared.error.TagError.TheVariants.{UnsupportedTag}
use Rattle.template_tags.specs.Inner.BlockReads.{only_one}
use Rattle.template_tags.specs.Inner.CallReads.{beside, error_if, error_in, errors_in, call_of, head_word, limited}
use Rattle.template_tags.specs.Inner.CallReads.{argument}
use Rattle.template_tags.specs.Expression.{Expression}
use Rattle.template_tags.specs.Items.{Item, word, left_parenthesis, right_parenthesis}
use Rattle.template_tags.specs.Inner.TagReads.{print_read}
use Rattle.template_tags.specs.Tags.{Tag}
use Rattle.template_tags.specs.Terms.{Term, single, group, Terms, no_terms, first_term, height, terms_in, is_matched}
use Rattle.template_tags.specs.Words.{word_of}
use Rattle.template_tags.specs.Inner.WordReads.{argument_word, word_value, lone_value}
use Rattle.template_tags.specs.declared.expression.TheConstants.{CALL_LIMIT}
use Rattle.template_tags.specs.declared.level.Level.{Level}

-- a word, or the value of a group, as an argument, and the height of the group, which is capped
pub data Piece : Type 0 where
  word_piece : List ℕ → Piece
  group_piece : Result Expression TagError → ℕ → Piece

-- the pieces of a tag, and whether its parentheses match; where they don't, the pieces are its words
pub record Parts : Type 0 where
  pub pieces : List Piece
  pub matched : Bool

-- ---- what terms are kept as

-- heights over the limit are as one
abbrev pub capped : ℕ → ℕ
capped n = min n (suc CALL_LIMIT)

abbrev pub piece_of : List Level → Term → Piece
piece_of levels (single text) = word_piece text
piece_of levels (group terms) = group_piece (argument levels (group terms)) (capped (height (group terms)))

abbrev pub pieces_of : List Level → Terms → List Piece
pieces_of levels no_terms = []
pieces_of levels (first_term term terms) = piece_of levels term ∷ pieces_of levels terms

abbrev pub tag_parts : List Level → List Item → Parts
tag_parts levels items = record { pieces = pieces_of levels (terms_in items); matched = is_matched items }

abbrev pub word_pieces : List Item → List Piece
word_pieces [] = []
word_pieces (word text ∷ items) = word_piece text ∷ word_pieces items
word_pieces (left_parenthesis ∷ items) = word_pieces items
word_pieces (right_parenthesis ∷ items) = word_pieces items

-- ---- how they are read

abbrev pub piece_height : Piece → ℕ
piece_height (word_piece text) = 0
piece_height (group_piece read h) = h

abbrev pub greatest : List Piece → ℕ
greatest [] = 0
greatest (piece ∷ pieces) = max (piece_height piece) (greatest pieces)

abbrev pub piece_argument : List Level → Piece → Result Expression TagError
piece_argument levels (word_piece text) = argument_word levels text
piece_argument levels (group_piece read h) = read

abbrev pub piece_arguments : List Level → List Piece → List (Result Expression TagError)
piece_arguments levels pieces = map (piece_argument levels) pieces

abbrev pub piece_helper : Piece → Result Helper TagError
piece_helper (word_piece text) = head_word (word_of text)
piece_helper (group_piece read h) = beside (error_in read) (Err UnknownHelper)

abbrev pub piece_call : List Level → List Piece → Result Expression TagError
piece_call levels [] = Err WrongArguments
piece_call levels (head ∷ pieces) = call_of (piece_helper head) (piece_arguments levels pieces)

abbrev pub group_of_height : ℕ → Result Expression TagError → Piece
group_of_height h read = group_piece (limited h read) h

abbrev pub grouped_pieces : List Level → List Piece → Piece
grouped_pieces levels pieces = group_of_height (suc (min (greatest pieces) CALL_LIMIT)) (piece_call levels pieces)

abbrev pub piece_before : List Level → Item → Option (List (List Piece)) → Option (List (List Piece))
piece_before levels (word text) (Some (pieces ∷ later)) = Some ((word_piece text ∷ pieces) ∷ later)
piece_before levels right_parenthesis (Some later) = Some ([] ∷ later)
piece_before levels left_parenthesis (Some (pieces ∷ outer ∷ later)) =
    Some ((grouped_pieces levels pieces ∷ outer) ∷ later)
piece_before levels item stack = None

-- ---- what tags take of them

abbrev pub parts_error : Parts → Option TagError
parts_error parts = error_if BadPath (not parts.matched)

abbrev pub has_piece : List Piece → Bool
has_piece pieces = not (length pieces == 0)

-- of parts after a name that has no words after it
abbrev pub extra_parts_error : Parts → Option TagError
extra_parts_error parts = joined (parts_error parts) (error_if UnsupportedTag (has_piece parts.pieces))

abbrev pub all_parts_error : List Level → Parts → Option TagError
all_parts_error levels parts = joined (parts_error parts) (errors_in (piece_arguments levels parts.pieces))

abbrev pub block_parts : List Level → Parts → Result Expression TagError
block_parts levels parts = beside (parts_error parts) (only_one (piece_arguments levels parts.pieces))

abbrev pub lone_piece : List Level → Bool → Piece → Result Expression TagError
lone_piece levels matched (word_piece text) =
    if matched then lone_value levels text (word_of text) else word_value levels text (word_of text)
lone_piece levels matched (group_piece read h) = Err UnsupportedTag

abbrev pub value_pieces : List Level → Bool → List Piece → Result Expression TagError
value_pieces levels matched [] = Err (if matched then UnsupportedTag else BadPath)
value_pieces levels matched (piece ∷ []) = lone_piece levels matched piece
value_pieces levels matched (head ∷ piece ∷ pieces) = piece_call levels (head ∷ piece ∷ pieces)

abbrev pub print_parts : List Level → Parts → Result Tag TagError
print_parts levels parts = print_read (beside (parts_error parts) (value_pieces levels parts.matched parts.pieces))
