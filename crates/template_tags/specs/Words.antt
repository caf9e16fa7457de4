-- What a word of a tag is, and the value that it names.
use Rattle.std.specs.Prelude.{ℕ, zero, suc, ℤ, nat_lt, Bool, true, false, List, [], ◌∷◌, Option, Some, None, option_map}
use Rattle.std.specs.Prelude.{Result, Ok, Err, if◌then◌else◌, codes}
use Rattle.std.specs.Option.{option_or, unwrap_or}
use Rattle.std.specs.Str.{bytes_eq}
use Rattle.data_tree.specs.declared.step.Step.{Step}
use Rattle.helper_set.specs.Helpers.{name_of}
use Rattle.helper_set.specs.declared.helper.Helper.{Helper}
use Rattle.helper_set.specs.declared.helper.Helper.TheVariants.{Upper, Lower, Trim, Size, Eq, Neq, Contains, Not}
use Rattle.helper_set.specs.declared.helper.Helper.TheVariants.{Base64, UrlEncode, DefaultIfEmpty, JsonPath}
use Rattle.template_words.specs.Literals.{text_literal, whole_number, truth_literal}
use Rattle.template_words.specs.Marks.{begins}
use Rattle.template_words.specs.Names.{is_hash_argument, first_part}
use Rattle.template_words.specs.Paths.{rest_of_steps}
use Rattle.template_words.specs.PathReads.{reference_of}
use Rattle.template_words.specs.Words.{is_foreign_helper}
use Rattle.template_words.specs.declared.error.TagError.{TagError}
use Rattle.template_words.specs.declared.error.TagError.TheVariants.{UnknownHelper, WrongArguments, UnsupportedTag}
use Rattle.template_words.specs.declared.reference.Reference.{Reference}
use Rattle.template_words.specs.declared.reference.Reference.TheVariants as references
use Rattle.template_tags.specs.Expression.{Expression, datum, index, key, first, last, number, truth}
use Rattle.template_tags.specs.Expression as expressions
use Rattle.template_tags.specs.Levels.{loops_open, loop_with_parameter}
use Rattle.template_tags.specs.declared.expression.Datum.{Datum}
use Rattle.template_tags.specs.declared.expression.Datum.TheVariants.{Nothing, Root, Item}
use Rattle.template_tags.specs.declared.level.Level.{Level}
use Rattle.template_tags.specs.declared.word.LoopWord.{LoopWord}
use Rattle.template_tags.specs.declared.word.LoopWord.TheVariants.{Index, Key, First, Last}

-- a literal, a word of the innermost loop, a helper's name, the name of a helper that only other implementations of
-- Handlebars have, a path, or a word that has an error
pub data Word : Type 0 where
  text_word : List ℕ → Word
  number_word : ℤ → Word
  truth_word : Bool → Word
  loop_word : LoopWord → Word
  helper_word : Helper → Word
  foreign_word : Word
  path_word : Reference → Word
  wrong_word : TagError → Word

abbrev pub helpers : List Helper
helpers =
    Upper ∷ Lower ∷ Trim ∷ Size ∷ Eq ∷ Neq ∷ Contains ∷ Not ∷ Base64 ∷ UrlEncode ∷ DefaultIfEmpty
    ∷ JsonPath ∷ []

abbrev pub helper_among : List Helper → List ℕ → Option Helper
helper_among [] text = None
helper_among (h ∷ hs) text = if bytes_eq text (name_of h) then Some h else helper_among hs text

-- the helper of that name
abbrev pub helper_named : List ℕ → Option Helper
helper_named text = helper_among helpers text

abbrev pub loop_word_of : List ℕ → Option LoopWord
loop_word_of text =
    if bytes_eq text (codes "@index") then Some Index
    else if bytes_eq text (codes "@key") then Some Key
    else if bytes_eq text (codes "@first") then Some First
    else if bytes_eq text (codes "@last") then Some Last
    else None

abbrev pub path_read : Result Reference TagError → Word
path_read (Ok reference) = path_word reference
path_read (Err e) = wrong_word e

-- a word that is no literal, no word of loops and no helper of this product
abbrev pub other_word : List ℕ → Word
other_word text =
    if is_foreign_helper text then foreign_word
    else if begins (codes "@") text then wrong_word UnsupportedTag
    else path_read (reference_of text)

abbrev pub literal_of : List ℕ → Option Word
literal_of text =
    option_or (option_map text_word (text_literal text))
    (option_or (option_map number_word (whole_number text)) (option_map truth_word (truth_literal text)))

abbrev pub known_word : List ℕ → Option Word
known_word text =
    option_or (literal_of text)
    (option_or (option_map loop_word (loop_word_of text)) (option_map helper_word (helper_named text)))

-- what the word is
unfoldable pub word_of : List ℕ → Word
word_of text = unwrap_or (known_word text) (other_word text)

abbrev pub steps_in : Reference → List Step
steps_in (references.Root steps) = steps
steps_in (references.Item depth steps) = steps

-- a path that begins with no name of a loop's items. What leads out of all loops finds nothing
abbrev pub found_datum : ℕ → Reference → Datum
found_datum loops (references.Root steps) = Root steps
found_datum loops (references.Item depth steps) = if nat_lt depth loops then Item depth steps else Nothing

-- a path that begins with the name of a loop's items, or with none
abbrev pub named_datum : ℕ → Reference → Option ℕ → Datum
named_datum loops reference None = found_datum loops reference
named_datum loops reference (Some up) = Item up (rest_of_steps (steps_in reference))

-- where the path leads that the word spells. The first part of a path is compared with names as it is written
abbrev pub datum_of : List Level → List ℕ → Reference → Datum
datum_of levels text reference = named_datum (loops_open levels) reference (loop_with_parameter (first_part text) levels)

abbrev pub loop_word_value : LoopWord → Expression
loop_word_value Index = index
loop_word_value Key = key
loop_word_value First = first
loop_word_value Last = last

-- outside of loops the words of loops find nothing
abbrev pub loop_value : ℕ → LoopWord → Expression
loop_value zero w = datum Nothing
loop_value (suc loops) w = loop_word_value w

-- a word that is an argument: there are no hash arguments here
abbrev pub argument_of : List ℕ → Word
argument_of text = if is_hash_argument text then wrong_word UnsupportedTag else word_of text

-- stands for the value of what has an error, and so is never read
abbrev pub no_value : Expression
no_value = truth false

-- the value that a word names
abbrev pub word_value : List Level → List ℕ → Word → Expression
word_value levels text (text_word literal) = expressions.text_literal literal
word_value levels text (number_word n) = number n
word_value levels text (truth_word b) = truth b
word_value levels text (loop_word w) = loop_value (loops_open levels) w
word_value levels text (path_word reference) = datum (datum_of levels text reference)
word_value levels text w = no_value

-- the errors of a word that is to name a value
abbrev pub word_errors : Word → List TagError
word_errors (helper_word h) = WrongArguments ∷ []
word_errors foreign_word = UnknownHelper ∷ []
word_errors (wrong_word e) = e ∷ []
word_errors w = []

abbrev pub is_literal : Word → Bool
is_literal (text_word literal) = true
is_literal (number_word n) = true
is_literal (truth_word b) = true
is_literal w = false
