-- What the content of a tag says, or the error that is reported of it, as it is read.
use Rattle.std.specs.Prelude.{ℕ, Bool, false, not, ◌&&◌, ◌||◌, List, [], ◌∷◌, drop, Option, is_some, Result, Ok, Err}
use Rattle.std.specs.Prelude.{if◌then◌else◌, codes}
use Rattle.std.specs.Str.{bytes_eq}
use Rattle.template_words.specs.Marks.{begins}
use Rattle.template_words.specs.Reading.{◌>>=◌}
use Rattle.template_words.specs.declared.error.TagError.{TagError}
use Rattle.template_words.specs.declared.error.TagError.TheVariants.{BadPath, UnsupportedTag}
use Rattle.template_words.specs.declared.mode.Mode.TheVariants.{Start}
use Rattle.template_tags.specs.Inner.BlockReads.{opening_said, closing_said, else_said, match_error}
use Rattle.template_tags.specs.Inner.CallReads.{beside, error_if, call_read}
use Rattle.template_tags.specs.Expression.{Expression}
use Rattle.template_tags.specs.Items.{Item, word, left_parenthesis, right_parenthesis, items_of, lacks_space}
use Rattle.template_tags.specs.Tags.{Tag, print}
use Rattle.template_tags.specs.Levels.{block_named}
use Rattle.template_tags.specs.Terms.{Terms, no_terms, first_term, single, group, terms_in, is_matched}
use Rattle.template_tags.specs.Inner.WordReads.{word_value, lone_value}
use Rattle.template_tags.specs.Said.{has_foreign_mark}
use Rattle.template_tags.specs.Words.{word_of}
use Rattle.template_tags.specs.declared.level.Level.{Level}
use Rattle.template_tags.specs.declared.tag.Opening.{Opening}
use Rattle.template_tags.specs.declared.tag.Opening.TheVariants.{Double, Triple}

-- the value that a tag prints: a word, or a helper with its arguments. Where parentheses match, a literal or a group
-- alone is no such tag
abbrev pub value_said : List Level → Bool → Terms → Result Expression TagError
value_said levels matched no_terms = Err (if matched then UnsupportedTag else BadPath)
value_said levels matched (first_term (single text) no_terms) =
    if matched then lone_value levels text (word_of text) else word_value levels text (word_of text)
value_said levels matched (first_term (group terms) no_terms) = Err UnsupportedTag
value_said levels matched (first_term head (first_term term terms)) =
    call_read levels (first_term head (first_term term terms))

abbrev pub print_read : Result Expression TagError → Result Tag TagError
print_read read = read >>= λ value. Ok (print value)

abbrev pub print_said : List Level → List Item → Result Tag TagError
print_said levels items =
    print_read (beside (match_error items) (value_said levels (is_matched items) (terms_in items)))

-- a mark that templates don't have, or `#` and no block's name
abbrev pub is_marked : List ℕ → Bool
is_marked text =
    has_foreign_mark text || (begins (codes "#") text && not (is_some (block_named (drop 1 text))))

-- a tag that begins with that word. Blocks have two braces, and in three braces their words are as any others
abbrev pub word_said : Opening → List Level → List ℕ → List Item → Result Tag TagError
word_said Triple levels text items = print_said levels (word text ∷ items)
word_said Double levels text items =
    if begins (codes "#") text then opening_said levels (block_named (drop 1 text)) items
    else if begins (codes "/") text then closing_said levels (drop 1 text) items
    else if bytes_eq text (codes "else") then else_said levels items
    else print_said levels (word text ∷ items)

-- a tag that has these items. Without any it is empty
abbrev pub items_said : Opening → List Level → List Item → Result Tag TagError
items_said opening levels [] = Err UnsupportedTag
items_said opening levels (word text ∷ items) =
    if is_marked text then Err UnsupportedTag else word_said opening levels text items
items_said opening levels (left_parenthesis ∷ items) = print_said levels (left_parenthesis ∷ items)
items_said opening levels (right_parenthesis ∷ items) = print_said levels (right_parenthesis ∷ items)

abbrev pub space_error : List ℕ → Option TagError
space_error content = error_if BadPath (lacks_space Start false content)

unfoldable pub tag_read : Opening → List ℕ → List Level → Result Tag TagError
tag_read opening content levels = beside (space_error content) (items_said opening levels (items_of content))
