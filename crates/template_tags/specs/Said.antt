-- What the content of a tag says, or, of the errors that it has, the one that is reported (Handlebars' expressions).
use Rattle.std.specs.Prelude.{ℕ, ◌==◌, Bool, true, false, ◌&&◌, not, List, [], ◌∷◌, ◌++◌, drop, Option, Some, None}
use Rattle.std.specs.Prelude.{Result, if◌then◌else◌, codes}
use Rattle.std.specs.List.{list_any}
use Rattle.std.specs.Str.{bytes_eq}
use Rattle.template_words.specs.Marks.{begins}
use Rattle.template_words.specs.declared.error.TagError.{TagError}
use Rattle.template_words.specs.declared.error.TagError.TheVariants.{BadPath, UnsupportedTag}
use Rattle.template_words.specs.declared.mode.Mode.TheVariants.{Start}
use Rattle.template_tags.specs.Blocks.{loop_items, one_value, datum_in, test_errors, each_errors, else_errors}
use Rattle.template_tags.specs.Blocks.{close_errors}
use Rattle.template_tags.specs.Calls.{call_value, call_errors}
use Rattle.template_tags.specs.Expression.{Expression}
use Rattle.template_tags.specs.Items.{Item, word, items_of, lacks_space}
use Rattle.template_tags.specs.Levels.{block_named}
use Rattle.template_tags.specs.Reported.{when, reported}
use Rattle.template_tags.specs.Tags.{Tag, print, open_if, open_each, begin_else, close}
use Rattle.template_tags.specs.Terms.{Terms, no_terms, first_term, single, group, terms_in, is_matched}
use Rattle.template_tags.specs.Words.{word_of, word_value, word_errors, is_literal}
use Rattle.template_tags.specs.declared.level.Block.{Block}
use Rattle.template_tags.specs.declared.level.Block.TheVariants.{If, Unless, Each}
use Rattle.template_tags.specs.declared.level.Level.{Level}
use Rattle.template_tags.specs.declared.tag.Opening.{Opening}
use Rattle.template_tags.specs.declared.tag.Opening.TheVariants.{Double, Triple}

-- ---- what a tag is for

-- prints a value; opens a block; begins an else part; closes a block with that name; is none of these
pub data Purpose : Type 0 where
  prints : Purpose
  opens : Block → Purpose
  begins_else : Purpose
  closes : List ℕ → Purpose
  unsupported : Purpose

-- begins with a byte that marks a tag of Handlebars which templates don't have here
abbrev pub has_foreign_mark : List ℕ → Bool
has_foreign_mark [] = false
has_foreign_mark (b ∷ bs) = list_any (λ c. c == b) (codes ">&^*~{")

-- a tag with `#`. Blocks have two braces, and in three braces their words are as any others
abbrev pub opening_purpose : Opening → Option Block → Purpose
opening_purpose opening None = unsupported
opening_purpose Double (Some block) = opens block
opening_purpose Triple (Some block) = prints

abbrev pub other_purpose : Opening → List ℕ → Purpose
other_purpose Triple text = prints
other_purpose Double text =
    if begins (codes "/") text then closes (drop 1 text)
    else if bytes_eq text (codes "else") then begins_else
    else prints

-- by its first word
abbrev pub word_purpose : Opening → List ℕ → Purpose
word_purpose opening text =
    if has_foreign_mark text then unsupported
    else if begins (codes "#") text then opening_purpose opening (block_named (drop 1 text))
    else other_purpose opening text

abbrev pub purpose_of : Opening → List Item → Purpose
purpose_of opening (word text ∷ items) = word_purpose opening text
purpose_of opening items = prints

-- ---- prints

-- a word alone, or a helper with its arguments. Where parentheses match, a literal alone is no tag, and neither is
-- nothing; a group alone is none
abbrev pub printed_errors : List Level → Bool → Terms → List TagError
printed_errors levels matched no_terms = when matched UnsupportedTag
printed_errors levels matched (first_term (single text) no_terms) =
    when (matched && is_literal (word_of text)) UnsupportedTag ++ word_errors (word_of text)
printed_errors levels matched (first_term (group terms) no_terms) = UnsupportedTag ∷ []
printed_errors levels matched (first_term head (first_term term terms)) =
    call_errors levels (first_term head (first_term term terms))

abbrev pub printed : List Level → Terms → Expression
printed levels (first_term (single text) no_terms) = word_value levels text (word_of text)
printed levels terms = call_value levels terms

-- a parenthesis without its other one is a malformed word
abbrev pub print_errors : List Level → List Item → List TagError
print_errors levels items =
    when (not (is_matched items)) BadPath ++ printed_errors levels (is_matched items) (terms_in items)

-- ---- all tags

-- what the tag says where it has no error
abbrev pub tag_value : Purpose → List Level → List Item → Tag
tag_value prints levels items = print (printed levels (terms_in items))
tag_value (opens If) levels items = open_if false (one_value levels (drop 1 items))
tag_value (opens Unless) levels items = open_if true (one_value levels (drop 1 items))
tag_value (opens Each) levels items =
    open_each (datum_in (one_value levels (loop_items (drop 1 items)).items)) (loop_items (drop 1 items)).parameter
tag_value begins_else levels items = begin_else
tag_value (closes name) levels items = close
tag_value unsupported levels items = close

abbrev pub purpose_errors : Purpose → List Level → List Item → List TagError
purpose_errors prints levels items = print_errors levels items
purpose_errors (opens If) levels items = test_errors levels (drop 1 items)
purpose_errors (opens Unless) levels items = test_errors levels (drop 1 items)
purpose_errors (opens Each) levels items = each_errors levels (drop 1 items)
purpose_errors begins_else levels items = else_errors levels (drop 1 items)
purpose_errors (closes name) levels items = close_errors levels name (drop 1 items)
purpose_errors unsupported levels items = UnsupportedTag ∷ []

-- all errors of a tag
abbrev pub tag_errors : Opening → List ℕ → List Level → List TagError
tag_errors opening content levels =
    when (lacks_space Start false content) BadPath
    ++ purpose_errors (purpose_of opening (items_of content)) levels (items_of content)

-- the blocks are those that are open, the innermost first
unfoldable pub tag_said : Opening → List ℕ → List Level → Result Tag TagError
tag_said opening content levels =
    reported (tag_errors opening content levels)
    (tag_value (purpose_of opening (items_of content)) levels (items_of content))
