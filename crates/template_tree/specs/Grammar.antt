-- Which text spells which tree, and which error a text has that spells none.
use Rattle.std.specs.Prelude.{◌≡◌, ◌⊎◌, ℕ, ◌+◌, ◌<◌, ◌≤◌, Bool, true, false, List, []}
use Rattle.std.specs.Prelude.{◌∷◌, length, drop, Option, None}
use Rattle.template_words.specs.declared.error.TagError.{TagError}
use Rattle.template_words.specs.declared.error.TagError.TheVariants.{UnclosedTag}
use Rattle.template_tags.specs.declared.level.Block.{Block}
use Rattle.template_tags.specs.declared.level.Block.TheVariants.{If, Unless, Each}
use Rattle.template_tags.specs.declared.level.Level.{Level}
use Rattle.template_tags.specs.Tags as said
use Rattle.template_tree.specs.declared.error.ParseError.{ParseError}
use Rattle.template_tree.specs.declared.error.ParseError.TheVariants.{Template, OutOfMemory}
use Rattle.template_tree.specs.declared.error.TemplateError.{TemplateError}
use Rattle.template_tree.specs.declared.error.TemplateErrorKind.{TemplateErrorKind}
use Rattle.template_tree.specs.declared.error.TemplateErrorKind.TheVariants.{Tag, TooLong}
use Rattle.template_tree.specs.declared.parser.TheConstants.{TEXT_LIMIT}
use Rattle.template_tree.specs.Parts.{parts_of, spell}
use Rattle.template_tree.specs.Source.{Source}
use Rattle.template_tree.specs.Tokens.{Token, text_token, comment_token, tag_token, token, tag_error, next_of}
use Rattle.template_tree.specs.Tree.{Nodes}

-- ---- the blocks that are open, the innermost first

abbrev pub test_block : Bool → Block
test_block true = Unless
test_block false = If

-- a block whose tag's mark has that many bytes of the text from it on
abbrev pub opened : ℕ → Block → Option (List ℕ) → Level
opened left block parameter = record { left = left; block = block; parameter = parameter; in_else = false }

abbrev pub with_else : Level → Level
with_else level =
    record { left = level.left; block = level.block; parameter = level.parameter; in_else = true }

abbrev pub else_begun : List Level → List Level
else_begun [] = []
else_begun (level ∷ levels) = with_else level ∷ levels

-- the blocks that are open after a tag
abbrev pub levels_after : ℕ → said.Tag → List Level → List Level
levels_after left (said.print e) levels = levels
levels_after left (said.open_if unless test) levels = opened left (test_block unless) None ∷ levels
levels_after left (said.open_each over parameter) levels = opened left Each parameter ∷ levels
levels_after left said.begin_else levels = else_begun levels
levels_after left said.close levels = drop 1 levels

abbrev pub token_levels : ℕ → Token → List Level → List Level
token_levels left (text_token bytes) levels = levels
token_levels left comment_token levels = levels
token_levels left (tag_token opening tag) levels = levels_after left tag levels

-- ---- trees and errors

-- the tokens lead from a text to its rest, and from the open blocks before them to those after
abbrev pub Leads : List Token → List Level → List ℕ → List Level → List ℕ → Type 0
Leads [] levels text new_levels rest = (levels ≡ new_levels) × (text ≡ rest)
Leads (t ∷ ts) levels text new_levels rest =
    (more : List ℕ) × (next_of levels text ≡ token t more)
    × Leads ts (token_levels (length text) t levels) more new_levels rest

-- the text is short enough, each block in it is closed, and its tokens have the parts of the tree
pub record Spells (source : Source) (tree : Nodes) : Type 0 where
  pub short : length source.text ≤ TEXT_LIMIT
  pub tokens : List Token
  pub leads : Leads tokens [] source.text [] []
  pub same : parts_of source.escape tokens [] ≡ spell tree []

-- the first tag that can't be read has this error, and its mark is at that byte; how prints are escaped doesn't matter
pub record IsReadErrorAt (text : List ℕ) (error : TagError) (at : ℕ) : Type 0 where
  pub short : length text ≤ TEXT_LIMIT
  pub tokens : List Token
  pub levels : List Level
  pub rest : List ℕ
  pub mark : List ℕ
  pub leads : Leads tokens [] text levels rest
  pub wrong : next_of levels rest ≡ tag_error error mark
  pub offset : at + length mark ≡ length text

-- each tag can be read, and of the blocks that are open at the end the mark of the innermost one is at that byte
pub record IsOpenAt (text : List ℕ) (at : ℕ) : Type 0 where
  pub short : length text ≤ TEXT_LIMIT
  pub tokens : List Token
  pub level : Level
  pub levels : List Level
  pub leads : Leads tokens [] text (level ∷ levels) []
  pub offset : at + level.left ≡ length text

abbrev pub IsTagErrorAt : List ℕ → TagError → ℕ → Type 0
IsTagErrorAt text error at = IsReadErrorAt text error at ⊎ ((error ≡ UnclosedTag) × IsOpenAt text at)

abbrev pub IsErrorAt : List ℕ → TemplateErrorKind → ℕ → Type 0
IsErrorAt text (Tag error) at = IsTagErrorAt text error at
IsErrorAt text TooLong at = (TEXT_LIMIT < length text) × (at ≡ TEXT_LIMIT)

-- the error that the text has
abbrev pub IsTemplateError : List ℕ → TemplateError → Type 0
IsTemplateError text error = IsErrorAt text error.kind error.at

-- an error that `parse` answers is the text's, unless memory ran out
abbrev pub IsParseError : List ℕ → ParseError → Type 0
IsParseError text (Template error) = IsTemplateError text error
IsParseError text OutOfMemory = Unit {0}
