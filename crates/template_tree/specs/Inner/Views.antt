-- What the values of the parser's private types are seen as.
use Rattle.std.specs.Prelude.{◌≡◌, ℕ, ◌+◌, List, length, Option, Some, None}
use denote.Ref.{Bor}
use Rattle.template_words.specs.declared.error.ReadError.{ReadError}
use Rattle.template_words.specs.declared.error.ReadError.TheVariants as reads
use Rattle.template_tags.specs.Tags as said
use Rattle.template_tree.specs.declared.error.ParseError.{ParseError}
use Rattle.template_tree.specs.declared.error.ParseError.TheVariants.{Template, OutOfMemory}
use Rattle.template_tree.specs.declared.error.TemplateErrorKind.{TemplateErrorKind}
use Rattle.template_tree.specs.declared.error.TemplateErrorKind.TheVariants as kinds
use Rattle.template_tree.specs.declared.tags.TagText as found
use Rattle.template_tree.specs.declared.tags.TagText.TheVariants as tags
use Rattle.template_tree.specs.declared.tokens.Token as parser
use Rattle.template_tree.specs.declared.tokens.Token.TheVariants as tokens
use Rattle.template_tree.specs.Tags.{TagText, comment, shown}
use Rattle.template_tree.specs.Tokens.{Token, text_token, comment_token, tag_token, Next, tag_error}

abbrev pub tag_view : found.TagText → TagText
tag_view tags.Comment = comment
tag_view (tags.Shown opening text) = shown opening text.now

abbrev pub tag_rest_view : Option (found.TagText × Bor (List ℕ)) → Option (TagText × List ℕ)
tag_rest_view None = None
tag_rest_view (Some x) = Some (tag_view x.0, x.1.now)

abbrev pub token_view : parser.Token → Token
token_view (tokens.Text text) = text_token text
token_view tokens.Comment = comment_token
token_view (tokens.Tag opening tag) = tag_token opening (said.tag_view tag)

-- a text begins with a tag of that error, and is what is left, from that byte on, of a text of that length
abbrev pub IsNextErrorAt : ℕ → Next → TemplateErrorKind → ℕ → Type 0
IsNextErrorAt len next (kinds.Tag e) at = (mark : List ℕ) × (next ≡ tag_error e mark) × (at + length mark ≡ len)
IsNextErrorAt len next kinds.TooLong at = ⊥

abbrev pub IsNextError : ℕ → Next → ParseError → Type 0
IsNextError len next (Template error) = IsNextErrorAt len next error.kind error.at
IsNextError len next OutOfMemory = Unit {0}

-- the same, where the mark is known
abbrev pub IsReadErrorOf : List ℕ → Next → ReadError → Type 0
IsReadErrorOf mark next reads.OutOfMemory = Unit {0}
IsReadErrorOf mark next (reads.Tag e) = next ≡ tag_error e mark
