-- The tokens of a text: pieces of text, comments, and tags that say something. A tag right after `\`, which Handlebars
-- escapes, is unsupported.
use Rattle.std.specs.Prelude.{ℕ, zero, suc, ◌==◌, List, [], ◌∷◌, take, drop, Option, Some, None, Result, Ok}
use Rattle.std.specs.Prelude.{Err, if◌then◌else◌, codes}
use Rattle.std.specs.List.{ends_with}
use Rattle.template_words.specs.declared.error.TagError.{TagError}
use Rattle.template_words.specs.declared.error.TagError.TheVariants.{UnclosedTag, UnsupportedTag}
use Rattle.template_words.specs.Marks.{offset_of}
use Rattle.template_tags.specs.declared.level.Level.{Level}
use Rattle.template_tags.specs.declared.tag.Opening.{Opening}
use Rattle.template_tags.specs.Said.{tag_said}
use Rattle.template_tags.specs.Tags as said
use Rattle.template_tree.specs.Tags.{TagText, comment, shown, tag_of}

pub data Token : Type 0 where
  text_token : List ℕ → Token
  comment_token : Token
  tag_token : Opening → said.Tag → Token

-- what a text begins with: a token, before more text; a tag that can't be read, with its error and the text from
-- its mark on, before which there may be text; nothing, where the text is at its end
pub data Next : Type 0 where
  token : Token → List ℕ → Next
  tag_error : TagError → List ℕ → Next
  ended : Next

abbrev pub said_next : List ℕ → Opening → Result said.Tag TagError → List ℕ → Next
said_next text opening (Ok tag) rest = token (tag_token opening tag) rest
said_next text opening (Err e) rest = tag_error e text

-- what a tag says depends on the blocks that are open, the innermost first
abbrev pub closed_next : List Level → List ℕ → TagText → List ℕ → Next
closed_next levels text comment rest = token comment_token rest
closed_next levels text (shown opening content) rest = said_next text opening (tag_said opening content levels) rest

-- at a text that begins with a tag's mark
abbrev pub tag_next : List Level → List ℕ → Option (TagText × List ℕ) → Next
tag_next levels text None = tag_error UnclosedTag text
tag_next levels text (Some x) = closed_next levels text x.0 x.1

-- the error of a tag right after `\`
abbrev pub error_after_backslash : Option (TagText × List ℕ) → TagError
error_after_backslash None = UnclosedTag
error_after_backslash (Some x) = UnsupportedTag

-- text before a tag's mark
abbrev pub text_next : List ℕ → List ℕ → Next
text_next front mark =
    if ends_with ◌==◌ front (codes "\\") then tag_error (error_after_backslash (tag_of mark)) mark
    else token (text_token front) mark

abbrev pub last_text_next : List ℕ → Next
last_text_next [] = ended
last_text_next (b ∷ bs) = token (text_token (b ∷ bs)) []

abbrev pub next_at : List Level → List ℕ → Option ℕ → Next
next_at levels text None = last_text_next text
next_at levels text (Some zero) = tag_next levels text (tag_of text)
next_at levels text (Some (suc n)) = text_next (take (suc n) text) (drop (suc n) text)

-- what the text begins with
unfoldable pub next_of : List Level → List ℕ → Next
next_of levels text = next_at levels text (offset_of (codes "{{") text)
