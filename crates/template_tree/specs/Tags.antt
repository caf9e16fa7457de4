-- Where a tag of a text ends, and of which kind it is (Handlebars' `{{ }}`, `{{{ }}}`, `{{! }}`, `{{!-- --}}`).
use Rattle.std.specs.Prelude.{ℕ, List, drop, Option, Some, None, if◌then◌else◌, codes}
use Rattle.template_words.specs.declared.mode.Mode.TheVariants.{Start}
use Rattle.template_tags.specs.declared.tag.Opening.{Opening}
use Rattle.template_tags.specs.declared.tag.Opening.TheVariants.{Double, Triple}
use Rattle.template_words.specs.Marks.{begins, offset_of, close_from, around}

-- a comment, or what is shown: the bytes between the marks
pub data TagText : Type 0 where
  comment : TagText
  shown : Opening → List ℕ → TagText

abbrev pub comment_tag : Option (List ℕ × List ℕ) → Option (TagText × List ℕ)
comment_tag None = None
comment_tag (Some x) = Some (comment, x.1)

abbrev pub shown_tag : Opening → Option (List ℕ × List ℕ) → Option (TagText × List ℕ)
shown_tag opening None = None
shown_tag opening (Some x) = Some (shown opening x.0, x.1)

-- a comment's close, which may take the dashes of its opening mark; no literals in a comment
abbrev pub comment_close : List ℕ → List ℕ
comment_close body = if begins (codes "--") body then codes "--}}" else codes "}}"

abbrev pub comment_of : List ℕ → Option (TagText × List ℕ)
comment_of body = comment_tag (around (comment_close body) body (offset_of (comment_close body) body))

abbrev pub shown_of : Opening → List ℕ → List ℕ → Option (TagText × List ℕ)
shown_of opening close body = shown_tag opening (around close body (close_from close Start body))

-- the tag that the text begins with, and what follows it; none where it isn't closed
unfoldable pub tag_of : List ℕ → Option (TagText × List ℕ)
tag_of text =
    if begins (codes "{{!") text then comment_of (drop 3 text)
    else if begins (codes "{{{") text then shown_of Triple (codes "}}}") (drop 3 text)
    else shown_of Double (codes "}}") (drop 2 text)
