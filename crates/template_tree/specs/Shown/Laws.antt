-- Words of the laws: what a source is read as, and what a piece of text is, by a split of the text.
use Rattle.std.specs.Prelude.{◌≡◌, ◌⊎◌, ℕ, ◌<◌, true, List, [], ◌++◌, length, None, Result, Ok, Err, codes}
use Rattle.template_words.specs.Marks.{begins, offset_of}
use Rattle.template_tree.specs.Grammar.{Spells, IsTemplateError}
use Rattle.template_tree.specs.Source.{Source}
use Rattle.template_tree.specs.Tree.{Nodes}
use Rattle.template_tree.specs.declared.error.TemplateError.{TemplateError}

-- what a source is read as: a tree, or an error
abbrev pub IsReadAs : Source → Result Nodes TemplateError → Type 0
IsReadAs source (Ok tree) = Spells source tree
IsReadAs source (Err error) = IsTemplateError source.text error

-- a piece of text has no mark in it, and goes up to the next mark or to the end
pub record IsPiece (text piece rest : List ℕ) : Type 0 where
  pub split : text ≡ piece ++ rest
  pub some : 0 < length piece
  pub unmarked : offset_of (codes "{{") piece ≡ None
  pub until : (rest ≡ []) ⊎ (begins (codes "{{") rest ≡ true)
