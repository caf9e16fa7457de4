-- A template's source: its text, and whether the values that it prints are escaped.
use Rattle.std.specs.Prelude.{ℕ, List}
use Rattle.template_tree.specs.declared.escape.Escape.{Escape}
use Rattle.template_tree.specs.declared.escape.Escape.TheVariants.{Off}

pub record Source : Type 0 where
  pub text : List ℕ
  pub escape : Escape

abbrev pub with_escape : Escape → List ℕ → Source
with_escape escape text = record { text = text; escape = escape }

-- a text whose values are printed as they are
abbrev pub unescaped : List ℕ → Source
unescaped text = with_escape Off text
