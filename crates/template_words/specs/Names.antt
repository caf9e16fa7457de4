-- Words with names in them: hash arguments and block parameters (Handlebars), and the first part of a path.
use Rattle.std.specs.Prelude.{ℕ, Bool, false, ◌&&◌, List, [], ◌∷◌, drop, Option, Some, None, if◌then◌else◌, codes}
use Rattle.template_words.specs.Marks.{begins, offset_of, around}
use Rattle.template_words.specs.Paths.{is_name, dotted_parts}
use Rattle.template_words.specs.Words.{enclosed, closed_at_end}

abbrev pub is_named : Option (List ℕ × List ℕ) → Bool
is_named None = false
is_named (Some x) = is_name x.0

-- a name and `=`, before anything
abbrev pub is_hash_argument : List ℕ → Bool
is_hash_argument text = is_named (around (codes "=") text (offset_of (codes "=") text))

abbrev pub only_name : Option (List ℕ) → Option (List ℕ)
only_name None = None
only_name (Some text) = if is_name text then Some text else None

-- the name between two bars
abbrev pub name_in_bars : List ℕ → Option (List ℕ)
name_in_bars text = only_name (enclosed (codes "|") (codes "|") text)

-- a bar and a name
abbrev pub is_name_after_bar : List ℕ → Bool
is_name_after_bar text = begins (codes "|") text && is_name (drop 1 text)

-- the name before a bar that ends the text
abbrev pub name_before_bar : List ℕ → Option (List ℕ)
name_before_bar text = only_name (closed_at_end (codes "|") text (offset_of (codes "|") text))

abbrev pub first_of_parts : List (List ℕ) → List ℕ
first_of_parts [] = []
first_of_parts (part ∷ parts) = part

-- the text of a path up to its first dot
abbrev pub first_part : List ℕ → List ℕ
first_part text = first_of_parts (dotted_parts false text)
