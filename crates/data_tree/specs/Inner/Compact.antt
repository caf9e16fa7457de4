-- The bytes of a text, wherever they lie.
use Rattle.std.specs.Prelude.{ℕ, List, string_bytes}
use Rattle.data_tree.specs.declared.compact_text.Held.{Held}
use Rattle.data_tree.specs.declared.compact_text.Held.TheVariants.{Short, Long}

abbrev pub held_bytes : Held → List ℕ
held_bytes (Short text) = text
held_bytes (Long text) = string_bytes text
