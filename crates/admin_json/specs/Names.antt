-- Texts in byte order, each once.
use Rattle.std.specs.Prelude.{ℕ, List, [], ◌∷◌}
use Rattle.request_data.specs.Grouped.{with_name}

-- the texts, put one after the other among others that are in byte order
abbrev pub with_names : List (List ℕ) → List (List ℕ) → List (List ℕ)
with_names [] names = names
with_names (text ∷ texts) names = with_names texts (with_name text names)

abbrev pub in_order : List (List ℕ) → List (List ℕ)
in_order texts = with_names texts []
