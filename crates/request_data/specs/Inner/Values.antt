-- How contracts see values that are texts.
use Rattle.std.specs.Prelude.{◌≡◌, ℕ, List, [], map}
use Rattle.data_tree.specs.declared.data.Data.{Data}
use Rattle.data_tree.specs.Tree.{Tree, text, view}

abbrev pub text_in : Tree → List ℕ
text_in (text s) = s
text_in t = []

-- the texts that the values are
abbrev pub values_in : List Data → List (List ℕ)
values_in values = map (λ value. text_in (view value)) values

abbrev pub AreTexts : List Data → Type 0
AreTexts values = map view values ≡ map text (values_in values)
