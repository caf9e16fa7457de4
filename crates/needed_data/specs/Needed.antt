-- Which of a request's data is looked at, and when two roots of data are alike in it.
use Rattle.std.specs.Prelude.{◌≡◌, ℕ, Bool, false, IsTrue, ◌||◌, List, [], ◌∷◌, codes}
use Rattle.std.specs.List.{list_any}
use Rattle.std.specs.Str.{bytes_eq}
use Rattle.data_tree.specs.Tree.{Tree}
use Rattle.data_tree.specs.LookUp.{at}
use Rattle.data_tree.specs.RootPaths.{field_path, json_path}
use Rattle.data_tree.specs.declared.step.Step.{Step}
use Rattle.data_tree.specs.declared.step.Step.TheVariants.{Name}

-- all of it; the body's data; of that the fields that have these names; and the fields of the request that have these
pub record NeededData : Type 0 where
  pub everything : Bool
  pub json : Bool
  pub json_names : List (List ℕ)
  pub names : List (List ℕ)

abbrev pub nothing : NeededData
nothing = record { everything = false; json = false; json_names = []; names = [] }

-- the path to a field of the body's data
abbrev pub json_field_path : List ℕ → List Step
json_field_path name = Name (codes "json") ∷ Name name ∷ []

abbrev pub is_json_needed : NeededData → Bool
is_json_needed needed = needed.everything || needed.json

abbrev pub is_json_field_needed : NeededData → List ℕ → Bool
is_json_field_needed needed name = is_json_needed needed || list_any (λ other. bytes_eq other name) needed.json_names

abbrev pub is_needed : NeededData → List ℕ → Bool
is_needed needed name = needed.everything || list_any (λ other. bytes_eq other name) needed.names

-- the two roots have the same of what is needed
pub record AreAlike (needed : NeededData) (r r' : Tree) : Type 0 where
  pub everything : IsTrue needed.everything → r ≡ r'
  pub json : IsTrue (is_json_needed needed) → at json_path r ≡ at json_path r'
  pub json_fields :
      (name : List ℕ) → IsTrue (is_json_field_needed needed name)
      → at (json_field_path name) r ≡ at (json_field_path name) r'
  pub fields :
      (name : List ℕ) → IsTrue (is_needed needed name) → at (field_path name) r ≡ at (field_path name) r'

-- what is needed by the second is needed by the first
abbrev pub Includes : NeededData → NeededData → Type 0
Includes more less = (r r' : Tree) → AreAlike more r r' → AreAlike less r r'

-- the steps find the same in roots that are alike
abbrev pub Covers : NeededData → List Step → Type 0
Covers needed steps = (r r' : Tree) → AreAlike needed r r' → at steps r ≡ at steps r'
