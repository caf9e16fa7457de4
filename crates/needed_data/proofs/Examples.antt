-- Worked examples, which the checker computes.
use Rattle.std.proofs.Common.{◌≡◌, ℕ, Bool, true, false, List, [], ◌∷◌, refl, subst}
use Rattle.std.specs.Prelude.{IsTrue, ◌||◌, codes}
use Rattle.std.specs.Str.{bytes_eq}
use Rattle.std.proofs.lemmas.Slice.Eq.{bytes_eq-Decides}
use Rattle.data_tree.specs.Tree.{Tree, text, fields, no_members, member}
use Rattle.data_tree.specs.LookUp.{at}
use Rattle.needed_data.specs.Needed.{NeededData, is_needed, is_json_needed, AreAlike}
use Rattle.data_tree.specs.RootPaths.{field_path}

-- the request's path alone
abbrev path_alone : NeededData
path_alone = record { everything = false; json = false; json_names = []; names = codes "path" ∷ [] }

abbrev all_of_it : NeededData
all_of_it = record { everything = true; json = false; json_names = []; names = [] }

path_is : is_needed path_alone (codes "path") ≡ true
path_is = refl

url_is_not : is_needed path_alone (codes "url") ≡ false
url_is_not = refl

json_is_not : is_json_needed path_alone ≡ false
json_is_not = refl

all_is : (is_needed all_of_it (codes "url") ≡ true) × (is_json_needed all_of_it ≡ true)
all_is = (refl, refl)

-- a request with that path and that URL
abbrev data_of : List ℕ → List ℕ → Tree
data_of path url =
    fields (member (codes "json") (text url) (member (codes "request")
    (fields (member (codes "path") (text path) (member (codes "url") (text url) no_members))) no_members))

no_other : (b : Bool) → IsTrue (b || false) → IsTrue b
no_other true h = refl
no_other false h = h

-- where the path alone is needed, two requests are alike whose URLs differ
differ_in_url : (path url other : List ℕ) → AreAlike path_alone (data_of path url) (data_of path other)
differ_in_url path url other = record {
  everything = λ h. absurd (cc h);
  json = λ h. absurd (cc h);
  json_fields = λ name h. absurd (cc h);
  fields = λ name h.
      let is = (bytes_eq-Decides (codes "path") name).0 (no_other (bytes_eq (codes "path") name) h) in
      subst (λ n. at (field_path n) (data_of path url) ≡ at (field_path n) (data_of path other)) is refl;
}

-- and not where their paths differ
differ_in_path : (url : List ℕ) → AreAlike path_alone (data_of [] url) (data_of (codes "/") url) → ⊥
differ_in_path url alike =
    let same : text [] ≡ text (codes "/") = alike.fields (codes "path") refl in
    absurd (cc same)
