-- The values of a document, by what its fields are.
use Rattle.std.proofs.Common.{◌≡◌, ◌≤◌, List, [], ◌∷◌, length, map, arith, true, false, Some, None}
use Rattle.std.proofs.Common.{option_map, is_some, codes, refl, ap, ◌∙◌, if◌then◌else◌}
use Rattle.mapping_json.specs.Documents.{mappings_in, listed, list_of}
use Rattle.mapping_json.specs.Reading.{has_no_items}
use Rattle.serde_json.specs.Data.{Data, Items}
use Rattle.serde_json.specs.Find.{as_array, as_object, get}
use Rattle.mapping_json.proofs.Zips.{list_of-view}
use Rattle.serde_json.specs.View.{view, items_view}
use Rattle.serde_json.specs.declared.value.Value.{Value}

pub no_object : (d : Data) → is_some (as_object d) ≡ false → mappings_in d ≡ None
unfolding mappings_in
no_object d e = ap (λ b. if b then listed d (get (codes "mappings") d) else None) e

pub of_object : (d : Data) → is_some (as_object d) ≡ true → mappings_in d ≡ listed d (get (codes "mappings") d)
unfolding mappings_in
of_object d e = ap (λ b. if b then listed d (get (codes "mappings") d) else None) e

pub one_value : (d : Data) → is_some (as_object d) ≡ true → get (codes "mappings") d ≡ None
    → mappings_in d ≡ Some (d ∷ [])
one_value d e none = of_object d e ∙ ap (listed d) none

pub many_values : (d x : Data) (ds : Items) → is_some (as_object d) ≡ true → get (codes "mappings") d ≡ Some x
    → as_array x ≡ Some ds → mappings_in d ≡ Some (list_of ds)
many_values d x ds e found values =
    of_object d e ∙ ap (listed d) found ∙ ap (option_map list_of) values

pub many_listed : (d x : Data) (values : List Value) → is_some (as_object d) ≡ true
    → get (codes "mappings") d ≡ Some x
    → as_array x ≡ Some (items_view values) → mappings_in d ≡ Some (map view values)
many_listed d x values e found list = many_values d x (items_view values) e found list ∙ ap Some (list_of-view values)

pub no_list : (d x : Data) → is_some (as_object d) ≡ true → get (codes "mappings") d ≡ Some x
    → as_array x ≡ None → mappings_in d ≡ None
no_list d x e found none = of_object d e ∙ ap (listed d) found ∙ ap (option_map list_of) none

pub some_items : (values : List Value) → 1 ≤ length values → has_no_items (items_view values) ≡ false
some_items [] h = absurd (omega (arith, h))
some_items (v ∷ vs) h = refl
