-- Fields that hold the values of their names, as runs.
use Rattle.std.proofs.Common.{◌≡◌, ◌<◌, ℕ, List, [], ◌∷◌, ◌++◌, map, length, All, refl, ap, sym, ◌∙◌, subst}
use Rattle.std.proofs.Common.{Vec, Global, get_or}
use Rattle.std.proofs.lemmas.List.{map-append}
use Rattle.std.proofs.lemmas.List.Elements.{All-head, All-tail, All-push, All-get_or}
use Rattle.data_tree.proofs.Views.{view-Values, items-Values}
use Rattle.data_tree.specs.Parts.{items as items_of_tree}
use Rattle.data_tree.specs.Tree.{first_text, items_of, items_view, named, no_members, text, view}
use Rattle.data_tree.specs.declared.data.Data.{Data, Values}
use Rattle.request_data.specs.Grouped.{texts, values_tree}
use Rattle.request_data.specs.Inner.RunFields.{texts_in, items_in, run_in, runs_in, HoldsValues, IsRunField}
use Rattle.request_data.specs.Inner.Values.{text_in, values_in, AreTexts}
use Rattle.request_data.proofs.GroupLemmas.{entry_tree, text_of_first, texts_from_values}
use Rattle.request_data.proofs.RunLemmas.{HaveValues}

-- values that are texts
pub view_of_values : (held : Vec Data Global) → AreTexts held.items
    → view (Values held) ≡ values_tree (values_in held.items)
view_of_values held are =
    let values = values_in held.items in
    let items : items_view held.items ≡ texts values = ap items_of are ∙ texts_from_values values in
    view-Values held
    ∙ ap (λ ts. named (first_text ts) ts no_members) items
    ∙ ap (λ s. named s (texts values) no_members) (text_of_first values)

texts_in_texts : (values : List (List ℕ)) → texts_in (texts values) ≡ values
texts_in_texts [] = refl
texts_in_texts (value ∷ values) = ap (λ vs. value ∷ vs) (texts_in_texts values)

tree_held : (value : Data) (values : List (List ℕ)) → HoldsValues value values → view value ≡ values_tree values
tree_held value values h = ap view h.is ∙ view_of_values h.items h.texts ∙ ap values_tree h.same

held : (value : Data) (values : List (List ℕ)) → HoldsValues value values → items_in (view value) ≡ values
held value values h = ap items_in (tree_held value values h) ∙ texts_in_texts values

values_from_views : (held : List Data) → values_in held ≡ map text_in (map view held)
values_from_views [] = refl
values_from_views (value ∷ held) = ap (λ vs. text_in (view value) ∷ vs) (values_from_views held)

-- what a value holds are texts, and these are its values
pub held_texts : {value : Data} (items : Vec Data Global) (values : List (List ℕ)) → value ≡ Values items
    → HoldsValues value values → AreTexts items.items × (values_in items.items ≡ values)
held_texts {value} items values is h =
    let views : map view items.items ≡ map view h.items.items =
    sym (items-Values items) ∙ ap (λ v. items_of_tree (view v)) (sym is ∙ h.is) ∙ items-Values h.items in
    let same : values_in items.items ≡ values_in h.items.items =
    values_from_views items.items ∙ ap (map text_in) views ∙ sym (values_from_views h.items.items) in
    (views ∙ h.texts ∙ ap (map text) (sym same), same ∙ h.same)

run_field : (name : List ℕ) (value : Data) (values : List (List ℕ)) → HoldsValues value values → 0 < length values
    → IsRunField (name, value)
run_field name value values h some =
    let same : values ≡ items_in (view value) = sym (held value values h) in
    record {
      some = subst (λ (vs : List (List ℕ)). 0 < length vs) same some;
      holds = subst (HoldsValues value) same h;
    }

-- one more field is one more run
pub runs_more : (old new : List (List ℕ × Data)) (name : List ℕ) (value : Data) (values : List (List ℕ))
    → HoldsValues value values → new ≡ old ++ (name, value) ∷ [] → runs_in new ≡ runs_in old ++ (name, values) ∷ []
runs_more old new name value values h pushed =
    ap runs_in pushed ∙ map-append run_in old ((name, value) ∷ [])
    ∙ ap (λ vs. runs_in old ++ (name, vs) ∷ []) (held value values h)

pub fields_more : (old new : List (List ℕ × Data)) (name : List ℕ) (value : Data) (values : List (List ℕ))
    → HoldsValues value values → 0 < length values → new ≡ old ++ (name, value) ∷ [] → All IsRunField old
    → All IsRunField new
fields_more old new name value values h some pushed all =
    subst (All IsRunField) (sym pushed)
    (All-push IsRunField old (name, value) all (run_field name value values h some))

-- each run has a value
pub have_values : (fields : List (List ℕ × Data)) → All IsRunField fields → HaveValues (runs_in fields)
have_values [] all = tt
have_values (field ∷ fields) all =
    ((All-head IsRunField field fields all).some, have_values fields (All-tail IsRunField field fields all))

-- the names with the trees of their values
pub trees_of_runs : (fields : List (List ℕ × Data)) → All IsRunField fields
    → map (λ (field : List ℕ × Data). (field.0, view field.1)) fields
    ≡ map (entry_tree (λ key. key) values_tree) (runs_in fields)
trees_of_runs [] all = refl
trees_of_runs (field ∷ fields) all =
    let first = All-head IsRunField field fields all in
    ap (λ tree. (field.0, tree) ∷ map (λ (f : List ℕ × Data). (f.0, view f.1)) fields)
    (tree_held field.1 (run_in field).1 first.holds)
    ∙ ap (λ es. (field.0, values_tree (run_in field).1) ∷ es)
    (trees_of_runs fields (All-tail IsRunField field fields all))

-- a field that is yielded
pub field_at : (fields : List (List ℕ × Data)) (i : ℕ) (field : List ℕ × Data) → i < length fields
    → field ≡ get_or fields i field → All IsRunField fields → IsRunField field
field_at fields i field within is all =
    subst IsRunField (sym is) (All-get_or IsRunField fields i field within all)

pub runs_next : (fields : List (List ℕ × Data)) (name : List ℕ) (value : Data) (values : List (List ℕ))
    → values ≡ items_in (view value) → runs_in (fields ++ (name, value) ∷ []) ≡ runs_in fields ++ (name, values) ∷ []
runs_next fields name value values is =
    map-append run_in fields ((name, value) ∷ []) ∙ ap (λ vs. runs_in fields ++ (name, vs) ∷ []) (sym is)
