-- What is needed after a step was added, and what roots that are alike have in common.
use Rattle.std.proofs.Common.{◌≡◌, ℕ, Bool, false, true, List, [], ◌∷◌, ◌++◌, map, refl, ap}
use Rattle.std.proofs.Common.{◌∙◌, Bor, ◌+◌, ◌<◌, length, take, get_or, sym, subst, All}
use Rattle.std.specs.Prelude.{IsTrue, ◌||◌}
use Rattle.std.specs.List.{list_any}
use Rattle.std.specs.Str.{bytes_eq}
use Rattle.std.proofs.lemmas.Bool.{false≢true, or_left, or_right}
use Rattle.std.proofs.lemmas.List.Elements.{All-head, All-tail, All-more, All-weaker}
use Rattle.std.proofs.lemmas.List.Folds.{list_any_more}
use Rattle.std.proofs.lemmas.Slice.Eq.{bytes_eq-Decides}
use Rattle.data_tree.specs.LookUp.{at}
use Rattle.data_tree.specs.RootPaths.{field_path}
use Rattle.needed_data.specs.Needed.{NeededData, is_json_needed, is_json_field_needed, json_field_path}
use Rattle.needed_data.specs.Needed.{Covers, Includes}
use Rattle.needed_data.specs.Inner.FieldSet.{names_in, has_name, HasNamesOf}
use Rattle.needed_data.specs.Inner.Parts.{IncludesParts}
use Rattle.needed_data.proofs.FieldSets.{or_more}

abbrev of_names : Bool → Bool → List (Bor (List ℕ)) → ℕ → NeededData
of_names everything json json_names fields = record {
  everything = everything;
  json = json;
  json_names = map (λ n. n.now) json_names;
  names = names_in fields;
}

any_of_texts : (name : List ℕ) (names : List (Bor (List ℕ)))
    → list_any (λ n. bytes_eq n.now name) names ≡ list_any (λ n. bytes_eq n name) (map (λ n. n.now) names)
any_of_texts name [] = refl
any_of_texts name (n ∷ names) = ap (λ b. bytes_eq n.now name || b) (any_of_texts name names)

-- a field of the body's data, if not all of it is
pub json_needed_by_name : (everything json : Bool) (name : List ℕ) (slice json_names : List (Bor (List ℕ)))
    (fields : ℕ) (found : Bool) → (everything || json) ≡ false → slice ≡ json_names
    → found ≡ list_any (λ n. bytes_eq n.now name) slice
    → found ≡ is_json_field_needed (of_names everything json json_names fields) name
json_needed_by_name everything json name slice json_names fields found none same is =
    rw (none, ← same) (is ∙ any_of_texts name slice)

-- where the next name is another one, none is so far
pub none_more : (names : List (Bor (List ℕ))) (i : ℕ) (next : Bor (List ℕ)) (name : List ℕ) (found : Bool)
    → i < length names → found ≡ bytes_eq (get_or names i next).now name → found ≡ false
    → list_any (λ n. bytes_eq n.now name) (take i names) ≡ false
    → list_any (λ n. bytes_eq n.now name) (take (i + 1) names) ≡ false
none_more names i next name found within is other none =
    list_any_more (λ n. bytes_eq n.now name) names i next within
    ∙ ap (λ b. b || bytes_eq (get_or names i next).now name) none ∙ sym is ∙ other

or_later : (b later : Bool) → IsTrue later → IsTrue (b || later)
or_later true later h = refl
or_later false later h = h

any_last : (name : Bor (List ℕ)) (names : List (Bor (List ℕ)))
    → IsTrue (list_any (λ n. bytes_eq n name.now) (map (λ n. n.now) (names ++ name ∷ [])))
any_last name [] = ap (λ b. b || false) ((bytes_eq-Decides name.now name.now).1 refl)
any_last name (n ∷ names) = or_later (bytes_eq n.now name.now) _ (any_last name names)

-- a name that was added is needed
pub covers_last_json : (everything json : Bool) (name : Bor (List ℕ)) (json_names more : List (Bor (List ℕ)))
    (fields : ℕ)
    → more ≡ json_names ++ name ∷ [] → Covers (of_names everything json more fields) (json_field_path name.now)
covers_last_json everything json name json_names more fields is r r' alike =
    alike.json_fields name.now (or_later (everything || json) _ (rw is (any_last name json_names)))

-- ---- what is needed of the parts

abbrev any_named : List (List ℕ) → List ℕ → Bool
any_named names name = list_any (λ other. bytes_eq other name) names

-- a wider choice
or_wide : (b c d : Bool) → (b || d) ≡ true → ((b || c) || d) ≡ true
or_wide true c d h = refl
or_wide false c d h = or_right c d h

or_wide_later : (b c d : Bool) → (c || d) ≡ true → ((b || c) || d) ≡ true
or_wide_later true c d h = refl
or_wide_later false c d h = h

or_first : (b c d : Bool) → (b ≡ true → c ≡ true) → (b || d) ≡ true → (c || d) ≡ true
or_first true c d more h = or_left c d (more refl)
or_first false c d more h = or_right c d h

-- where fields are added, and maybe all of the body's data, or everything
pub parts_first : (everything json all all_json : Bool) (json_names : List (Bor (List ℕ))) (fields more : ℕ)
    → HasNamesOf more fields
    → Includes (of_names (everything || all) (json || all_json) json_names more)
    (of_names everything json json_names fields)
parts_first everything json all all_json json_names fields more names r r' alike =
    let asked : (everything || json) ≡ true → ((everything || all) || (json || all_json)) ≡ true =
    λ h. or_wide everything all (json || all_json)
    (or_more everything json (json || all_json) (or_left json all_json) h)
    in record {
      everything = λ h. alike.everything (or_left everything all h);
      json = λ h. alike.json (asked h);
      json_fields = λ name h.
          let any = any_named (map (λ n. n.now) json_names) name in
          alike.json_fields name
          (or_first (everything || json) ((everything || all) || (json || all_json)) any asked h);
      fields = λ name h.
          alike.fields name
          (or_wide everything all (has_name more name)
          (or_more everything (has_name fields name) (has_name more name) (names name) h));
    }

-- the added parts are needed
pub parts_second : (everything json all all_json : Bool) (json_names : List (Bor (List ℕ))) (added : List (List ℕ))
    (fields more : ℕ) → HasNamesOf more fields
    → IncludesParts (of_names (everything || all) (json || all_json) json_names more)
    (record { everything = all; json = all_json; json_names = added; names = names_in fields })
parts_second everything json all all_json json_names added fields more names = record {
  everything = or_right everything all;
  json = λ h.
      or_wide_later everything all (json || all_json)
      (or_more all all_json (json || all_json) (or_right json all_json) h);
  fields = λ name h.
      or_wide_later everything all (has_name more name)
      (or_more all (has_name fields name) (has_name more name) (names name) h);
}

any_covered : (P : List ℕ → Type 0) (names : List (List ℕ)) (name : List ℕ) → All P names
    → any_named names name ≡ true → P name
any_covered P [] name all h = absurd (false≢true h)
any_covered P (n ∷ names) name all h =
    by (bytes_eq n name) refl h (any_covered P names name (All-tail P n names all))
  where
    by : (b : Bool) → bytes_eq n name ≡ b → (b || any_named names name) ≡ true
        → (any_named names name ≡ true → P name) → P name
    by true e h later = subst P ((bytes_eq-Decides n name).0 e) (All-head P n names all)
    by false e h later = later h

-- with the fields of the body's data all of it is needed
pub includes_kept : (old new kept : NeededData) → IncludesParts old kept → Includes new old
    → All (λ name. Covers new (json_field_path name)) kept.json_names → Includes new kept
includes_kept old new kept parts more fields r r' alike =
    let before = more r r' alike in
    record {
      everything = λ h. before.everything (parts.everything h);
      json = λ h. before.json (parts.json h);
      json_fields = λ name h. by name (is_json_needed kept) refl h;
      fields = λ name h. before.fields name (parts.fields name h);
    }
  where
    by : (name : List ℕ) (b : Bool) → is_json_needed kept ≡ b
        → (b || any_named kept.json_names name) ≡ true
        → at (json_field_path name) r ≡ at (json_field_path name) r'
    by name true e h =
        (more r r' alike).json_fields name
        (or_left (is_json_needed old) (any_named old.json_names name) (parts.json e))
    by name false e h =
        any_covered (λ n. Covers new (json_field_path n)) kept.json_names name fields h r r' alike

-- one more field of the body's data
pub fields_more : (old new : NeededData) (names : List (List ℕ)) (i : ℕ) (item name : List ℕ)
    → i < length names → item ≡ get_or names i item → name ≡ item → Includes new old
    → All (λ n. Covers old (json_field_path n)) (take i names) → Covers new (json_field_path name)
    → All (λ n. Covers new (json_field_path n)) (take (i + 1) names)
fields_more old new names i item name within is same more before here =
    let covers = λ (n : List ℕ). Covers new (json_field_path n) in
    All-more covers names i item within
    (All-weaker (λ n. Covers old (json_field_path n)) covers (λ n covered r r' alike. covered r r' (more r r' alike))
    (take i names) before)
    (subst covers (same ∙ is) here)

-- a field that was added is needed
pub covers_field : (everything json : Bool) (json_names : List (Bor (List ℕ))) (fields : ℕ) (name : List ℕ)
    → has_name fields name ≡ true → Covers (of_names everything json json_names fields) (field_path name)
covers_field everything json json_names fields name is r r' alike = alike.fields name (or_right everything (has_name fields name) is)

pub includes_fields : (everything json : Bool) (json_names : List (Bor (List ℕ))) (fields more : ℕ)
    → HasNamesOf more fields
    → Includes (of_names everything json json_names more) (of_names everything json json_names fields)
includes_fields everything json json_names fields more names r r' alike = record {
  everything = alike.everything;
  json = alike.json;
  json_fields = alike.json_fields;
  fields = λ name h.
      alike.fields name (or_more everything (has_name fields name) (has_name more name) (names name) h);
}
