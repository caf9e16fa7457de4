-- Lists of values beside what is read of them.
use Rattle.std.proofs.Common.{◌≡◌, suc, List, [], ◌∷◌, ◌++◌, length, map, refl, ap, Result, Ok, Err}
use Rattle.std.specs.List.{AllZip}
use Rattle.mapping_json.specs.Documents.{list_of, IsOwnError, IsResultOf}
use Rattle.mapping_json.specs.Spelling.{SpellsMapping}
use Rattle.mapping_json.specs.declared.error.MappingError.{MappingError}
use Rattle.mapping_model.specs.declared.mapping_spec.MappingSpec.{MappingSpec}
use Rattle.serde_json.specs.Data.{Data}
use Rattle.template_tree.specs.declared.escape.Escape.{Escape}
use Rattle.serde_json.specs.View.{view, items_view}
use Rattle.serde_json.specs.declared.value.Value.{Value}

pub list_of-view : (values : List Value) → list_of (items_view values) ≡ map view values
list_of-view [] = refl
list_of-view (v ∷ vs) = ap (λ ds. view v ∷ ds) (list_of-view vs)

pub zip_map : {A B C : Type 0} (R : B → C → Type 0) (f : A → B) (xs : List A) (ys : List C)
    → AllZip (λ x. R (f x)) xs ys → AllZip R (map f xs) ys
zip_map R f [] [] h = tt
zip_map R f [] (y ∷ ys) h = absurd h
zip_map R f (x ∷ xs) [] h = absurd h
zip_map R f (x ∷ xs) (y ∷ ys) h = (h.0, zip_map R f xs ys h.1)

pub zip_push : {A C : Type 0} (R : A → C → Type 0) (xs : List A) (ys : List C) (x : A) (y : C)
    → AllZip R xs ys → R x y → AllZip R (xs ++ x ∷ []) (ys ++ y ∷ [])
zip_push R [] [] x y h r = (r, tt)
zip_push R [] (z ∷ ys) x y h r = absurd h
zip_push R (w ∷ xs) [] x y h r = absurd h
zip_push R (w ∷ xs) (z ∷ ys) x y h r = (h.0, zip_push R xs ys x y h.1 r)

-- each result is a mapping
pub all_read : (escape : Escape) (values : List Data) (mappings : List MappingSpec)
    → AllZip (IsResultOf escape) values (map Ok mappings) → AllZip (SpellsMapping escape) values mappings
all_read escape [] [] h = tt
all_read escape [] (m ∷ ms) h = absurd h
all_read escape (d ∷ ds) [] h = absurd h
all_read escape (d ∷ ds) (m ∷ ms) h = (h.0, all_read escape ds ms h.1)

-- the values before one that is refused, that one, and those after it
pub record IsSplit (escape : Escape) (values : List Data) (mappings : List MappingSpec)
    (error : MappingError) : Type 0 where
  pub before : List Data
  pub value : Data
  pub after : List Data
  pub whole : values ≡ before ++ value ∷ after
  pub read : AllZip (SpellsMapping escape) before mappings
  pub count : length mappings ≡ length before
  pub refused : IsOwnError escape value error

pub split_at : (escape : Escape) (values : List Data) (mappings : List MappingSpec) (error : MappingError)
    (after : List (Result MappingSpec MappingError))
    → AllZip (IsResultOf escape) values (map Ok mappings ++ Err error ∷ after)
    → IsSplit escape values mappings error
split_at escape [] [] error after h = absurd h
split_at escape [] (m ∷ ms) error after h = absurd h
split_at escape (d ∷ ds) [] error after h = record {
  before = [];
  value = d;
  after = ds;
  whole = refl;
  read = tt;
  count = refl;
  refused = h.0;
}
split_at escape (d ∷ ds) (m ∷ ms) error after h =
    let rest = split_at escape ds ms error after h.1 in
    record {
      before = d ∷ rest.before;
      value = rest.value;
      after = rest.after;
      whole = ap (λ vs. d ∷ vs) rest.whole;
      read = (h.0, rest.read);
      count = ap suc rest.count;
      refused = rest.refused;
    }
