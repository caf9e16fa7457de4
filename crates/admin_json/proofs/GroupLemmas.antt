-- The entries of a map in byte order are the groups that the definition makes.
use Rattle.std.proofs.Common.{◌≡◌, ℕ, Bool, true, false, cond, List, [], ◌∷◌, map, Option, Some, None, option_map}
use Rattle.std.proofs.Common.{is_some, String, Vec, string_bytes, refl, sym, ap, ◌∙◌}
use Rattle.std.specs.declared.alloc.Global.{Global}
use Rattle.std.specs.BTreeMap.{is_at}
use Rattle.std.specs.Cmp.Lexicographic.{slice_cmp}
use Rattle.std.specs.List.{list_any}
use Rattle.std.specs.List.Sorted.{IsStrictlySortedBy}
use Rattle.std.specs.Map.{keys_of, lookup}
use Rattle.std.specs.Option.{option_map_or, unwrap_or}
use Rattle.std.specs.Ordering.{nat_cmp}
use Rattle.std.specs.Str.{bytes_eq}
use Rattle.std.specs.String.{string_cmp}
use Rattle.admin_json.proofs.Groups.{Group, groups_of, group_of, groups_in, with_groups, group_json}
use Rattle.admin_json.specs.Pairs.{with_values}
use Rattle.admin_json.specs.Scenarios.{json_of_scenario}
use Rattle.admin_json.specs.Written.{json_of_texts}
use Rattle.data_tree.specs.Tree.{Tree, nothing, truth, number, text, list, fields, named, Items, no_items, item}
use Rattle.data_tree.specs.Tree.{Members, no_members, member, members_of}
use Rattle.mock_request.specs.Values.{values_of}
use Rattle.request_data.specs.Grouped.{texts, names_in, members_under}
use Rattle.request_data.proofs.GroupLemmas.{found, entry_tree, grouped_entries}
use Rattle.scenario_core.specs.Scenarios.{States}
use Rattle.serde_json.specs.Data as json

-- ---- a tree of names with lists of texts, and its groups

abbrev texts_in : Items → List (List ℕ)
texts_in no_items = []
texts_in (item nothing is) = texts_in is
texts_in (item (truth b) is) = texts_in is
texts_in (item (number n) is) = texts_in is
texts_in (item (text t) is) = t ∷ texts_in is
texts_in (item (list js) is) = texts_in is
texts_in (item (fields ms) is) = texts_in is
texts_in (item (named t js ms) is) = texts_in is

abbrev list_in : Tree → List (List ℕ)
list_in nothing = []
list_in (truth b) = []
list_in (number n) = []
list_in (text t) = []
list_in (list is) = texts_in is
list_in (fields ms) = []
list_in (named t is ms) = []

abbrev groups_under : Members → List Group
groups_under no_members = []
groups_under (member name tree ms) = (name, list_in tree) ∷ groups_under ms

abbrev tree_of : List (List ℕ) → Tree
tree_of values = list (texts values)

same_texts : (values : List (List ℕ)) → texts_in (texts values) ≡ values
same_texts [] = refl
same_texts (value ∷ values) = ap (λ vs. value ∷ vs) (same_texts values)

abbrev Entry : Type 0
Entry = String Global × Vec (List ℕ) Global

abbrev values_at : Vec (List ℕ) Global → List (List ℕ)
values_at values = values.items

-- an entry with its values as a list
abbrev seen : Entry → String Global × List (List ℕ)
seen entry = (entry.0, values_at entry.1)

entry_groups
    : (entries : List Entry)
    → groups_under (members_of (map (entry_tree string_bytes tree_of) (map seen entries))) ≡ groups_in entries
entry_groups [] = refl
entry_groups (entry ∷ entries) =
    ap
    (λ vs. (string_bytes entry.0, vs)
    ∷ groups_under (members_of (map (entry_tree string_bytes tree_of) (map seen entries))))
    (same_texts entry.1.items)
    ∙ ap (λ gs. group_of entry ∷ gs) (entry_groups entries)

same_keys : (entries : List Entry) → keys_of (map seen entries) ≡ keys_of entries
same_keys [] = refl
same_keys (entry ∷ entries) = ap (λ ks. entry.0 ∷ ks) (same_keys entries)

-- what a map has under a name
abbrev held : List ℕ → List Entry → Option (Vec (List ℕ) Global)
held name entries = lookup (is_at (λ k. slice_cmp nat_cmp name (string_bytes k))) entries

seen_found
    : (name : List ℕ) (entries : List Entry)
    → found string_bytes tree_of name (map seen entries) ≡ option_map values_at (held name entries)
seen_found name [] = refl
seen_found name (entry ∷ entries) =
    by (is_at (λ k. slice_cmp nat_cmp name (string_bytes k)) entry.0) (seen_found name entries)
  where
    by
        : (b : Bool) → found string_bytes tree_of name (map seen entries) ≡ option_map values_at (held name entries)
        → cond b (Some (values_at entry.1)) (found string_bytes tree_of name (map seen entries))
        ≡ option_map values_at (cond b (Some entry.1) (held name entries))
    by true later = refl
    by false later = later

values_of_seen
    : (values : Option (Vec (List ℕ) Global))
    → unwrap_or (option_map values_at values) [] ≡ option_map_or values_at values []
values_of_seen None = refl
values_of_seen (Some values) = refl

some_of_seen : (values : Option (Vec (List ℕ) Global)) → is_some (option_map values_at values) ≡ is_some values
some_of_seen None = refl
some_of_seen (Some values) = refl

abbrev group_at : List (List ℕ × List ℕ) → List ℕ → Group
group_at pairs name = (name, values_of name pairs)

name_groups
    : (names : List (List ℕ)) (pairs : List (List ℕ × List ℕ))
    → groups_under (members_under tree_of names pairs) ≡ map (group_at pairs) names
name_groups [] pairs = refl
name_groups (name ∷ names) pairs =
    ap (λ vs. (name, vs) ∷ groups_under (members_under tree_of names pairs)) (same_texts (values_of name pairs))
    ∙ ap (λ gs. group_at pairs name ∷ gs) (name_groups names pairs)

-- a map in byte order that has the values of each name of the pairs, and no other name
pub groups_of_entries
    : (pairs : List (List ℕ × List ℕ)) (entries : List Entry) → IsStrictlySortedBy string_cmp (keys_of entries)
    → ((name : List ℕ) → option_map_or values_at (held name entries) [] ≡ values_of name pairs)
    → ((name : List ℕ) → is_some (held name entries) ≡ list_any (λ pair. bytes_eq name pair.0) pairs)
    → groups_in entries ≡ groups_of pairs
groups_of_entries pairs entries sorted each among =
    sym (entry_groups entries)
    ∙ ap groups_under (
    grouped_entries string_bytes tree_of pairs (map seen entries) (rw (same_keys entries) sorted)
    (λ name. ap (λ o. unwrap_or o []) (seen_found name entries) ∙ values_of_seen (held name entries) ∙ each name)
    (λ name. ap is_some (seen_found name entries) ∙ some_of_seen (held name entries) ∙ among name))
    ∙ name_groups (names_in pairs) pairs

-- ---- groups as members

pub with_values_of
    : (names : List (List ℕ)) (pairs : List (List ℕ × List ℕ)) (ms : json.Members)
    → with_groups (map (group_at pairs) names) ms ≡ with_values names pairs ms
with_values_of [] pairs ms = refl
with_values_of (name ∷ names) pairs ms =
    with_values_of names pairs (json.put name (json_of_texts (values_of name pairs)) ms)

-- ---- groups as values

pub values_of_entries
    : (states : States) (entries : List Entry)
    → map (λ e. group_json states (group_of e)) entries ≡ map (group_json states) (groups_in entries)
values_of_entries states [] = refl
values_of_entries states (e ∷ entries) =
    ap (λ ds. group_json states (group_of e) ∷ ds) (values_of_entries states entries)

pub values_of_names
    : (states : States) (names : List (List ℕ)) (pairs : List (List ℕ × List ℕ))
    → map (group_json states) (map (group_at pairs) names)
    ≡ map (λ name. json_of_scenario states name (values_of name pairs)) names
values_of_names states [] pairs = refl
values_of_names states (name ∷ names) pairs =
    ap (λ ds. json_of_scenario states name (values_of name pairs) ∷ ds) (values_of_names states names pairs)
