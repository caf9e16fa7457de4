-- How long the JSON text of grouped names and values is at most: each pair counts once, since names are distinct.
use Rattle.std.proofs.Common.{◌≡◌, ℕ, ◌+◌, ◌*◌, ◌≤◌, Bool, true, false, List, [], ◌∷◌}
use Rattle.std.proofs.Common.{length, Ordering, sym, refl, ap, ◌∙◌, arith}
use Rattle.std.specs.List.{sum_by, AllByRecursion}
use Rattle.std.specs.List.Sorted.{IsStrictlySortedBy}
use Rattle.std.specs.Ordering.{is_eq, match_ordering}
use Rattle.std.specs.declared.cmp.Ordering.TheVariants.{Less, Equal, Greater}
use Rattle.std.specs.Str.{bytes_eq}
use Rattle.std.proofs.lemmas.Bool.{false≢true, false_from_ne_true}
use Rattle.std.proofs.lemmas.List.Sums.{sum_by-cons}
use Rattle.std.proofs.lemmas.Map.Text.{is_eq-slice_cmp}
use Rattle.std.proofs.lemmas.Slice.Eq.{bytes_eq-Decides}
use Rattle.data_tree.specs.Tree.{Tree, no_members}
use Rattle.data_tree.specs.Json.{json, members_json}
use Rattle.data_tree.proofs.Sizes.{length_named, length_fields}
use Rattle.mock_request.specs.Values.{values_of, first_of}
use Rattle.request_data.specs.Grouped.{texts, with_name, names_in, members_under, values_tree, grouped, first_text}
use Rattle.request_data.specs.Grouped.{firsts}
use Rattle.request_data.proofs.GroupLemmas.{byte_order, sorted_names}
use Rattle.request_data.proofs.TextBounds.{quoted_most, texts_most, text_cost, first_member, member_most}

-- what a name takes with what surrounds its values, what a value takes, and both
abbrev pub name_cost : List ℕ → ℕ
name_cost name = 6 * length name + 38

abbrev pub value_cost : List ℕ → ℕ
value_cost value = 12 * length value + 3

abbrev pub pair_cost : List ℕ × List ℕ → ℕ
pair_cost pair = 6 * length pair.0 + 12 * length pair.1 + 41

-- ---- one name's values

first_and_all : (values : List (List ℕ))
    → 6 * length (first_of values) + sum_by text_cost values ≤ sum_by value_cost values
first_and_all [] = omega arith
first_and_all (v ∷ values) =
    omega (arith, sum_by-cons text_cost v values, sum_by-cons value_cost v values, texts_below values)
  where
    texts_below : (vs : List (List ℕ)) → sum_by text_cost vs ≤ sum_by value_cost vs
    texts_below [] = omega arith
    texts_below (w ∷ ws) = omega (arith, sum_by-cons text_cost w ws, sum_by-cons value_cost w ws, texts_below ws)

pub values_most : (values : List (List ℕ)) → length (json (values_tree values)) ≤ 34 + sum_by value_cost values
values_most values =
    omega (
      arith,
      length_named (first_of values) (texts values) no_members,
      quoted_most (first_of values),
      texts_most false values,
      first_and_all values,
    )

pub first_most : (values : List (List ℕ)) → length (json (first_text values)) ≤ 34 + sum_by value_cost values
first_most values = omega (arith, quoted_most (first_of values), first_and_all values)

-- ---- sums over the names

sum_with_name
    : (f : List ℕ → ℕ) (name : List ℕ) (names : List (List ℕ))
    → sum_by f (with_name name names) ≤ f name + sum_by f names
sum_with_name f name [] = omega (arith, sum_by-cons f name [])
sum_with_name f name (n ∷ names) = by (byte_order name n) (sum_with_name f name names)
  where
    by
        : (o : Ordering) → sum_by f (with_name name names) ≤ f name + sum_by f names
        → sum_by f (match_ordering o (name ∷ n ∷ names) (n ∷ names) (n ∷ with_name name names))
        ≤ f name + sum_by f (n ∷ names)
    by Less later = omega (arith, sum_by-cons f name (n ∷ names))
    by Equal later = omega arith
    by Greater later = omega (arith, sum_by-cons f n (with_name name names), sum_by-cons f n names)

-- the names each count at most as often as there are pairs of them
names_most
    : (pairs : List (List ℕ × List ℕ))
    → sum_by name_cost (names_in pairs) ≤ sum_by (λ pair. name_cost pair.0) pairs
names_most [] = omega arith
names_most (pair ∷ pairs) =
    omega (
      arith,
      sum_with_name name_cost pair.0 (names_in pairs),
      sum_by-cons (λ (p : List ℕ × List ℕ). name_cost p.0) pair pairs,
      names_most pairs,
    )

-- the values of names
abbrev values_cost : List (List ℕ) → List (List ℕ × List ℕ) → ℕ
values_cost names pairs = sum_by (λ name. sum_by value_cost (values_of name pairs)) names

cost_cons : (name : List ℕ) (names : List (List ℕ)) (pairs : List (List ℕ × List ℕ))
    → values_cost (name ∷ names) pairs ≡ sum_by value_cost (values_of name pairs) + values_cost names pairs
cost_cons name names pairs = sum_by-cons (λ n. sum_by value_cost (values_of n pairs)) name names

value_of_name
    : (name : List ℕ) (pair : List ℕ × List ℕ) (pairs : List (List ℕ × List ℕ))
    → bytes_eq name pair.0 ≡ true
    → sum_by value_cost (values_of name (pair ∷ pairs))
    ≡ value_cost pair.1 + sum_by value_cost (values_of name pairs)
value_of_name name pair pairs named = rw named (sum_by-cons value_cost pair.1 (values_of name pairs))

value_of_other
    : (name : List ℕ) (pair : List ℕ × List ℕ) (pairs : List (List ℕ × List ℕ))
    → bytes_eq name pair.0 ≡ false
    → sum_by value_cost (values_of name (pair ∷ pairs)) ≡ sum_by value_cost (values_of name pairs)
value_of_other name pair pairs other = rw other refl

-- names above one are other names
above_is_other : (x y : List ℕ) → byte_order x y ≡ Less → bytes_eq y x ≡ false
above_is_other x y less =
    let apart : bytes_eq x y ≡ false = sym (is_eq-slice_cmp x y) ∙ ap is_eq less in
    false_from_ne_true _
    (λ e. false≢true (sym apart ∙ (bytes_eq-Decides x y).1 (sym ((bytes_eq-Decides y x).0 e))))

no_more_values
    : (pair : List ℕ × List ℕ) (pairs : List (List ℕ × List ℕ)) (names : List (List ℕ))
    → AllByRecursion (λ n. byte_order pair.0 n ≡ Less) names
    → values_cost names (pair ∷ pairs) ≡ values_cost names pairs
no_more_values pair pairs [] above = refl
no_more_values pair pairs (name ∷ names) above =
    omega (
      arith,
      cost_cons name names (pair ∷ pairs),
      cost_cons name names pairs,
      value_of_other name pair pairs (above_is_other pair.0 name above.0),
      no_more_values pair pairs names above.1,
    )

one_more_value
    : (pair : List ℕ × List ℕ) (pairs : List (List ℕ × List ℕ)) (names : List (List ℕ))
    → IsStrictlySortedBy byte_order names
    → values_cost names (pair ∷ pairs) ≤ value_cost pair.1 + values_cost names pairs
unfolding IsStrictlySortedBy
one_more_value pair pairs [] sorted = omega arith
one_more_value pair pairs (name ∷ names) sorted =
    by (bytes_eq name pair.0) refl (one_more_value pair pairs names sorted.1)
  where
    here : bytes_eq name pair.0 ≡ true → AllByRecursion (λ n. byte_order pair.0 n ≡ Less) names
    here e = rw ((bytes_eq-Decides name pair.0).0 e) at sorted.0

    by
        : (b : Bool) → bytes_eq name pair.0 ≡ b
        → values_cost names (pair ∷ pairs) ≤ value_cost pair.1 + values_cost names pairs
        → values_cost (name ∷ names) (pair ∷ pairs) ≤ value_cost pair.1 + values_cost (name ∷ names) pairs
    by true e later =
        omega (
          arith,
          cost_cons name names (pair ∷ pairs),
          cost_cons name names pairs,
          value_of_name name pair pairs e,
          no_more_values pair pairs names (here e),
        )
    by false e later =
        omega (
          arith,
          cost_cons name names (pair ∷ pairs),
          cost_cons name names pairs,
          value_of_other name pair pairs e,
        )

no_values : (names : List (List ℕ)) → values_cost names [] ≡ 0
no_values [] = refl
no_values (name ∷ names) = omega (arith, cost_cons name names [], no_values names)

values_sum
    : (names : List (List ℕ)) → IsStrictlySortedBy byte_order names → (pairs : List (List ℕ × List ℕ))
    → values_cost names pairs ≤ sum_by (λ pair. value_cost pair.1) pairs
values_sum names sorted [] = omega (arith, no_values names)
values_sum names sorted (pair ∷ pairs) =
    omega (
      arith,
      one_more_value pair pairs names sorted,
      sum_by-cons (λ (p : List ℕ × List ℕ). value_cost p.1) pair pairs,
      values_sum names sorted pairs,
    )

-- ---- members

pairs_sum
    : (pairs : List (List ℕ × List ℕ))
    → sum_by (λ pair. name_cost pair.0) pairs + sum_by (λ pair. value_cost pair.1) pairs ≡ sum_by pair_cost pairs
pairs_sum [] = refl
pairs_sum (pair ∷ pairs) =
    omega (
      arith,
      sum_by-cons (λ (p : List ℕ × List ℕ). name_cost p.0) pair pairs,
      sum_by-cons (λ (p : List ℕ × List ℕ). value_cost p.1) pair pairs,
      sum_by-cons pair_cost pair pairs,
      pairs_sum pairs,
    )

module _ (tree_of : List (List ℕ) → Tree)
    (each : (values : List (List ℕ)) → length (json (tree_of values)) ≤ 34 + sum_by value_cost values) where
  under_most
      : (names : List (List ℕ)) (pairs : List (List ℕ × List ℕ))
      → length (members_json true (members_under tree_of names pairs))
      ≤ sum_by name_cost names + values_cost names pairs
  under_most [] pairs = omega arith
  under_most (name ∷ names) pairs =
      omega (
        arith,
        member_most name (tree_of (values_of name pairs)) (members_under tree_of names pairs),
        each (values_of name pairs),
        under_most names pairs,
        sum_by-cons name_cost name names,
        cost_cons name names pairs,
      )

  pub members_most
      : (pairs : List (List ℕ × List ℕ))
      → length (members_json true (members_under tree_of (names_in pairs) pairs)) ≤ sum_by pair_cost pairs
  members_most pairs =
      omega (
        arith,
        under_most (names_in pairs) pairs,
        names_most pairs,
        values_sum (names_in pairs) (sorted_names pairs) pairs,
        pairs_sum pairs,
      )

pub grouped_most : (pairs : List (List ℕ × List ℕ))
    → length (json (grouped pairs)) ≤ 2 + sum_by pair_cost pairs
grouped_most pairs =
    omega (
      arith,
      length_fields (members_under values_tree (names_in pairs) pairs),
      first_member (members_under values_tree (names_in pairs) pairs),
      members_most values_tree values_most pairs,
    )

pub firsts_most : (pairs : List (List ℕ × List ℕ))
    → length (members_json true (firsts pairs)) ≤ sum_by pair_cost pairs
firsts_most = members_most first_text first_most
