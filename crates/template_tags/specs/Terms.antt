-- What a tag's parentheses group (Handlebars' subexpressions).
use Rattle.std.specs.Prelude.{ℕ, suc, max, Bool, true, false, List, [], ◌∷◌, Option, Some, None, is_some, unwrap_or}
use Rattle.template_tags.specs.Items.{Item, word, left_parenthesis, right_parenthesis}

-- a word, or what is between a `(` and its `)`
mutual
  pub data Term : Type 0 where
    single : List ℕ → Term
    group : Terms → Term

  pub data Terms : Type 0 where
    no_terms : Terms
    first_term : Term → Terms → Terms

-- what some items, up to the last of a tag, group: the terms up to the first `)` whose `(` is before these items, then
-- those up to the next such `)`, and so on. There are none where a `(` has no `)`
abbrev pub grouped_before : Item → Option (List Terms) → Option (List Terms)
grouped_before (word text) (Some (terms ∷ later)) = Some (first_term (single text) terms ∷ later)
grouped_before right_parenthesis (Some later) = Some (no_terms ∷ later)
grouped_before left_parenthesis (Some (terms ∷ outer ∷ later)) = Some (first_term (group terms) outer ∷ later)
grouped_before item later = None

abbrev pub grouped : List Item → Option (List Terms)
grouped [] = Some (no_terms ∷ [])
grouped (item ∷ items) = grouped_before item (grouped items)

abbrev pub only_list : Option (List Terms) → Option Terms
only_list (Some (terms ∷ [])) = Some terms
only_list found = None

-- the terms of items, where each parenthesis has its other one
abbrev pub terms_of : List Item → Option Terms
terms_of items = only_list (grouped items)

-- the words among items
abbrev pub words_of : List Item → Terms
words_of [] = no_terms
words_of (word text ∷ items) = first_term (single text) (words_of items)
words_of (left_parenthesis ∷ items) = words_of items
words_of (right_parenthesis ∷ items) = words_of items

-- the terms of items. Where their parentheses don't match, these only separate words
abbrev pub terms_in : List Item → Terms
terms_in items = unwrap_or (terms_of items) (words_of items)

abbrev pub has_term : Terms → Bool
has_term no_terms = false
has_term (first_term term terms) = true

-- each parenthesis has its other one
abbrev pub is_matched : List Item → Bool
is_matched items = is_some (terms_of items)

-- how deep groups nest
abbrev mutual
  pub height : Term → ℕ
  height (single text) = 0
  height (group terms) = suc (greatest_height terms)

  pub greatest_height : Terms → ℕ
  greatest_height no_terms = 0
  greatest_height (first_term term terms) = max (height term) (greatest_height terms)

-- the items that the terms are, before others
abbrev mutual
  pub flat_term : Term → List Item → List Item
  flat_term (single text) items = word text ∷ items
  flat_term (group terms) items = left_parenthesis ∷ flat terms (right_parenthesis ∷ items)

  pub flat : Terms → List Item → List Item
  flat no_terms items = items
  flat (first_term term terms) items = flat_term term (flat terms items)
