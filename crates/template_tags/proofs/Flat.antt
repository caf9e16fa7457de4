-- Terms and their items.
use Rattle.std.proofs.Common.{◌≡◌, List, [], ◌∷◌, Option, Some, None, ◌↔◌, refl, sym, ap, subst, ◌∙◌}
use Rattle.std.proofs.lemmas.Option.{none-some, same_Some}
use Rattle.template_tags.specs.Items.{Item, word, left_parenthesis, right_parenthesis}
use Rattle.template_tags.specs.Terms.{Term, single, group, Terms, no_terms, first_term, grouped_before, grouped}
use Rattle.template_tags.specs.Terms.{only_list, terms_of, flat_term, flat}

-- ---- the items of what is grouped

abbrev flat_later : List Terms → List Item
flat_later [] = []
flat_later (ts ∷ later) = right_parenthesis ∷ flat ts (flat_later later)

-- what is grouped has these items
abbrev IsBack : List Item → Option (List Terms) → Type 0
IsBack items None = Unit {0}
IsBack items (Some []) = ⊥
IsBack items (Some (ts ∷ later)) = flat ts (flat_later later) ≡ items

back_before : (item : Item) (items : List Item) (found : Option (List Terms)) → IsBack items found
    → IsBack (item ∷ items) (grouped_before item found)
back_before (word text) items None back = tt
back_before (word text) items (Some []) back = absurd back
back_before (word text) items (Some (ts ∷ later)) back = ap (λ xs. word text ∷ xs) back
back_before right_parenthesis items None back = tt
back_before right_parenthesis items (Some []) back = absurd back
back_before right_parenthesis items (Some (ts ∷ later)) back = ap (λ xs. right_parenthesis ∷ xs) back
back_before left_parenthesis items None back = tt
back_before left_parenthesis items (Some []) back = absurd back
back_before left_parenthesis items (Some (ts ∷ [])) back = tt
back_before left_parenthesis items (Some (ts ∷ outer ∷ later)) back = ap (λ xs. left_parenthesis ∷ xs) back

is_back : (items : List Item) → IsBack items (grouped items)
is_back [] = refl
is_back (item ∷ items) = back_before item items (grouped items) (is_back items)

only_back : (items : List Item) (found : Option (List Terms)) (ts : Terms) → IsBack items found
    → only_list found ≡ Some ts → flat ts [] ≡ items
only_back items None ts back e = absurd (none-some ts e)
only_back items (Some []) ts back e = absurd back
only_back items (Some (us ∷ [])) ts back e = subst (λ t. flat t [] ≡ items) (same_Some us ts e) back
only_back items (Some (us ∷ more ∷ later)) ts back e = absurd (none-some ts e)

-- ---- what the items of terms group

abbrev onto : Terms → Terms → Terms
onto no_terms us = us
onto (first_term t ts) us = first_term t (onto ts us)

onto_none : (ts : Terms) → onto ts no_terms ≡ ts
onto_none no_terms = refl
onto_none (first_term t ts) = ap (first_term t) (onto_none ts)

mutual
  term_grouped : (t : Term) (items : List Item) (us : Terms) (later : List Terms)
      → grouped items ≡ Some (us ∷ later) → grouped (flat_term t items) ≡ Some (first_term t us ∷ later)
  term_grouped (single text) items us later e = ap (grouped_before (word text)) e
  term_grouped (group ts) items us later e =
      ap (grouped_before left_parenthesis)
      (terms_grouped ts (right_parenthesis ∷ items) no_terms (us ∷ later) (ap (grouped_before right_parenthesis) e))
      ∙ ap (λ g. Some (first_term (group g) us ∷ later)) (onto_none ts)

  terms_grouped : (ts : Terms) (items : List Item) (us : Terms) (later : List Terms)
      → grouped items ≡ Some (us ∷ later) → grouped (flat ts items) ≡ Some (onto ts us ∷ later)
  terms_grouped no_terms items us later e = e
  terms_grouped (first_term t ts) items us later e =
      term_grouped t (flat ts items) (onto ts us) later (terms_grouped ts items us later e)

flat_terms : (ts : Terms) → terms_of (flat ts []) ≡ Some ts
flat_terms ts = ap only_list (terms_grouped ts [] no_terms [] refl) ∙ ap Some (onto_none ts)

pub terms_are_items : (items : List Item) (ts : Terms) → (terms_of items ≡ Some ts) ↔ (flat ts [] ≡ items)
terms_are_items items ts = (only_back items (grouped items) ts (is_back items), λ e. sym (ap terms_of e) ∙ flat_terms ts)
