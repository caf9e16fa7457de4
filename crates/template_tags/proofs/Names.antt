-- Names of items in an `each`.
use Rattle.std.proofs.Common.{◌≡◌, ℕ, ◌-◌, ◌<◌, ◌≤◌, ◌==◌, false, ◌&&◌, List, [], ◌∷◌, ◌++◌, length, take, drop, get_or}
use Rattle.std.proofs.Common.{map, Option, Some, None, refl, sym, ap, ◌∙◌, arith}
use Rattle.std.proofs.lemmas.Bool.{false≢true}
use Rattle.std.proofs.lemmas.List.{map-append}
use Rattle.template_words.specs.Paths.{is_name}
use Rattle.template_tags.proofs.Fronts.{first_split, last_two_split}
use Rattle.template_tags.specs.Blocks.{LoopItems, parameter_in, last_two, loop_item, loop_items, are_last_names}
use Rattle.template_tags.specs.Inner.Scan.{item_view, item_is, with_items}
use Rattle.template_tags.specs.Items.{Item, word, left_parenthesis, right_parenthesis}
use Rattle.template_tags.specs.declared.items.Item as declared

-- ---- several names

names_step : (item : Item) (rest : List Item) → false ≡ (length rest == 0)
    → are_last_names (item ∷ rest) ≡ (item_is is_name item && are_last_names rest)
names_step item [] some = absurd (false≢true some)
names_step (word w) (next ∷ rest) some = refl
names_step left_parenthesis (next ∷ rest) some = refl
names_step right_parenthesis (next ∷ rest) some = refl

length-view : (items : List declared.Item) → length (map item_view items) ≡ length items
length-view [] = refl
length-view (item ∷ items) = omega (arith, length-view items)

pub names_more : (items : List declared.Item) (item : declared.Item) → 1 ≤ length items
    → item ≡ get_or items 0 item → false ≡ (length (take (length items - 1) (drop 1 items)) == 0)
    → are_last_names (map item_view items)
    ≡ (item_is is_name (item_view item) && are_last_names (map item_view (take (length items - 1) (drop 1 items))))
names_more items item some is more =
    let rest = take (length items - 1) (drop 1 items) in
    ap (λ xs. are_last_names (map item_view xs)) (first_split items item some is)
    ∙ names_step (item_view item) (map item_view rest) (more ∙ ap (λ n. n == 0) (sym (length-view rest)))

-- ---- the name at the end

abbrev pub loop_end : List Item → Item → Item → Option (List ℕ) → LoopItems
loop_end items a b None = with_items (items ++ a ∷ b ∷ []) None
loop_end items a b (Some name) = with_items items (Some name)

end_of_two : (a b : Item) (o : Option (List ℕ)) → last_two a b o ≡ loop_end [] a b o
end_of_two a b None = refl
end_of_two a b (Some name) = refl

end_onward : (item : Item) (items : List Item) (a b : Item) (o : Option (List ℕ))
    → loop_item item (loop_end items a b o) ≡ loop_end (item ∷ items) a b o
end_onward item items a b None = refl
end_onward item items a b (Some name) = refl

pub loop_items_end : (items : List Item) (a b : Item)
    → loop_items (items ++ a ∷ b ∷ []) ≡ loop_end items a b (parameter_in a b)
loop_items_end [] a b = end_of_two a b (parameter_in a b)
loop_items_end (x ∷ []) a b =
    ap (loop_item x) (loop_items_end [] a b) ∙ end_onward x [] a b (parameter_in a b)
loop_items_end (x ∷ y ∷ []) a b =
    ap (loop_item x) (loop_items_end (y ∷ []) a b) ∙ end_onward x (y ∷ []) a b (parameter_in a b)
loop_items_end (x ∷ y ∷ z ∷ items) a b =
    ap (loop_item x) (loop_items_end (y ∷ z ∷ items) a b)
    ∙ end_onward x (y ∷ z ∷ items) a b (parameter_in a b)

pub last_two_view : (items : List declared.Item) (a b : declared.Item) → 2 ≤ length items
    → a ≡ get_or items (length items - 2) a → b ≡ get_or items (length items - 1) b
    → map item_view items ≡ map item_view (take (length items - 2) items) ++ item_view a ∷ item_view b ∷ []
last_two_view items a b some first second =
    ap (map item_view) (last_two_split items a b some first second)
    ∙ map-append item_view (take (length items - 2) items) (a ∷ b ∷ [])

pub few_items : (items : List declared.Item) → length items < 2
    → with_items (map item_view items) None ≡ loop_items (map item_view items)
few_items [] few = refl
few_items (a ∷ []) few = refl
few_items (a ∷ b ∷ items) few = absurd (omega (arith, few))
