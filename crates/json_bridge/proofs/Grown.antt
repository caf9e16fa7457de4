-- Lists and objects that grow at their end, an item or a member at a time.
use Rattle.std.proofs.Common.{◌≡◌, ℕ, List, [], ◌∷◌, ◌++◌, Option, Some, None, option_map}
use Rattle.std.proofs.Common.{length, refl, sym, ap, ◌∙◌, arith}
use Rattle.data_tree.specs.declared.data.Data.{Data}
use Rattle.data_tree.specs.Tree.{Tree, Items, no_items, item, Members, no_members, member, view, items_view}
use Rattle.data_tree.specs.Tree.{members_view}
use Rattle.serde_json.specs.Data as value
use Rattle.serde_json.specs.View as seen
use Rattle.serde_json.specs.declared.value.Value.{Value}
use Rattle.json_bridge.specs.Reading.{tree_of_value, items_of, members_of}

-- the values found, and then what is left
abbrev pub items_before : List Data → Items → Items
items_before [] rest = rest
items_before (d ∷ ds) rest = item (view d) (items_before ds rest)

items_before-last : (found : List Data) (d : Data) (rest : Items)
    → items_before (found ++ d ∷ []) rest ≡ items_before found (item (view d) rest)
items_before-last [] d rest = refl
items_before-last (x ∷ found) d rest = ap (item (view x)) (items_before-last found d rest)

pub items_before-none : (found : List Data) → items_before found no_items ≡ items_view found
items_before-none [] = refl
items_before-none (d ∷ found) = ap (item (view d)) (items_before-none found)

pub one_more : (found : List Data) (d : Data) (o : Option Items)
    → option_map (items_before found) (option_map (item (view d)) o)
    ≡ option_map (items_before (found ++ d ∷ [])) o
one_more found d None = refl
one_more found d (Some rest) = ap Some (sym (items_before-last found d rest))

pub item_taken : (d : value.Data) (ds : value.Items) (t : Tree) → Some t ≡ tree_of_value d
    → items_of (value.item d ds) ≡ option_map (item t) (items_of ds)
item_taken d ds t e = rw (sym e) refl

pub item_refused : (d : value.Data) (ds : value.Items) → None ≡ tree_of_value d
    → items_of (value.item d ds) ≡ None
item_refused d ds e = rw (sym e) refl

-- the tree of what is found
pub found_tree
    : (o : Option Data) (d : Data) (t : Option Tree) → o ≡ Some d → option_map view o ≡ t
    → Some (view d) ≡ t
found_tree o d t is e = ap (option_map view) (sym is) ∙ e

-- an item that is read goes from what is left to the end of what is found
pub item_read
    : (found pushed : List Data) (d : Data) (x : value.Data) (xs : value.Items) → Some (view d) ≡ tree_of_value x
    → pushed ≡ found ++ d ∷ []
    → option_map (items_before found) (items_of (value.item x xs)) ≡ option_map (items_before pushed) (items_of xs)
item_read found pushed d x xs taken is =
    ap (option_map (items_before found)) (item_taken x xs (view d) taken) ∙ one_more found d (items_of xs)
    ∙ ap (λ ds. option_map (items_before ds) (items_of xs)) (sym is)

-- no item is left
pub no_item_left : (xs : List Value) → length xs ≡ 0 → items_of (seen.items_view xs) ≡ Some no_items
no_item_left [] none = refl
no_item_left (x ∷ xs) none = absurd (omega (arith, none))

-- ---- the same of members

abbrev pub Member : Type 0
Member = List ℕ × Data

abbrev pub members_before : List Member → Members → Members
members_before [] rest = rest
members_before (m ∷ ms) rest = member m.0 (view m.1) (members_before ms rest)

members_before-last : (found : List Member) (m : Member) (rest : Members)
    → members_before (found ++ m ∷ []) rest ≡ members_before found (member m.0 (view m.1) rest)
members_before-last [] m rest = refl
members_before-last (x ∷ found) m rest = ap (member x.0 (view x.1)) (members_before-last found m rest)

pub members_before-none : (found : List Member) → members_before found no_members ≡ members_view found
members_before-none [] = refl
members_before-none (m ∷ found) = ap (member m.0 (view m.1)) (members_before-none found)

pub one_more_member : (found : List Member) (m : Member) (o : Option Members)
    → option_map (members_before found) (option_map (member m.0 (view m.1)) o) ≡ option_map
    (members_before (found ++ m ∷ [])) o
one_more_member found m None = refl
one_more_member found m (Some rest) = ap Some (sym (members_before-last found m rest))

pub member_taken : (k : List ℕ) (d : value.Data) (ms : value.Members) (t : Tree) → Some t ≡ tree_of_value d
    → members_of (value.member k d ms) ≡ option_map (member k t) (members_of ms)
member_taken k d ms t e = rw (sym e) refl

pub member_refused : (k : List ℕ) (d : value.Data) (ms : value.Members) → None ≡ tree_of_value d
    → members_of (value.member k d ms) ≡ None
member_refused k d ms e = rw (sym e) refl

pub member_read
    : (found pushed : List Member) (m : Member) (k : List ℕ) (x : value.Data) (xs : value.Members)
    → Some (view m.1) ≡ tree_of_value x → k ≡ m.0 → pushed ≡ found ++ m ∷ []
    → option_map (members_before found) (members_of (value.member k x xs))
    ≡ option_map (members_before pushed) (members_of xs)
member_read found pushed m k x xs taken named is =
    ap (option_map (members_before found)) (member_taken k x xs (view m.1) taken)
    ∙ ap (λ j. option_map (members_before found) (option_map (member j (view m.1)) (members_of xs))) named
    ∙ one_more_member found m (members_of xs)
    ∙ ap (λ ms. option_map (members_before ms) (members_of xs)) (sym is)
