-- The tree of a `Data`: texts, numbers, truths, lists and objects.
use Rattle.std.specs.Prelude.{ℕ, ℤ, Bool, List, [], ◌∷◌, map}
use Rattle.data_tree.specs.declared.data.Data.{Data, fold-Data}
use Rattle.data_tree.specs.declared.data.Data.TheOpen.{Data-F}

-- texts and names are their bytes
mutual
  pub data Tree : Type 0 where
    nothing : Tree
    truth : Bool → Tree
    number : ℤ → Tree
    text : List ℕ → Tree
    list : Items → Tree
    fields : Members → Tree
    named : List ℕ → Items → Members → Tree

  pub data Items : Type 0 where
    no_items : Items
    item : Tree → Items → Items

  -- names, each with its value
  pub data Members : Type 0 where
    no_members : Members
    member : List ℕ → Tree → Members → Members

abbrev pub items_of : List Tree → Items
items_of [] = no_items
items_of (t ∷ ts) = item t (items_of ts)

abbrev pub members_of : List (List ℕ × Tree) → Members
members_of [] = no_members
members_of (m ∷ ms) = member m.0 m.1 (members_of ms)

-- the text of the first item, where there is one and it is a text
abbrev pub first_text : Items → List ℕ
first_text (item (text s) ts) = s
first_text ts = []

-- one level, with each value inside already seen as its tree
abbrev pub view_step : Data-F Tree → Tree
view_step Data-F.Nothing = nothing
view_step (Data-F.Truth b) = truth b
view_step (Data-F.Number n) = number n
view_step (Data-F.Text s) = text s
view_step (Data-F.List v) = list (items_of v.items)
view_step (Data-F.Fields v) = fields (members_of v.items)
view_step (Data-F.Named parts) =
    named parts.value.0 (items_of parts.value.1.items) (members_of parts.value.2.items)
view_step (Data-F.Values v) = named (first_text (items_of v.items)) (items_of v.items) no_members

-- the tree of a value
abbrev pub view : Data → Tree
view = fold-Data Tree view_step

abbrev pub items_view : List Data → Items
items_view ds = items_of (map view ds)

abbrev pub members_view : List (List ℕ × Data) → Members
members_view ms = members_of (map (λ m. (m.0, view m.1)) ms)
