-- Fields whose values are all values of a name.
use Rattle.std.specs.Prelude.{◌≡◌, ◌<◌, ℕ, List, [], ◌∷◌, map, length}
use Rattle.std.specs.declared.alloc.Global.{Global}
use Rattle.std.specs.declared.vec.Vec.{Vec}
use Rattle.data_tree.specs.declared.data.Data.{Data, Values}
use Rattle.data_tree.specs.Tree.{Tree, named, Items, no_items, item, view}
use Rattle.request_data.specs.Inner.Runs.{Run}
use Rattle.request_data.specs.Inner.Values.{text_in, values_in, AreTexts}

-- the texts that items are
abbrev pub texts_in : Items → List (List ℕ)
texts_in no_items = []
texts_in (item t ts) = text_in t ∷ texts_in ts

abbrev pub items_in : Tree → List (List ℕ)
items_in (named s items ms) = texts_in items
items_in t = []

abbrev pub run_in : List ℕ × Data → Run
run_in field = (field.0, items_in (view field.1))

abbrev pub runs_in : List (List ℕ × Data) → List Run
runs_in fields = map run_in fields

-- it holds these values and nothing else
pub record HoldsValues (value : Data) (values : List (List ℕ)) : Type 0 where
  pub items : Vec Data Global
  pub is : value ≡ Values items
  pub texts : AreTexts items.items
  pub same : values_in items.items ≡ values

-- it has a value, and holds its values
pub record IsRunField (field : List ℕ × Data) : Type 0 where
  pub some : 0 < length (run_in field).1
  pub holds : HoldsValues field.1 (run_in field).1
