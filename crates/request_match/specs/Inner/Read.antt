-- For private clauses: the JSON of a body as it is kept.
use Rattle.std.specs.Prelude.{◌≡◌, ℕ, List, Option, IfSome, option_map}
use Rattle.std.specs.Str.Lossy.{utf8_lossy}
use Rattle.data_tree.specs.Tree.{view}
use Rattle.data_tree.specs.WellFormed.{IsWellFormed}
use Rattle.data_tree.specs.declared.data.Data.{Data}
use Rattle.json_bridge.specs.Reading.{tree_of_text}

-- the value of the body's text, or none where that isn't JSON
pub record IsReadOf (body : List ℕ) (found : Option Data) : Type 0 where
  pub tree : option_map view found ≡ tree_of_text (utf8_lossy body)
  pub formed : IfSome found (λ d. IsWellFormed (view d))
