-- What is needed of the parts of the data that no names of the body's data tell.
use Rattle.std.specs.Prelude.{ℕ, IsTrue, List}
use Rattle.needed_data.specs.Needed.{NeededData, is_json_needed, is_needed}

-- what is needed by the second is needed by the first, but for single fields of the body's data
pub record IncludesParts (more less : NeededData) : Type 0 where
  pub everything : IsTrue less.everything → IsTrue more.everything
  pub json : IsTrue (is_json_needed less) → IsTrue (is_json_needed more)
  pub fields : (name : List ℕ) → IsTrue (is_needed less name) → IsTrue (is_needed more name)
