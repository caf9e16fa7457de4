-- When a JSON value meets a JSON matcher (WireMock, "Request Matching", on JSON equality and on JSON paths). How lists
-- compare under the two flags is this product's own.
use Rattle.std.specs.Prelude.{ℕ, Bool, true, false, ◌==◌, ◌&&◌, ◌||◌, IsTrue, IsSomeAnd, List, length}
use Rattle.std.specs.Prelude.{Option, Some, None, is_some, option_map, if◌then◌else◌}
use Rattle.std.specs.List.{list_all}
use Rattle.std.specs.Option.{option_map_or}
use Rattle.std.specs.Ordering.{int_eq}
use Rattle.std.specs.Str.{bytes_eq}
use Rattle.data_tree.specs.LookUp.{at}
use Rattle.data_tree.specs.Parts.{trees_of, names_of}
use Rattle.data_tree.specs.Tree.{Tree, nothing, truth, number, text, list, fields, Items, no_items, item, Members}
use Rattle.data_tree.specs.Tree.{no_members, member}
use Rattle.data_tree.specs.declared.step.Step.{Step}
use Rattle.json_bridge.specs.Path.{SpellsPath}
use Rattle.json_bridge.specs.Reading.{tree_of_text}
use Rattle.json_match.specs.declared.compare.Flags.{Flags}
use Rattle.json_match.specs.declared.json_spec.JsonSpec.{JsonSpec}
use Rattle.json_match.specs.declared.json_spec.JsonSpec.TheVariants.{EqualTo, Path}

-- the items without the first that passes the test, if one does
abbrev pub without_first : (Tree → Bool) → Items → Option Items
without_first passes no_items = None
without_first passes (item t ts) = if passes t then Some ts else option_map (item t) (without_first passes ts)

-- the value of that name, if there is one
abbrev pub value_of : List ℕ → Members → Option Tree
value_of name no_members = None
value_of name (member k t ms) = if bytes_eq k name then Some t else value_of name ms

abbrev pub truth_eq : Bool → Bool → Bool
truth_eq true b = b
truth_eq false true = false
truth_eq false false = true

-- each of the names is a member's
abbrev pub has_names : List (List ℕ) → Members → Bool
has_names names ms = list_all (λ name. is_some (value_of name ms)) names

abbrev pub have_one_length : Items → Items → Bool
have_one_length es ts = length (trees_of es) == length (trees_of ts)

-- the expected tree, then the actual one
abbrev mutual
  pub is_equal : Flags → Tree → Tree → Bool
  is_equal f nothing nothing = true
  is_equal f (truth b) (truth c) = truth_eq b c
  is_equal f (number n) (number m) = int_eq n m
  is_equal f (text s) (text t) = bytes_eq s t
  -- in any order, the same number of items, or more actual ones
  is_equal f (list es) (list ts) =
      if f.ignore_array_order
      then (f.ignore_extra_elements || have_one_length es ts) && each_takes_one f es ts
      else are_equal f es ts
  -- the same names, or more in the actual object
  is_equal f (fields es) (fields ms) =
      have_equal f es ms && (f.ignore_extra_elements || has_names (names_of ms) es)
  is_equal f e t = false

  -- item by item
  pub are_equal : Flags → Items → Items → Bool
  are_equal f no_items no_items = true
  are_equal f (item e es) (item t ts) = is_equal f e t && are_equal f es ts
  are_equal f es ts = false

  -- each expected item takes the first equal one of those that are left, and none goes back
  pub each_takes_one : Flags → Items → Items → Bool
  each_takes_one f no_items left = true
  each_takes_one f (item e es) left = option_map_or (each_takes_one f es) (without_first (is_equal f e) left) false

  -- each expected member's value is equal to the actual one of its name
  pub have_equal : Flags → Members → Members → Bool
  have_equal f no_members ms = true
  have_equal f (member k e es) ms = option_map_or (is_equal f e) (value_of k ms) false && have_equal f es ms

-- something is there: neither nothing nor an empty list or object
abbrev pub is_something : Tree → Bool
is_something nothing = false
is_something (list no_items) = false
is_something (fields no_members) = false
is_something t = true

-- the value meets the matcher
abbrev pub Matches : JsonSpec → Tree → Type 0
Matches (EqualTo expected any_order more) actual =
    IsSomeAnd (tree_of_text expected) (λ e.
    IsTrue (is_equal (record { ignore_array_order = any_order; ignore_extra_elements = more }) e actual))
Matches (Path path) actual = (steps : List Step) × SpellsPath path steps × IsTrue (is_something (at steps actual))
