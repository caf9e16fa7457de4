-- For private clauses: the comparison as the code makes it, which goes once over the members of two objects. On well
-- formed trees it is `is_equal`.
use Rattle.std.specs.Prelude.{ℕ, Bool, true, false, ◌&&◌, ◌||◌, List, Option, Some, None, option_map}
use Rattle.std.specs.Prelude.{if◌then◌else◌}
use denote.Ref.{Bor}
use Rattle.std.specs.Option.{option_map_or}
use Rattle.std.specs.Ordering.{int_eq}
use Rattle.std.specs.Str.{bytes_eq}
use Rattle.data_tree.specs.Tree as tree
use Rattle.data_tree.specs.Tree.{Tree, nothing, truth, number, text, list, fields, Items, no_items, item, Members}
use Rattle.data_tree.specs.Tree.{no_members, member}
use Rattle.data_tree.specs.declared.data.Data.{Data}
use Rattle.json_match.specs.declared.compare.Flags.{Flags}
use Rattle.json_match.specs.Matching.{without_first, truth_eq, have_one_length}

-- the member of that name, which is the first unless others may be before it, and those after it
abbrev pub member_at : Bool → List ℕ → Members → Option (Tree × Members)
member_at more name no_members = None
member_at more name (member k t ms) =
    if bytes_eq k name then Some (t, ms) else (if more then member_at more name ms else None)

abbrev pub is_empty : Members → Bool
is_empty no_members = true
is_empty (member k t ms) = false

abbrev mutual
  pub is_equal : Flags → Tree → Tree → Bool
  is_equal f nothing nothing = true
  is_equal f (truth b) (truth c) = truth_eq b c
  is_equal f (number n) (number m) = int_eq n m
  is_equal f (text s) (text t) = bytes_eq s t
  is_equal f (list es) (list ts) =
      if f.ignore_array_order
      then (f.ignore_extra_elements || have_one_length es ts) && each_takes_one f es ts
      else are_equal f es ts
  is_equal f (fields es) (fields ms) = have_equal f es ms
  is_equal f e t = false

  pub are_equal : Flags → Items → Items → Bool
  are_equal f no_items no_items = true
  are_equal f (item e es) (item t ts) = is_equal f e t && are_equal f es ts
  are_equal f es ts = false

  pub each_takes_one : Flags → Items → Items → Bool
  each_takes_one f no_items left = true
  each_takes_one f (item e es) left = option_map_or (each_takes_one f es) (without_first (is_equal f e) left) false

  -- the members that follow are compared after the one that is found
  pub have_equal : Flags → Members → Members → Bool
  have_equal f no_members ms = f.ignore_extra_elements || is_empty ms
  have_equal f (member k e es) ms =
      option_map_or (λ p. is_equal f e p.0 && have_equal f es p.1) (member_at f.ignore_extra_elements k ms) false

abbrev pub are_equal_in_any_order : Flags → Items → Items → Bool
are_equal_in_any_order f es ts = (f.ignore_extra_elements || have_one_length es ts) && each_takes_one f es ts

-- what is found, as trees
abbrev pub found_view : Option (Bor Data × Bor (List (List ℕ × Data))) → Option (Tree × Members)
found_view = option_map (λ p. (tree.view p.0.now, tree.members_view p.1.now))
