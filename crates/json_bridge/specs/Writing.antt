-- The trees whose JSON text reads back as themselves: no named text is in them, and they nest at most 127 deep.
use Rattle.std.specs.Prelude.{ℕ, suc, max, Bool, true, false, ◌||◌}
use Rattle.data_tree.specs.Tree.{Tree, list, fields, named, Items, no_items, item, Members, no_members, member}

abbrev mutual
  -- a named text, whose JSON text is that of an object, is in it
  pub has_named : Tree → Bool
  has_named (list ts) = items_have_named ts
  has_named (fields ms) = members_have_named ms
  has_named (named s ts ms) = true
  has_named t = false

  pub items_have_named : Items → Bool
  items_have_named no_items = false
  items_have_named (item t ts) = has_named t || items_have_named ts

  pub members_have_named : Members → Bool
  members_have_named no_members = false
  members_have_named (member k t ms) = has_named t || members_have_named ms

-- how deep lists and objects nest
abbrev mutual
  pub depth : Tree → ℕ
  depth (list ts) = suc (items_depth ts)
  depth (fields ms) = suc (members_depth ms)
  depth (named s ts ms) = suc (suc (max (items_depth ts) (members_depth ms)))
  depth t = 0

  pub items_depth : Items → ℕ
  items_depth no_items = 0
  items_depth (item t ts) = max (depth t) (items_depth ts)

  pub members_depth : Members → ℕ
  members_depth no_members = 0
  members_depth (member k t ms) = max (depth t) (members_depth ms)
