use Rattle.std.proofs.Common.{◌≡◌, ◌≤◌, ◌++◌, All, drop, map, vec_len}
use Rattle.std.specs.Vec.{vec_capacity}
use Rattle.request_journal.specs.Past.{placed_from}
use Rattle.mapping_store.specs.Kept.{Fits, placed_of}
use Rattle.mapping_store.proofs.defaults.push_defaults.Given as goal

-- what is added, followed by what is left of the defaults at their places, is the whole
abbrev pub invariant-loop-at : goal.invariant-loop-at
invariant-loop-at l = record {
  fit : All (Fits l.defaults) l.entries.items;
  added : map placed_of l.entries.items ++ placed_from l.number l.at (drop l.at l.defaults)
      ≡ placed_from l.number 0 l.defaults;
  few : vec_len l.entries ≤ l.at;
  capacity : vec_capacity l.fn.entries ≤ vec_capacity l.entries;
}
