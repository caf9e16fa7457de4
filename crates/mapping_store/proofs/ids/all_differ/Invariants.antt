use Rattle.std.proofs.Common.{◌≡◌, drop}
use Rattle.std.specs.List.{list_all}
use Rattle.mapping_store.specs.Ids.{all_differ}
use Rattle.mapping_store.proofs.ids.all_differ.Given as goal

-- what is left decides
abbrev pub invariant-loop-last : goal.invariant-loop-last
invariant-loop-last l = all_differ l.ids ≡ list_all (λ last. last) (drop l.last-index l.last-items)
