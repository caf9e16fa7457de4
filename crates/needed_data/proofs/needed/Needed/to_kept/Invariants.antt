use Rattle.std.proofs.Common.{◌≡◌, map, take}
use Rattle.needed_data.proofs.needed.Needed.to_kept.Given as goal

abbrev pub invariant-loop-name : goal.invariant-loop-name
invariant-loop-name l = l.json_names.items ≡ map (λ name. name.now) (take l.name-index l.name-items)
