use Rattle.std.proofs.Common.{◌≡◌, map}
use Rattle.admin_json.proofs.Groups.{group_of, group_json}
use Rattle.serde_json.specs.View.{view}
use Rattle.admin_json.proofs.scenarios.list_value.Given as goal

abbrev pub invariant-loop-name : goal.invariant-loop-name
invariant-loop-name l = map view l.values.items ≡ map (λ e. group_json l.fn.states (group_of e)) l.yielded
