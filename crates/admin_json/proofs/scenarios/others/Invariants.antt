use Rattle.std.proofs.Common.{◌≡◌, [], drop, map, string_bytes}
use Rattle.std.specs.List.{filter}
use Rattle.std.specs.Map.{keys_of}
use Rattle.admin_json.specs.Names.{with_names}
use Rattle.admin_json.specs.Scenarios.{is_other}
use Rattle.admin_json.proofs.scenarios.others.Given as goal

-- the states that are left go among those that are there
abbrev pub invariant-loop-state : goal.invariant-loop-state
invariant-loop-state l =
    with_names (filter is_other l.fn.named) []
    ≡ with_names (filter is_other (drop l.state-index l.fn.named)) (map string_bytes (keys_of l.names.entries))
