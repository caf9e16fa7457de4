use Rattle.std.proofs.Common.{◌≡◌, [], drop, map, string_bytes}
use Rattle.std.specs.Map.{keys_of}
use Rattle.admin_json.specs.Names.{with_names}
use Rattle.admin_json.proofs.names.in_order.Given as goal

-- the texts that are left go among those that are there
abbrev pub invariant-loop-text : goal.invariant-loop-text
invariant-loop-text l =
    with_names l.fn.texts [] ≡ with_names (drop l.text-index l.fn.texts) (map string_bytes (keys_of l.names.entries))
