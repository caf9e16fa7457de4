use Rattle.std.proofs.Common.{◌≡◌, ◌++◌, map, string_bytes}
use Rattle.std.specs.Map.{keys_of}
use Rattle.admin_json.proofs.names.push_all.Given as goal

-- what is there, with the names that are left, is the whole
abbrev pub invariant-loop-name : goal.invariant-loop-name
invariant-loop-name l =
    l.initial.found.items ++ map string_bytes (keys_of l.initial.name-iterator)
    ≡ l.found.items ++ map string_bytes (keys_of l.name-iterator)
