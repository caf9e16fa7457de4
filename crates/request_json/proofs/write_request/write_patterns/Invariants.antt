use Rattle.std.proofs.Common.{◌≡◌, map, take}
use Rattle.request_json.specs.BodyWritten.{json_of_pattern}
use Rattle.serde_json.specs.View.{view}
use Rattle.request_json.proofs.write_request.write_patterns.Given as goal

abbrev pub invariant-loop-pattern : goal.invariant-loop-pattern
invariant-loop-pattern l = map view l.values.items ≡ map json_of_pattern (take l.pattern-index l.patterns)
