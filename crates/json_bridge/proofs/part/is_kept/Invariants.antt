use Rattle.std.proofs.Common.{◌≡◌, false, take}
use Rattle.std.specs.List.{list_any}
use Rattle.std.specs.Str.{bytes_eq}
use Rattle.json_bridge.proofs.part.is_kept.Given as goal

-- none of the names so far
abbrev pub invariant-loop-own : goal.invariant-loop-own
invariant-loop-own l = list_any (λ own. bytes_eq own.now l.name) (take l.own-index l.names) ≡ false
