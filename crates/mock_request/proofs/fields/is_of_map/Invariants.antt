use Rattle.std.proofs.Common.{◌≡◌, ◌≤◌, length, drop}
use Rattle.http_header.specs.HeaderMap.{pairs}
use Rattle.mock_request.specs.Request.{headers_of}
use Rattle.mock_request.specs.Inner.Parts.{fields_of}
use Rattle.mock_request.proofs.fields.is_of_map.Given as goal

-- where what is left of the block is what is left of the map, the whole block is the map
abbrev pub invariant-loop-name : goal.invariant-loop-name
invariant-loop-name l = record {
  at : l.at ≤ length l.block;
  rest : drop l.at l.block ≡ fields_of (headers_of l.name-iterator)
      → l.block ≡ fields_of (headers_of (pairs l.headers));
}
