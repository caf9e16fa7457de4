use Rattle.std.proofs.Common.{IsTrue}
use Rattle.std.specs.List.{AllWithin}
use Rattle.request_data.specs.Inner.Plain.{IsPlain}
use Rattle.request_data.proofs.query_data.is_plain.Given as goal

-- the bytes so far, where none of them was another one
abbrev pub invariant-loop-byte : goal.invariant-loop-byte
invariant-loop-byte l = IsTrue l.plain → AllWithin IsPlain l.encoded 0 l.byte-index
