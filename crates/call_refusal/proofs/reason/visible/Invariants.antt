use Rattle.std.proofs.Common.{◌≡◌, ◌≤◌, length}
use Rattle.std.specs.Prelude.{◌++◌, drop, take}
use Rattle.call_refusal.specs.Reason.{AreVisible, reason_of}
use Rattle.call_refusal.specs.declared.reason.TheConstants.{LENGTH_LIMIT}
use Rattle.call_refusal.proofs.ReasonLemmas.{all_shown}
use Rattle.call_refusal.proofs.reason.visible.Given as goal

abbrev pub invariant-loop-byte : goal.invariant-loop-byte
invariant-loop-byte l = record {
  visible : AreVisible l.bytes.items;
  short : length l.bytes.items ≤ LENGTH_LIMIT;
  rest : take LENGTH_LIMIT (l.bytes.items ++ all_shown (drop l.byte-index l.byte-items)) ≡ reason_of l.fn.text;
}
