use Rattle.std.proofs.Common.{◌≡◌, map, take, drop, length}
use Rattle.stub_response.specs.HeaderText.{value_byte}
use Rattle.stub_response.proofs.header_text.header_text.Given as goal

abbrev pub invariant-loop-i : goal.invariant-loop-i
invariant-loop-i l = record {
  long : length l.text.items ≡ length l.fn.text.items;
  done : take l.i l.text.items ≡ map value_byte (take l.i l.fn.text.items);
  left : drop l.i l.text.items ≡ drop l.i l.fn.text.items;
}
