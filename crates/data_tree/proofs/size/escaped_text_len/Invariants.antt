use Rattle.std.proofs.Common.{◌≡◌, ◌+◌, ◌<◌, ◌^◌, length, drop}
use Rattle.json.specs.Print.{escape}
use Rattle.data_tree.specs.Capped.{capped}
use Rattle.data_tree.proofs.size.escaped_text_len.Given as goal

-- so far, and what is left, give the whole
abbrev pub invariant-loop-byte : goal.invariant-loop-byte
invariant-loop-byte l = record {
  fits : l.len < 2 ^ 64;
  whole : capped (l.len + length (escape (drop l.byte-index l.byte-items)))
      ≡ capped (2 + length (escape l.byte-items));
}
