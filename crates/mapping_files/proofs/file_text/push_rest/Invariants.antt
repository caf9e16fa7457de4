-- The text so far, and the texts that are left, give the whole.
use Rattle.std.proofs.Common.{◌≡◌, ◌++◌, drop, map, string_bytes}
use Rattle.std.specs.Prelude.{flat_map}
use Rattle.mapping_files.specs.Saved.{next_text}
use Rattle.mapping_files.proofs.file_text.push_rest.Given as goal

abbrev pub invariant-loop-next : goal.invariant-loop-next
invariant-loop-next l =
    string_bytes l.text ++ flat_map next_text (map string_bytes (drop l.next-index l.texts))
    ≡ string_bytes l.initial.text ++ flat_map next_text (map string_bytes l.texts)
