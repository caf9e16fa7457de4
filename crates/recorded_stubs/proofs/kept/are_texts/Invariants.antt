use Rattle.std.proofs.Common.{◌≡◌, take}
use Rattle.std.specs.List.{list_all}
use Rattle.recorder.specs.Key.{headers_named}
use Rattle.recorded_stubs.proofs.HeaderLemmas.{is_text}
use Rattle.recorded_stubs.proofs.kept.are_texts.Given as goal

abbrev pub invariant-loop-index : goal.invariant-loop-index
invariant-loop-index l = l.are_texts ≡ list_all is_text (headers_named l.name (take l.index l.request.headers))
