use Rattle.std.proofs.Common.{string_bytes}
use Rattle.std.proofs.lemmas.Str.{IsUtf8-string_bytes, IsCharBoundary-from_take}
use Rattle.data_tree.proofs.draft.Draft.into_start.Goals as goal

pub truncate-requires : goal.truncate-requires
truncate-requires c = λ within.
    let d = c.self.inside in
    let cut = IsCharBoundary-from_take (string_bytes d.text) d.start (IsUtf8-string_bytes d.text) c.self.invariant.0
    c.self.invariant.1 in
    (cut.0, λ some inside. cut.1 inside)
