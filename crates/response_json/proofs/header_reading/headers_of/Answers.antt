use Rattle.std.proofs.Common.{◌∙◌, ◌<◌, ap, sym}
use Rattle.std.proofs.Math.Nat.{lt_of_not-le}
use Rattle.std.proofs.lemmas.Bool.{false≢true}
use Rattle.mapping_model.specs.declared.header_lines.TheConstants.{HEADER_LIMIT}
use Rattle.response_json.specs.Inner.Counts.{count_in}
use Rattle.response_json.specs.Reading.{headers_of}
use Rattle.response_json.proofs.Counts.{too_many}
use Rattle.serde_json.proofs.Views.{view-Object}
use Rattle.serde_json.specs.View.{members_view}
use Rattle.response_json.proofs.header_reading.headers_of.Goals as goal

pub returns-else-has_room : goal.returns-else-has_room
returns-else-has_room c =
    let large : HEADER_LIMIT < count_in (members_view c.in-Object.members.entries) =
    lt_of_not-le (λ few. false≢true (sym c.if-has_room.false ∙ c.has_room.ensures.1 few)) in
    rw c.in-Object.is (sym (ap headers_of (view-Object c.in-Object.members)
    ∙ too_many (members_view c.in-Object.members.entries) large))
