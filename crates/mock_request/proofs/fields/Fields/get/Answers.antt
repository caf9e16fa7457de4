use Rattle.std.proofs.Common.{arith, add-one, refl, sym, subst}
use Rattle.std.proofs.lemmas.Option.{slice_get_past}
use Rattle.http_header.specs.FieldName.{IsHeaderName}
use Rattle.mock_request.specs.Inner.Parts.{headers_in}
use Rattle.mock_request.proofs.PartsLemmas.{field_count, header_at}
use Rattle.mock_request.proofs.fields.Fields.get.Goals as goal

pub returns-then-index-count-clause-value : goal.returns-then-index-count-clause-value
returns-then-index-count-clause-value c =
    let count = field_count c.self.inside.block c.self.invariant in
    rw (← c.self.view_is) (sym (slice_get_past (headers_in c.self.inside.block) c.args.index (omega arith)))

pub text-requires-clause-text : goal.text-requires-clause-text
text-requires-clause-text c =
    let fields = c.self.inside.block in
    let count = field_count fields c.self.invariant in
    (header_at fields c.args.index c.self.invariant (omega arith)).text

pub returns-clause-value : goal.returns-clause-value
returns-clause-value c =
    let fields = c.self.inside.block in
    let count = field_count fields c.self.invariant in
    let at = header_at fields c.args.index c.self.invariant (omega arith) in
    rw (← c.self.view_is, at.found, c.text.ensures, c.part.ensures, add-one) refl

pub returns-clause-lower_case : goal.returns-clause-lower_case
returns-clause-lower_case c =
    let fields = c.self.inside.block in
    let count = field_count fields c.self.invariant in
    subst IsHeaderName (sym c.text.ensures) (header_at fields c.args.index c.self.invariant (omega arith)).name
