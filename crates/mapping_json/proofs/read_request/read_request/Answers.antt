use Rattle.std.proofs.Common.{rules}
use Rattle.json_reading.specs.declared.reading.Reading.TheVariants.{Read}
use Rattle.mapping_json.proofs.RequestErrorLemmas.{err_is, refused}
use Rattle.mapping_json.specs.RequestErrors.{error_of_matcher}
use Rattle.mapping_json.specs.RequestRefusal.{Spells, IsRefused}
use Rattle.mapping_json.proofs.read_request.read_request.Goals as goal

pub returns-in_err-build-in-Read-clause-refused : goal.returns-in_err-build-in-Read-clause-refused
returns-in_err-build-in-Read-clause-refused c =
    let spelled : Spells c.args.text.now (Read c.in-Read.request) = search rules in
    err_is c.from_residual-in_err-build-in-Read.result (error_of_matcher c.in_err-build-in-Read.field-0.0)
    (IsRefused c.args.text.now) c.from_residual-in_err-build-in-Read.ensures.1
    (refused c.args.text.now c.in-Read.request c.in_err-build-in-Read.field-0.0 spelled
    c.in_err-build-in-Read.ensures.refusal)
