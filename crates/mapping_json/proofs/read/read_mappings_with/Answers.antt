use Rattle.std.proofs.Common.{None}
use Rattle.mapping_json.specs.Documents.{IsMappingsError}
use Rattle.mapping_json.proofs.ErrorLemmas.{err_is}
use Rattle.mapping_json.proofs.Joined.{spell_all, refused_all}
use Rattle.mapping_json.proofs.read.read_mappings_with.Goals as goal

pub returns-in_err-read_each_with-clause-error : goal.returns-in_err-read_each_with-clause-error
returns-in_err-read_each_with-clause-error c =
    err_is c.from_residual.result (record { index = None; error = c.in_err-read_each_with.field-0.0 })
    (IsMappingsError c.args.escape c.args.bytes.now) c.from_residual.ensures.1 c.in_err-read_each_with.ensures.error

pub returns-clause-ok : goal.returns-clause-ok
returns-clause-ok c =
    spell_all (λ v. v.items) c.args.escape c.args.bytes.now c.in_ok-read_each_with.field-0.items c.all_of.result
    c.in_ok-read_each_with.ensures.ok c.all_of.ensures.ok

pub returns-clause-error : goal.returns-clause-error
returns-clause-error c =
    refused_all c.args.escape c.args.bytes.now c.in_ok-read_each_with.field-0.items
    c.all_of.result c.in_ok-read_each_with.ensures.ok
    c.all_of.ensures.error
