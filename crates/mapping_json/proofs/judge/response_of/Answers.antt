use Rattle.std.proofs.Common.{◌≡◌, false, is_some, sym, subst, rules}
use Rattle.mapping_json.proofs.Wrongs.{other_wrong}
use Rattle.mapping_json.specs.Spelling.{IsValueError}
use Rattle.mapping_json.specs.declared.error.MappingError.TheVariants.{Document}
use Rattle.serde_json.specs.Find.{as_object}
use Rattle.serde_json.specs.View.{view}
use Rattle.mapping_json.proofs.judge.response_of.Goals as goal

pub returns-else-is_object-clause-error : goal.returns-else-is_object-clause-error
returns-else-is_object-clause-error c =
    let no_object : is_some (as_object (view c.args.value.now)) ≡ false = search rules in
    subst (λ kind. IsValueError c.args.escape (view c.args.value.now) (Document kind)) (sym c.misshapen_kind.ensures)
    (other_wrong c.args.escape (view c.args.value.now) no_object)
