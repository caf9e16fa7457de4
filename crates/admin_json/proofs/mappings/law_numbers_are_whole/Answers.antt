use Rattle.std.proofs.Common.{◌<◌, ◌^◌, IfSome, ap, nat_abs, subst}
use Rattle.admin_json.specs.WholeNumbers.{HasWholeBody}
use Rattle.admin_json.proofs.MappingLemmas.{no_float}
use Rattle.mapping_model.specs.declared.mapping_spec.MappingSpec.{MappingSpec}
use Rattle.mapping_model.specs.declared.response_spec.ResponseSpec.{ResponseSpec}
use Rattle.admin_json.proofs.mappings.law_numbers_are_whole.Goals as goal

pub returns-clause-numbers : goal.returns-clause-numbers
returns-clause-numbers c =
    let spec = c.spec-spec.ensures in
    let response = ap (λ (s : MappingSpec). s.response) spec in
    record {
      json_body = subst (λ (r : ResponseSpec). HasWholeBody r.content) response c.law_body_is_whole.ensures;
      status = subst (λ (r : ResponseSpec). r.status < 2 ^ 64) response c.law_status_is_word.ensures;
      priority = subst (λ (s : MappingSpec). IfSome s.priority (λ p. nat_abs p < 2 ^ 63)) spec
          c.law_priority_is_word.ensures;
    }

pub returns-clause-no_float : goal.returns-clause-no_float
returns-clause-no_float c = no_float c.args.mapping.now (returns-clause-numbers c)
