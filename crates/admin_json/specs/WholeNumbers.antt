-- The numbers of a mapping's JSON are whole and fit 64 bits: those of its `jsonBody`, where that is read as a value, its
-- status and its priority.
use Rattle.std.specs.Prelude.{◌<◌, ◌^◌, IfSome, nat_abs}
use Rattle.json_reading.specs.Numbers.{IsWholeJson}
use Rattle.mapping_model.specs.declared.response_spec.Body.{Body}
use Rattle.mapping_model.specs.declared.response_spec.Body.TheVariants as body
use Rattle.mapping_model.specs.declared.response_spec.Content.{Content}
use Rattle.mapping_model.specs.declared.response_spec.Content.TheVariants.{Plain, Templated}
use Rattle.request_journal.specs.declared.mapping.Mapping.{Mapping}

abbrev pub HasWholeJson : {V : Type 0} → Body V → Type 0
HasWholeJson (body.Json text) = IsWholeJson text
HasWholeJson other = Unit {0}

abbrev pub HasWholeBody : Content → Type 0
HasWholeBody (Plain headers found) = HasWholeJson found
HasWholeBody (Templated headers found) = HasWholeJson found

pub record HasWholeNumbers (mapping : Mapping) : Type 0 where
  pub json_body : HasWholeBody mapping.spec.response.content
  pub status : mapping.spec.response.status < 2 ^ 64
  pub priority : IfSome mapping.spec.priority (λ priority. nat_abs priority < 2 ^ 63)
