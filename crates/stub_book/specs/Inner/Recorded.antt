-- What a mapping can lack to be built.
use Rattle.std.specs.Prelude.{◌≡◌}
use Rattle.mapping_model.specs.declared.mapping_spec.MappingSpec.{MappingSpec}
use Rattle.request_match.specs.Refusal.{IsRefusal}
use Rattle.request_match.specs.declared.error.RequestMatchError.{RequestMatchError}
use Rattle.request_match.specs.declared.error.RequestMatchError.TheVariants.{OutOfMemory}

-- its matcher is refused for want of memory alone
abbrev pub LacksOnlyMemory : MappingSpec → Type 0
LacksOnlyMemory spec = (error : RequestMatchError) → IsRefusal spec.request error → error ≡ OutOfMemory
