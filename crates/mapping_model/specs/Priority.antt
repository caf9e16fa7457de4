-- The priority of a mapping.
use Rattle.std.specs.Prelude.{ℤ, Option, unwrap_or}
use Rattle.mapping_model.specs.declared.mapping_spec.TheConstants.{DEFAULT_PRIORITY}

-- the priority that is written, or the default where none is
abbrev pub priority_of : Option ℤ → ℤ
priority_of written = unwrap_or written DEFAULT_PRIORITY
