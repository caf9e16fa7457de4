-- Code that is being written, and how it grows.
use Rattle.template_code.specs.Code.{StackCode}
use Rattle.template_compile.specs.Compiled.{Gen, start_offsets, offsets_after, appended}

-- the code, and after it a part that depends on where it begins
abbrev pub extended_by : StackCode → Gen → StackCode
extended_by code more = appended code (more (offsets_after start_offsets code))
