-- The code of each error.
use Rattle.error_code.specs.declared.error_code.ErrorCode.{ErrorCode}
use Rattle.error_code.specs.declared.error_code.ErrorCode.TheVariants as code
use Rattle.har_export.specs.declared.error.HarError.{HarError}
use Rattle.har_export.specs.declared.error.HarError.TheVariants.{MomentOutOfRange, OutOfMemory}

abbrev pub error_code_of : HarError → ErrorCode
error_code_of MomentOutOfRange = code.MomentOutOfRange
error_code_of OutOfMemory = code.OutOfMemory
