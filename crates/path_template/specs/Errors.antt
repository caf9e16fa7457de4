-- The code of each error of this crate.
use Rattle.error_code.specs.declared.error_code.ErrorCode.{ErrorCode}
use Rattle.error_code.specs.declared.error_code.ErrorCode.TheVariants as code
use Rattle.path_template.specs.declared.error.PathTemplateError.{PathTemplateError}
use Rattle.path_template.specs.declared.error.PathTemplateError.TheVariants.{BadUrl, OutOfMemory}

abbrev pub error_code_of : PathTemplateError → ErrorCode
error_code_of BadUrl = code.BadUrl
error_code_of OutOfMemory = code.OutOfMemory
