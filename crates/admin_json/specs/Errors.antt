-- The code of each error.
use Rattle.admin_json.specs.declared.error.BodyError.{BodyError}
use Rattle.admin_json.specs.declared.error.BodyError.TheVariants.{Document, OutOfMemory}
use Rattle.error_code.specs.declared.error_code.ErrorCode.{ErrorCode}
use Rattle.error_code.specs.declared.error_code.ErrorCode.TheVariants as code
use Rattle.json_reading.specs.Errors as document

abbrev pub error_code_of : BodyError → ErrorCode
error_code_of (Document kind) = document.error_code_of kind
error_code_of OutOfMemory = code.OutOfMemory
