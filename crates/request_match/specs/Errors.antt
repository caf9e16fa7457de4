-- The code of each error of this crate, and which error those of the crates below become.
use Rattle.error_code.specs.declared.error_code.ErrorCode.{ErrorCode}
use Rattle.error_code.specs.declared.error_code.ErrorCode.TheVariants as code
use Rattle.json_bridge.specs.declared.error.JsonPathError.{JsonPathError}
use Rattle.json_bridge.specs.declared.error.JsonPathError.TheVariants as path
use Rattle.json_match.specs.declared.error.JsonMatchError.{JsonMatchError}
use Rattle.json_match.specs.declared.error.JsonMatchError.TheVariants as json
use Rattle.path_template.specs.declared.error.PathTemplateError.{PathTemplateError}
use Rattle.path_template.specs.declared.error.PathTemplateError.TheVariants as template
use Rattle.request_match.specs.declared.error.RequestMatchError.{RequestMatchError}
use Rattle.request_match.specs.declared.error.RequestMatchError.TheVariants.{BadUrl, BadPattern, NotJson}
use Rattle.request_match.specs.declared.error.RequestMatchError.TheVariants.{NumberNotWhole, BadPath, OutOfMemory}
use Rattle.value_match.specs.declared.error.ValueError.{ValueError}
use Rattle.value_match.specs.declared.error.ValueError.TheVariants as value

abbrev pub error_code_of : RequestMatchError → ErrorCode
error_code_of BadUrl = code.BadUrl
error_code_of BadPattern = code.BadPattern
error_code_of NotJson = code.BadDocument
error_code_of NumberNotWhole = code.NumberNotWhole
error_code_of BadPath = code.BadPath
error_code_of OutOfMemory = code.OutOfMemory

abbrev pub error_of_template : PathTemplateError → RequestMatchError
error_of_template template.BadUrl = BadUrl
error_of_template template.OutOfMemory = OutOfMemory

abbrev pub error_of_value : ValueError → RequestMatchError
error_of_value value.BadPattern = BadPattern
error_of_value value.OutOfMemory = OutOfMemory

abbrev pub error_of_json : JsonMatchError → RequestMatchError
error_of_json json.NotJson = NotJson
error_of_json json.NumberNotWhole = NumberNotWhole
error_of_json json.BadPath = BadPath
error_of_json json.OutOfMemory = OutOfMemory

abbrev pub error_of_path : JsonPathError → RequestMatchError
error_of_path path.BadPath = BadPath
error_of_path path.OutOfMemory = OutOfMemory
