-- The code of each error of this crate.
use Rattle.error_code.specs.declared.error_code.ErrorCode.{ErrorCode}
use Rattle.error_code.specs.declared.error_code.ErrorCode.TheVariants as code
use Rattle.json_bridge.specs.declared.error.JsonError as json
use Rattle.json_bridge.specs.declared.error.JsonError.TheVariants as unread
use Rattle.json_bridge.specs.declared.error.JsonPathError as path
use Rattle.json_bridge.specs.declared.error.JsonPathError.TheVariants as refused
use Rattle.json_match.specs.declared.error.JsonMatchError.{JsonMatchError}
use Rattle.json_match.specs.declared.error.JsonMatchError.TheVariants.{NotJson, NumberNotWhole, BadPath, OutOfMemory}

abbrev pub error_code_of : JsonMatchError → ErrorCode
error_code_of NotJson = code.BadDocument
error_code_of NumberNotWhole = code.NumberNotWhole
error_code_of BadPath = code.BadPath
error_code_of OutOfMemory = code.OutOfMemory

-- why an expected text has no value
abbrev pub error_of_json : json.JsonError → JsonMatchError
error_of_json unread.NotJson = NotJson
error_of_json unread.NumberNotWhole = NumberNotWhole
error_of_json unread.OutOfMemory = OutOfMemory

-- why a text is no path
abbrev pub error_of_path : path.JsonPathError → JsonMatchError
error_of_path refused.BadPath = BadPath
error_of_path refused.OutOfMemory = OutOfMemory
