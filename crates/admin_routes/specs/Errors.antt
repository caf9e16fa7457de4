-- The code of each error.
use Rattle.admin_json.specs.Errors as body
use Rattle.admin_routes.specs.declared.error.AdminError.{AdminError}
use Rattle.admin_routes.specs.declared.error.AdminError.TheVariants.{UnknownCall, UnknownMapping, Mapping, Matcher}
use Rattle.admin_routes.specs.declared.error.AdminError.TheVariants.{State, Start, OutOfMemory}
use Rattle.error_code.specs.declared.error_code.ErrorCode.{ErrorCode}
use Rattle.error_code.specs.declared.error_code.ErrorCode.TheVariants as code
use Rattle.mapping_json.specs.Errors as mapping
use Rattle.mapping_json.specs.RequestErrors as matcher

abbrev pub error_code_of : AdminError → ErrorCode
error_code_of UnknownCall = code.UnknownAdminCall
error_code_of UnknownMapping = code.UnknownMapping
error_code_of (Mapping why) = mapping.error_code_of why
error_code_of (Matcher why) = matcher.error_code_of why
error_code_of (State why) = body.error_code_of why
error_code_of (Start why) = body.error_code_of why
error_code_of OutOfMemory = code.OutOfMemory
