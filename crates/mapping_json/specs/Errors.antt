-- The code of each error of this crate, and which error those of the crates below become.
use Rattle.error_code.specs.declared.error_code.ErrorCode.{ErrorCode}
use Rattle.json_reading.specs.Errors as document
use Rattle.mapping_json.specs.declared.error.MappingError.{MappingError}
use Rattle.mapping_json.specs.declared.error.MappingError.TheVariants.{Document, Request, Template, OutOfMemory}
use Rattle.request_match.specs.Errors as request
use Rattle.request_match.specs.declared.error.RequestMatchError.{RequestMatchError}
use Rattle.request_match.specs.declared.error.RequestMatchError.TheVariants as matcher
use Rattle.template_machine.specs.Errors as program
use Rattle.template_machine.specs.declared.error.ProgramError.{ProgramError}
use Rattle.template_machine.specs.declared.error.ProgramError.TheVariants as template

abbrev pub error_code_of : MappingError → ErrorCode
error_code_of (Document kind) = document.error_code_of kind
error_code_of (Request error) = request.error_code_of error
error_code_of (Template error) = program.error_code_of error
error_code_of OutOfMemory = ErrorCode.OutOfMemory

abbrev pub error_of_request : RequestMatchError → MappingError
error_of_request matcher.OutOfMemory = OutOfMemory
error_of_request error = Request error

abbrev pub error_of_template : ProgramError → MappingError
error_of_template template.OutOfMemory = OutOfMemory
error_of_template error = Template error
