-- The code of each error, and which error one of the matcher becomes.
use Rattle.error_code.specs.declared.error_code.ErrorCode.{ErrorCode}
use Rattle.error_code.specs.declared.error_code.ErrorCode.TheVariants as code
use Rattle.json_reading.specs.Errors as document
use Rattle.mapping_json.specs.declared.request_error.RequestDocumentError.{RequestDocumentError}
use Rattle.mapping_json.specs.declared.request_error.RequestDocumentError.TheVariants.{Document, Matcher, OutOfMemory}
use Rattle.request_match.specs.Errors as matcher
use Rattle.request_match.specs.declared.error.RequestMatchError.{RequestMatchError}
use Rattle.request_match.specs.declared.error.RequestMatchError.TheVariants as refusal

abbrev pub error_code_of : RequestDocumentError → ErrorCode
error_code_of (Document kind) = document.error_code_of kind
error_code_of (Matcher error) = matcher.error_code_of error
error_code_of OutOfMemory = code.OutOfMemory

-- out of memory is one error, wherever it happens
abbrev pub error_of_matcher : RequestMatchError → RequestDocumentError
error_of_matcher refusal.OutOfMemory = OutOfMemory
error_of_matcher error = Matcher error
