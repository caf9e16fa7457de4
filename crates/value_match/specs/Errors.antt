-- The code of each error of this crate.
use Rattle.error_code.specs.declared.error_code.ErrorCode.{ErrorCode}
use Rattle.error_code.specs.declared.error_code.ErrorCode.TheVariants as code
use Rattle.regex.specs.declared.error.Error as regex
use Rattle.regex.specs.declared.error.Error.TheVariants as refused
use Rattle.value_match.specs.declared.error.ValueError.{ValueError}
use Rattle.value_match.specs.declared.error.ValueError.TheVariants.{BadPattern, OutOfMemory}

abbrev pub error_code_of : ValueError → ErrorCode
error_code_of BadPattern = code.BadPattern
error_code_of OutOfMemory = code.OutOfMemory

-- every error of `regex` that isn't about memory
abbrev pub error_of_regex : regex.Error → ValueError
error_of_regex refused.OutOfMemory = OutOfMemory
error_of_regex (refused.Syntax e) = BadPattern
error_of_regex refused.CompiledTooBig = BadPattern
error_of_regex refused.Internal = BadPattern
