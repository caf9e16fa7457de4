-- The code and the byte offset of an error, and when it is true of a text.
use Rattle.std.specs.Prelude.{ℕ, Option, Some, None}
use Rattle.error_code.specs.declared.error_code.ErrorCode.{ErrorCode}
use Rattle.template_tree.specs.Errors as template
use Rattle.template_tree.specs.Source.{Source}
use Rattle.template_tree.specs.Grammar.{IsTemplateError}
use Rattle.template_machine.specs.Program.{IsTooLong}
use Rattle.template_machine.specs.declared.error.ProgramError.{ProgramError}
use Rattle.template_machine.specs.declared.error.ProgramError.TheVariants.{Template, CodeTooLong, CodeRefused}
use Rattle.template_machine.specs.declared.error.ProgramError.TheVariants.{OutOfMemory}

abbrev pub error_code_of : ProgramError → ErrorCode
error_code_of (Template e) = template.error_code_of e
error_code_of CodeTooLong = ErrorCode.TooLong
error_code_of (CodeRefused index rule) = ErrorCode.CodeRefused
error_code_of OutOfMemory = ErrorCode.OutOfMemory

-- the byte of the text at which it is reported
abbrev pub offset_of : ProgramError → Option ℕ
offset_of (Template e) = Some e.at
offset_of CodeTooLong = Some 0
offset_of (CodeRefused index rule) = None
offset_of OutOfMemory = None

-- the source has the error; none has code that the verifier refuses, and memory may run out for every source
abbrev pub IsErrorOf : Source → ProgramError → Type 0
IsErrorOf source (Template e) = IsTemplateError source.text e
IsErrorOf source CodeTooLong = IsTooLong source
IsErrorOf source (CodeRefused index rule) = ⊥
IsErrorOf source OutOfMemory = Unit {0}
