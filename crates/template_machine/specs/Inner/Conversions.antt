-- The error that `from_text` gives where a lower crate has given one.
use Rattle.template_tree.specs.declared.error.ParseError.{ParseError}
use Rattle.template_compile.specs.declared.error.CompileError.{CompileError}
use Rattle.code_verifier.specs.declared.error.VerifyError.{VerifyError}
use Rattle.template_machine.specs.declared.error.ProgramError.{ProgramError}
use Rattle.template_machine.specs.declared.error.ProgramError.TheVariants.{Template, CodeTooLong, CodeRefused}
use Rattle.template_machine.specs.declared.error.ProgramError.TheVariants.{OutOfMemory}

abbrev pub of_parse : ParseError → ProgramError
of_parse (ParseError.Template e) = Template e
of_parse ParseError.OutOfMemory = OutOfMemory

abbrev pub of_compile : CompileError → ProgramError
of_compile CompileError.TooLong = CodeTooLong
of_compile CompileError.OutOfMemory = OutOfMemory

abbrev pub of_verify : VerifyError → ProgramError
of_verify (VerifyError.CodeRefused code index rule) = CodeRefused index rule
of_verify (VerifyError.OutOfMemory code) = OutOfMemory
