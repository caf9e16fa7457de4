-- What the steps from a text to its verified code give.
use Rattle.std.specs.Prelude.{◌≡◌}
use Rattle.template_code.specs.Code.{StackCode}
use Rattle.template_tree.specs.Source.{Source}
use Rattle.template_machine.specs.Program.{IsProgram, IsProgramText}
use Rattle.template_machine.specs.Errors.{IsErrorOf}
use Rattle.template_machine.specs.declared.error.ProgramError.{ProgramError}
use Rattle.template_machine.specs.declared.error.ProgramError.TheVariants.{OutOfMemory}

-- with this code the source is a program
pub record IsCodeOf (source : Source) (code : StackCode) : Type 0 where
  pub whole : IsProgramText source
  pub program : IsProgram (record { source = source; code = code })

-- the error is true of the source, and a program's source has no other one than that memory ran out
pub record IsOnlyErrorOf (source : Source) (error : ProgramError) : Type 0 where
  pub reported : IsErrorOf source error
  pub exactly : IsProgramText source → error ≡ OutOfMemory
