-- The errors of a text on the way to its program, and the text that its program writes.
use Rattle.std.proofs.Common.{◌≡◌, ℕ, ◌<◌, ◌≤◌, List, length, refl, sym, ap, ◌∙◌, arith}
use Rattle.data_tree.specs.Tree.{Tree}
use Rattle.data_tree.specs.LookUp.{EmptyNameFindsNothing}
use Rattle.template_code.specs.Machine.{first, Runs}
use Rattle.template_code.proofs.RunFacts.{ends_alike}
use Rattle.template_code.specs.Code.{StackCode}
use Rattle.code_rules.specs.Verdict.{IsWellFormed}
use Rattle.template_code.specs.declared.limits.TheConstants.{MAX_INSTRUCTIONS}
use Rattle.code_rules.proofs.FormFacts.{formed-few}
use Rattle.template_tree.specs.Source.{Source}
use Rattle.template_tree.specs.Tree.{Nodes}
use Rattle.template_tree.specs.Grammar.{Spells, IsParseError}
use Rattle.template_tree.specs.declared.error.ParseError.{ParseError}
use Rattle.template_tree.specs.declared.error.ParseError.TheVariants as parse
use Rattle.template_compile.specs.Compiled.{stack_code}
use Rattle.template_compile.specs.declared.error.CompileError.{CompileError}
use Rattle.template_compile.specs.declared.error.CompileError.TheVariants as compile
use Rattle.template_machine.specs.Program.{ProgramParts, IsProgram, IsMeant}
use Rattle.template_machine.specs.Inner.Conversions.{of_parse, of_compile}
use Rattle.template_machine.specs.Inner.Programs.{IsOnlyErrorOf}

-- a run of a program's code is the run that writes its text
pub run_means :
    (p : ProgramParts) (root : Tree) (steps : ℕ) (text : List ℕ)
    → IsProgram p → EmptyNameFindsNothing root → Runs p.code root steps text → IsMeant p.source root text
run_means p root steps text program clean run =
    let meant = program.runs root clean in
    let same = ends_alike p.code root first steps meant.0 run.0 meant.1.0 run.1 meant.1.1 in
    record {
      tree = program.tree;
      spelled = program.spelled;
      same = sym run.2 ∙ (ap (λ s. s.output) same.1 ∙ meant.1.2);
    }

-- the parser's error
pub parse_error :
    (source : Source) (e : ParseError)
    → IsParseError source.text e → ((tree : Nodes) → Spells source tree → e ≡ parse.OutOfMemory)
    → IsOnlyErrorOf source (of_parse e)
parse_error source (parse.Template t) is only = record { reported = is; exactly = λ p. ap of_parse (only p.0 p.1) }
parse_error source parse.OutOfMemory is only = record { reported = tt; exactly = λ p. refl }

-- the compiler's error
pub compile_error :
    (source : Source) (tree : Nodes) (e : CompileError)
    → Spells source tree → ((other : Nodes) → Spells source other → tree ≡ other)
    → (e ≡ compile.TooLong → MAX_INSTRUCTIONS < length (stack_code tree).instrs)
    → IsOnlyErrorOf source (of_compile e)
compile_error source tree compile.TooLong spelled one long =
    record {
      reported = (tree, spelled, long refl);
      exactly = λ p.
          let same = ap (λ t. length (stack_code t).instrs) (one p.0 p.1) in
          absurd (omega (arith, p.2, same, long refl));
    }
compile_error source tree compile.OutOfMemory spelled one long = record { reported = tt; exactly = λ p. refl }

-- the code of a text is no longer than code may be
pub short_code :
    (code : StackCode) (tree : Nodes)
    → IsWellFormed code → code ≡ stack_code tree → length (stack_code tree).instrs ≤ MAX_INSTRUCTIONS
short_code code tree well translated =
    let same = ap (λ (c : StackCode). length c.instrs) translated in
    omega (arith, formed-few code well, same)
