-- What is parsed, compiled and verified is a program.
use Rattle.std.proofs.Common.{◌≡◌, ℕ, List, refl, sym, ap, ◌∙◌, subst}
use Rattle.data_tree.specs.Tree.{Tree}
use Rattle.data_tree.specs.LookUp.{EmptyNameFindsNothing}
use Rattle.template_code.specs.Finds.{FindSame}
use Rattle.template_code.specs.Machine.{Runs}
use Rattle.template_code.proofs.FindFacts.{same_runs}
use Rattle.template_tree.proofs.Unique.{one_tree}
use Rattle.template_tree.specs.Source.{Source}
use Rattle.template_tree.specs.Tree.{Nodes}
use Rattle.template_tree.specs.Grammar.{Spells}
use Rattle.template_code.specs.Code.{StackCode}
use Rattle.template_compile.specs.Compiled.{stack_code}
use Rattle.template_compile.specs.Correct.{WritesTextOf}
use Rattle.template_machine.specs.Program.{ProgramParts, IsProgram, IsMeant, FindsSame}
use Rattle.template_machine.proofs.Refusals.{run_means}

-- two programs of one source have one code
pub one_code : (p q : ProgramParts) → IsProgram p → IsProgram q → p.source ≡ q.source → p.code ≡ q.code
one_code p q a b same =
    let spelled : Spells q.source a.tree = subst (λ source. Spells source a.tree) same a.spelled in
    a.translated ∙ (ap stack_code (one_tree q.source a.tree b.tree spelled b.spelled) ∙ sym b.translated)

-- where a program's code finds the same, each program of its source does
pub finds_same : (p : ProgramParts) (r r' : Tree) → IsProgram p → FindSame p.code r r' → FindsSame p.source r r'
finds_same p r r' is h q other same = subst (λ code. FindSame code r r') (sym (one_code q p other is same)) h

-- a program that finds the same in another root gives over it the same text, by the same run
pub renders_alike :
    (p : ProgramParts) (r r' : Tree) (steps : ℕ) (text : List ℕ)
    → IsProgram p → EmptyNameFindsNothing r' → FindsSame p.source r r' → Runs p.code r steps text
    → Runs p.code r' steps text × IsMeant p.source r' text
renders_alike p r r' steps text is clean same run =
    let runs = same_runs p.code r r' steps text (same p is refl) run in
    (runs, run_means p r' steps text is clean runs)

-- the program keeps the code that was verified
pub program_of :
    (source : Source) (kept code : StackCode) (tree : Nodes)
    → kept ≡ code → Spells source tree → code ≡ stack_code tree → WritesTextOf code tree
    → IsProgram (record { source = source; code = kept })
program_of source kept code tree same spelled translated runs =
    record {
      tree = tree;
      spelled = spelled;
      translated = same ∙ translated;
      runs = subst (λ c. WritesTextOf c tree) (sym same) runs;
    }
