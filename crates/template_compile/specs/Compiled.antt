-- The code of a template, part by part. It depends on where the code begins: jumps name the indexes of instructions,
-- and each use of a text or a path is a new entry of its table, after those of the parts before.
use Rattle.std.specs.Prelude.{ℕ, ◌+◌, ◌-◌, Bool, true, false, List, [], ◌∷◌, ◌++◌, length}
use Rattle.data_tree.specs.RootPaths.{body_path}
use Rattle.data_tree.specs.declared.step.Step.{Step}
use Rattle.data_tree.specs.declared.step.Step.TheVariants.{Name}
use Rattle.helper_set.specs.Helpers.{signature_of}
use Rattle.helper_set.specs.declared.helper.Helper.TheVariants.{Not, JsonPath}
use Rattle.helper_set.specs.declared.kind.Kind.{Kind}
use Rattle.helper_set.specs.declared.signature.Parameter.{Parameter}
use Rattle.helper_set.specs.declared.signature.Parameter.TheVariants.{Of}
use Rattle.template_code.specs.Code.{StackCode}
use Rattle.template_code.specs.declared.instr.Instr.{Instr}
use Rattle.template_code.specs.declared.instr.Instr.TheVariants as instrs
use Rattle.template_tags.specs.declared.expression.Datum.{Datum}
use Rattle.template_tags.specs.declared.expression.Datum.TheVariants.{Nothing, Root, Item, BodyPath}
use Rattle.template_tags.specs.Expression as expressions
use Rattle.template_tags.specs.Expression.{Expression}
use Rattle.template_tree.specs.declared.escape.Escape.{Escape}
use Rattle.template_tree.specs.declared.escape.Escape.TheVariants.{Off, Html}
use Rattle.template_tree.specs.Meaning.{second_parameter}
use Rattle.template_tree.specs.Tree.{Node, piece, print, if_then, if_else, each, each_else, Nodes, no_nodes, first_node}
use Rattle.template_compile.specs.Kinds.{expression_kind, conversion}

-- how many instructions, texts and paths come before
pub record Offsets : Type 0 where
  pub index : ℕ
  pub texts : ℕ
  pub paths : ℕ

abbrev pub start_offsets : Offsets
start_offsets = record { index = 0; texts = 0; paths = 0 }

-- the offsets after code that begins at these
abbrev pub offsets_after : Offsets → StackCode → Offsets
offsets_after offsets code = record {
  index = offsets.index + length code.instrs;
  texts = offsets.texts + length code.texts;
  paths = offsets.paths + length code.paths;
}

abbrev pub no_code : StackCode
no_code = record { instrs = []; texts = []; paths = [] }

-- the first code and then the second, table by table
abbrev pub appended : StackCode → StackCode → StackCode
appended code more = record {
  instrs = code.instrs ++ more.instrs;
  texts = code.texts ++ more.texts;
  paths = code.paths ++ more.paths;
}

-- instructions that add no entry to a table
abbrev pub without_tables : List Instr → StackCode
without_tables instrs = record { instrs = instrs; texts = []; paths = [] }

-- ---- parts of code, which depend on where they begin

abbrev pub Gen : Type 0
Gen = Offsets → StackCode

-- the one part and then the other
infixr 4 ◌▸◌
abbrev pub ◌▸◌ : Gen → Gen → Gen
(f ▸ g) offsets = appended (f offsets) (g (offsets_after offsets (f offsets)))

abbrev pub instructions : List Instr → Gen
instructions is offsets = without_tables is

-- the text is written
abbrev pub emit_code : List ℕ → Gen
emit_code bytes offsets = record { instrs = instrs.Emit offsets.texts ∷ []; texts = bytes ∷ []; paths = [] }

abbrev pub text_code : List ℕ → Gen
text_code bytes offsets = record { instrs = instrs.Text offsets.texts ∷ []; texts = bytes ∷ []; paths = [] }

abbrev pub root_code : List Step → Gen
root_code path offsets = record { instrs = instrs.Root offsets.paths ∷ []; texts = []; paths = path ∷ [] }

abbrev pub item_code : ℕ → List Step → Gen
item_code up path offsets = record { instrs = instrs.Item up offsets.paths ∷ []; texts = []; paths = path ∷ [] }

-- to the instruction after `n` more: where the truth is false, always, and where the value has no item
abbrev pub branch_over : ℕ → Gen
branch_over n offsets = without_tables (instrs.Branch (offsets.index + 1 + n) ∷ [])

abbrev pub jump_over : ℕ → Gen
jump_over n offsets = without_tables (instrs.Jump (offsets.index + 1 + n) ∷ [])

abbrev pub each_over : ℕ → Gen
each_over n offsets = without_tables (instrs.Each (offsets.index + 1 + n) ∷ [])

-- to the start of the loop's body, `n` instructions before
abbrev pub again : ℕ → Gen
again n offsets = without_tables (instrs.Next (offsets.index - n) ∷ [])

-- how many instructions a part has, wherever it begins
abbrev pub size : Gen → ℕ
size f = length (f start_offsets).instrs

-- ---- expressions

-- a path that finds nothing in the data of a request
abbrev pub nothing_path : List Step
nothing_path = Name [] ∷ []

abbrev pub datum_code : Datum → Gen
datum_code Nothing = root_code nothing_path
datum_code (Root path) = root_code path
datum_code (Item up steps) = item_code up steps
datum_code (BodyPath text) = root_code body_path ▸ text_code text ▸ instructions (instrs.Call JsonPath ∷ [])

-- a value of that kind, and what makes of it what the parameter wants
abbrev pub argument_code : Parameter → Gen → Kind → Gen
argument_code parameter value kind = value ▸ instructions (conversion parameter kind)

abbrev pub expression_code : Expression → Gen
expression_code (expressions.datum d) = datum_code d
expression_code expressions.index = instructions (instrs.Index 0 ∷ [])
expression_code expressions.key = instructions (instrs.Key 0 ∷ [])
expression_code expressions.first = instructions (instrs.First 0 ∷ [])
expression_code expressions.last = instructions (instrs.Last 0 ∷ [])
expression_code (expressions.text_literal text) = text_code text
expression_code (expressions.number n) = instructions (instrs.Number n ∷ [])
expression_code (expressions.truth b) = instructions (instrs.Truth b ∷ [])
expression_code (expressions.call helper e) =
    argument_code (signature_of helper).first (expression_code e) (expression_kind e)
    ▸ instructions (instrs.Call helper ∷ [])
expression_code (expressions.call_two helper e f) =
    argument_code (signature_of helper).first (expression_code e) (expression_kind e)
    ▸ argument_code (second_parameter helper) (expression_code f) (expression_kind f)
    ▸ instructions (instrs.Call helper ∷ [])

-- the expression as a value for that parameter
abbrev pub code_for : Parameter → Expression → Gen
code_for parameter e = argument_code parameter (expression_code e) (expression_kind e)

-- ---- nodes

-- the text on the stack is written, escaped first or not
abbrev pub print_instrs : Escape → List Instr
print_instrs Off = instrs.Print ∷ []
print_instrs Html = instrs.Escape ∷ instrs.Print ∷ []

abbrev pub negation : Bool → List Instr
negation true = instrs.Call Not ∷ []
negation false = []

-- whether the part after an `if` is to be written, or that after an `unless`
abbrev pub test_code : Bool → Expression → Gen
test_code unless test = code_for (Of Kind.Truth) test ▸ instructions (negation unless)

abbrev mutual
  pub node_code : Node → Gen
  node_code (piece bytes) = emit_code bytes
  node_code (print escape e) = code_for (Of Kind.Text) e ▸ instructions (print_instrs escape)
  node_code (if_then unless test body) =
      test_code unless test ▸ branch_over (size (nodes_code body)) ▸ nodes_code body
  node_code (if_else unless test body otherwise) =
      test_code unless test ▸ branch_over (size (nodes_code body) + 1) ▸ nodes_code body
      ▸ jump_over (size (nodes_code otherwise)) ▸ nodes_code otherwise
  node_code (each over body) =
      datum_code over ▸ each_over (size (nodes_code body) + 1) ▸ nodes_code body ▸ again (size (nodes_code body))
  node_code (each_else over body otherwise) =
      datum_code over ▸ each_over (size (nodes_code body) + 2) ▸ nodes_code body ▸ again (size (nodes_code body))
      ▸ jump_over (size (nodes_code otherwise)) ▸ nodes_code otherwise

  pub nodes_code : Nodes → Gen
  nodes_code no_nodes = instructions []
  nodes_code (first_node node nodes) = node_code node ▸ nodes_code nodes

-- the code of a whole template; `Halt` ends it
abbrev pub template_code : Nodes → Gen
template_code nodes = nodes_code nodes ▸ instructions (instrs.Halt ∷ [])

abbrev pub stack_code : Nodes → StackCode
stack_code nodes = template_code nodes start_offsets
