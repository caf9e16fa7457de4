-- Code as text: for each instruction a line with its index, a space, its name and its operand.
use Rattle.std.specs.Prelude.{ℕ, suc, List, [], ◌∷◌, ◌++◌, codes, decimal}
use Rattle.std.specs.Fmt.{signed_decimal}
use Rattle.data_tree.specs.Json.{truth_text}
use Rattle.helper_set.specs.Helpers.{name_of}
use Rattle.template_code.specs.declared.instr.Instr.{Instr}
use Rattle.template_code.specs.declared.instr.Instr.TheVariants.{Emit, Root, Item, Index, Key, First, Last, Text}
use Rattle.template_code.specs.declared.instr.Instr.TheVariants.{Number, Truth, Show, Test, Call, Escape, Print, Jump}
use Rattle.template_code.specs.declared.instr.Instr.TheVariants.{Branch, Each, Next, Halt}

abbrev pub instr_text : Instr → List ℕ
instr_text (Emit t) = codes "Emit " ++ decimal t
instr_text (Root p) = codes "Root " ++ decimal p
instr_text (Item k p) = codes "Item " ++ (decimal k ++ (codes " " ++ decimal p))
instr_text (Index k) = codes "Index " ++ decimal k
instr_text (Key k) = codes "Key " ++ decimal k
instr_text (First k) = codes "First " ++ decimal k
instr_text (Last k) = codes "Last " ++ decimal k
instr_text (Text t) = codes "Text " ++ decimal t
instr_text (Number n) = codes "Number " ++ signed_decimal n
instr_text (Truth b) = codes "Truth " ++ truth_text b
instr_text Show = codes "Show"
instr_text Test = codes "Test"
instr_text (Call h) = codes "Call " ++ name_of h
instr_text Escape = codes "Escape"
instr_text Print = codes "Print"
instr_text (Jump a) = codes "Jump " ++ decimal a
instr_text (Branch a) = codes "Branch " ++ decimal a
instr_text (Each a) = codes "Each " ++ decimal a
instr_text (Next a) = codes "Next " ++ decimal a
instr_text Halt = codes "Halt"

-- a line, with the line feed that ends it
abbrev pub line : ℕ → Instr → List ℕ
line index i = decimal index ++ (codes " " ++ (instr_text i ++ codes "\n"))

-- the lines of instructions, the first of which has that index
abbrev pub lines_from : ℕ → List Instr → List ℕ
lines_from index [] = []
lines_from index (i ∷ is) = line index i ++ lines_from (suc index) is
