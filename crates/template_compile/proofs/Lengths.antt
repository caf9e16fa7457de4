-- The code of each part has as many instructions as the part's length.
use Rattle.std.proofs.Common.{◌≡◌, ℕ, ◌+◌, Bool, true, false, [], ◌∷◌, length, refl, sym, ap, ◌∙◌, arith, length-append}
use Rattle.helper_set.specs.Helpers.{signature_of}
use Rattle.helper_set.specs.declared.kind.Kind.{Kind}
use Rattle.helper_set.specs.declared.signature.Parameter.{Parameter}
use Rattle.helper_set.specs.declared.signature.Parameter.TheVariants.{Of}
use Rattle.template_code.specs.declared.instr.Instr.TheVariants as instrs
use Rattle.template_tags.specs.declared.expression.Datum.{Datum}
use Rattle.template_tags.specs.declared.expression.Datum.TheVariants.{Nothing, Root, Item, BodyPath}
use Rattle.template_tags.specs.Expression as expressions
use Rattle.template_tags.specs.Expression.{Expression}
use Rattle.template_tree.specs.declared.escape.Escape.{Escape}
use Rattle.template_tree.specs.declared.escape.Escape.TheVariants.{Off, Html}
use Rattle.template_tree.specs.Meaning.{second_parameter}
use Rattle.template_tree.specs.Tree.{Node, piece, print, if_then, if_else, each, each_else, Nodes, no_nodes, first_node}
use Rattle.template_compile.specs.Compiled.{Offsets, start_offsets, Gen, ◌▸◌, instructions, size, branch_over}
use Rattle.template_compile.specs.Compiled.{jump_over, each_over, again, datum_code, argument_code, expression_code}
use Rattle.template_compile.specs.Compiled.{code_for, print_instrs, negation, test_code, node_code, nodes_code}
use Rattle.template_compile.specs.Compiled.{stack_code}
use Rattle.template_compile.specs.Kinds.{expression_kind, conversion}
use Rattle.template_compile.specs.Inner.Length.{datum_length, argument_length, expression_length, length_for}
use Rattle.template_compile.specs.Inner.Length.{print_length, test_length, node_length, nodes_length}
use Rattle.template_compile.proofs.HasCode.{after_part}

-- with the `Halt` that ends it
abbrev pub code_length : Nodes → ℕ
code_length nodes = nodes_length nodes + 1

-- the part has that many instructions, wherever it begins
abbrev pub HasLength : Gen → ℕ → Type 0
HasLength f n = (offsets : Offsets) → length (f offsets).instrs ≡ n

length-join : (f g : Gen) (n m : ℕ) → HasLength f n → HasLength g m → HasLength (f ▸ g) (n + m)
length-join f g n m h k offsets =
    omega (
      arith,
      length-append (f offsets).instrs (g (after_part offsets f)).instrs,
      h offsets,
      k (after_part offsets f),
    )

pub length-print : (escape : Escape) → length (print_instrs escape) ≡ print_length escape
length-print Off = refl
length-print Html = refl

length-datum : (d : Datum) → HasLength (datum_code d) (datum_length d)
length-datum Nothing offsets = refl
length-datum (Root path) offsets = refl
length-datum (Item up steps) offsets = refl
length-datum (BodyPath text) offsets = refl

length-argument :
    (p : Parameter) (value : Gen) (n : ℕ) (kind : Kind)
    → HasLength value n → HasLength (argument_code p value kind) (argument_length p n kind)
length-argument p value n kind h =
    length-join value (instructions (conversion p kind)) n (length (conversion p kind)) h (λ offsets. refl)

pub length-expression : (e : Expression) → HasLength (expression_code e) (expression_length e)
length-expression (expressions.datum d) = length-datum d
length-expression expressions.index = λ offsets. refl
length-expression expressions.key = λ offsets. refl
length-expression expressions.first = λ offsets. refl
length-expression expressions.last = λ offsets. refl
length-expression (expressions.text_literal text) = λ offsets. refl
length-expression (expressions.number n) = λ offsets. refl
length-expression (expressions.truth b) = λ offsets. refl
length-expression (expressions.call helper e) =
    let p = (signature_of helper).first in
    length-join (argument_code p (expression_code e) (expression_kind e)) (instructions (instrs.Call helper ∷ []))
    (argument_length p (expression_length e) (expression_kind e)) 1
    (length-argument p (expression_code e) (expression_length e) (expression_kind e) (length-expression e))
    (λ offsets. refl)
length-expression (expressions.call_two helper e f) = λ offsets.
    let p = (signature_of helper).first in
    let q = second_parameter helper in
    let a = argument_length p (expression_length e) (expression_kind e) in
    let b = argument_length q (expression_length f) (expression_kind f) in
    let all =
    length-join (argument_code p (expression_code e) (expression_kind e))
    (argument_code q (expression_code f) (expression_kind f) ▸ instructions (instrs.Call helper ∷ [])) a (b + 1)
    (length-argument p (expression_code e) (expression_length e) (expression_kind e) (length-expression e))
    (length-join (argument_code q (expression_code f) (expression_kind f))
    (instructions (instrs.Call helper ∷ [])) b 1
    (length-argument q (expression_code f) (expression_length f) (expression_kind f) (length-expression f))
    (λ o. refl)) offsets in
    let e : a + (b + 1) ≡ a + b + 1 = omega arith in all ∙ e

length-code_for : (p : Parameter) (e : Expression) → HasLength (code_for p e) (length_for p e)
length-code_for p e =
    length-argument p (expression_code e) (expression_length e) (expression_kind e) (length-expression e)

length-test : (unless : Bool) (test : Expression) → HasLength (test_code unless test) (test_length unless test)
length-test true test =
    length-join (code_for (Of Kind.Truth) test) (instructions (negation true)) (length_for (Of Kind.Truth) test) 1
    (length-code_for (Of Kind.Truth) test) (λ o. refl)
length-test false test = λ offsets.
    length-join (code_for (Of Kind.Truth) test) (instructions (negation false)) (length_for (Of Kind.Truth) test) 0
    (length-code_for (Of Kind.Truth) test) (λ o. refl) offsets ∙ plus_zero (length_for (Of Kind.Truth) test)
  where
    plus_zero : (n : ℕ) → n + 0 ≡ n
    plus_zero n = omega arith

-- the same length by another sum
as_sum : (f : Gen) (n m : ℕ) → n ≡ m → HasLength f n → HasLength f m
as_sum f n m e h offsets = h offsets ∙ e

-- the jump before an else part, and the part
abbrev else_part : Nodes → Gen
else_part otherwise = jump_over (size (nodes_code otherwise)) ▸ nodes_code otherwise

length-else : (otherwise : Nodes) → HasLength (nodes_code otherwise) (nodes_length otherwise)
    → HasLength (else_part otherwise) (1 + nodes_length otherwise)
length-else otherwise long =
    length-join (jump_over (size (nodes_code otherwise))) (nodes_code otherwise) 1 (nodes_length otherwise)
    (λ o. refl) long

mutual
  pub length-node : (node : Node) → HasLength (node_code node) (node_length node)
  length-node (piece bytes) = λ offsets. refl
  length-node (print escape e) =
      length-join (code_for (Of Kind.Text) e) (instructions (print_instrs escape)) (length_for (Of Kind.Text) e)
      (print_length escape) (length-code_for (Of Kind.Text) e) (λ offsets. length-print escape)
  length-node (if_then unless test body) =
      let t = test_length unless test in
      let n = nodes_length body in
      as_sum (node_code (if_then unless test body)) (t + (1 + n)) (t + 1 + n) (omega arith)
      (length-join (test_code unless test) (branch_over (size (nodes_code body)) ▸ nodes_code body) t (1 + n)
      (length-test unless test)
      (length-join (branch_over (size (nodes_code body))) (nodes_code body) 1 n (λ o. refl) (length-nodes body)))
  length-node (if_else unless test body otherwise) =
      let t = test_length unless test in
      let n = nodes_length body in
      let m = nodes_length otherwise in
      as_sum (node_code (if_else unless test body otherwise)) (t + (1 + (n + (1 + m)))) (t + 1 + n + 1 + m)
      (omega arith)
      (length-join (test_code unless test)
      (branch_over (size (nodes_code body) + 1) ▸ nodes_code body ▸ else_part otherwise) t (1 + (n + (1 + m)))
      (length-test unless test)
      (length-join (branch_over (size (nodes_code body) + 1)) (nodes_code body ▸ else_part otherwise) 1
      (n + (1 + m)) (λ o. refl)
      (length-join (nodes_code body) (else_part otherwise) n (1 + m) (length-nodes body)
      (length-else otherwise (length-nodes otherwise)))))
  length-node (each over body) =
      let d = datum_length over in
      let n = nodes_length body in
      as_sum (node_code (each over body)) (d + (1 + (n + 1))) (d + 1 + n + 1) (omega arith)
      (length-join (datum_code over) (each_over (size (nodes_code body) + 1) ▸ nodes_code body
      ▸ again (size (nodes_code body))) d (1 + (n + 1)) (length-datum over)
      (length-join (each_over (size (nodes_code body) + 1)) (nodes_code body ▸ again (size (nodes_code body))) 1
      (n + 1) (λ o. refl)
      (length-join (nodes_code body) (again (size (nodes_code body))) n 1 (length-nodes body) (λ o. refl))))
  length-node (each_else over body otherwise) =
      let d = datum_length over in
      let n = nodes_length body in
      let m = nodes_length otherwise in
      as_sum (node_code (each_else over body otherwise)) (d + (1 + (n + (1 + (1 + m))))) (d + 1 + n + 1 + 1 + m)
      (omega arith)
      (length-join (datum_code over)
      (each_over (size (nodes_code body) + 2) ▸ nodes_code body ▸ again (size (nodes_code body))
      ▸ else_part otherwise) d (1 + (n + (1 + (1 + m)))) (length-datum over)
      (length-join (each_over (size (nodes_code body) + 2))
      (nodes_code body ▸ again (size (nodes_code body)) ▸ else_part otherwise) 1 (n + (1 + (1 + m))) (λ o. refl)
      (length-join (nodes_code body) (again (size (nodes_code body)) ▸ else_part otherwise) n (1 + (1 + m))
      (length-nodes body)
      (length-join (again (size (nodes_code body))) (else_part otherwise) 1 (1 + m) (λ o. refl)
      (length-else otherwise (length-nodes otherwise))))))

  pub length-nodes : (nodes : Nodes) → HasLength (nodes_code nodes) (nodes_length nodes)
  length-nodes no_nodes = λ offsets. refl
  length-nodes (first_node node nodes) =
      length-join (node_code node) (nodes_code nodes) (node_length node) (nodes_length nodes) (length-node node)
      (length-nodes nodes)

pub counted : (nodes : Nodes) → length (stack_code nodes).instrs ≡ code_length nodes
counted nodes =
    length-join (nodes_code nodes) (instructions (instrs.Halt ∷ [])) (nodes_length nodes) 1 (length-nodes nodes)
    (λ o. refl) start_offsets

pub sized : (nodes : Nodes) → size (nodes_code nodes) ≡ nodes_length nodes
sized nodes = length-nodes nodes start_offsets

-- the size of a part's code is its length, wherever it begins
pub sized-nodes : (nodes : Nodes) → HasLength (nodes_code nodes) (size (nodes_code nodes))
sized-nodes nodes offsets = length-nodes nodes offsets ∙ sym (sized nodes)

pub long-stack_code : (nodes : Nodes) → length (stack_code nodes).instrs ≡ size (nodes_code nodes) + 1
long-stack_code nodes = counted nodes ∙ ap (λ n. n + 1) (sym (sized nodes))
