-- Code that is written in steps is that of the steps' sequence.
use Rattle.std.proofs.Common.{◌≡◌, ℕ, ◌+◌, Bool, [], ◌∷◌, sym, ap, ◌∙◌}
use Rattle.helper_set.specs.Helpers.{signature_of}
use Rattle.helper_set.specs.declared.helper.Helper.{Helper}
use Rattle.helper_set.specs.declared.kind.Kind.{Kind}
use Rattle.helper_set.specs.declared.signature.Parameter.{Parameter}
use Rattle.template_code.specs.Code.{StackCode}
use Rattle.template_code.specs.declared.instr.Instr.TheVariants.{Call}
use Rattle.template_tags.specs.declared.expression.Datum.{Datum}
use Rattle.template_tags.specs.Expression.{Expression, call_two}
use Rattle.template_tree.specs.Meaning.{second_parameter}
use Rattle.template_tree.specs.Tree.{Node, Nodes, first_node, if_then, if_else, each, each_else}
use Rattle.template_compile.specs.Compiled.{Gen, ◌▸◌, instructions, branch_over, jump_over, each_over, again, size}
use Rattle.template_compile.specs.Compiled.{datum_code, expression_code, code_for, test_code, node_code, nodes_code}
use Rattle.template_compile.specs.Inner.Drafts.{extended_by}
use Rattle.template_compile.specs.Kinds.{conversion, expression_kind}
use Rattle.template_compile.proofs.HasCode.{extended_by-join}

two-steps : (a b c : StackCode) (f g : Gen) → b ≡ extended_by a f → c ≡ extended_by b g →
    c ≡ extended_by a (f ▸ g)
two-steps a b c f g h k = k ∙ (ap (λ d. extended_by d g) h ∙ sym (extended_by-join a f g))

-- a step whose operand has another name
renamed : {A : Type 0} (gen : A → Gen) (x y : A) (a b : StackCode) → x ≡ y → b ≡ extended_by a (gen x) →
    b ≡ extended_by a (gen y)
renamed gen x y a b e h = h ∙ ap (λ z. extended_by a (gen z)) e

converted : (p q : Parameter) (m n : Kind) (a b : StackCode) → p ≡ q → m ≡ n →
    b ≡ extended_by a (instructions (conversion p m)) → b ≡ extended_by a (instructions (conversion q n))
converted p q m n a b e f h =
    renamed (λ k. instructions (conversion q k)) m n a b f (renamed (λ r. instructions (conversion r m)) p q a b e h)

-- a node, and then those after it
pub node-steps :
    (node : Node) (nodes : Nodes) (a b whole : StackCode)
    → b ≡ extended_by a (node_code node) → extended_by a (nodes_code (first_node node nodes)) ≡ whole
    → extended_by b (nodes_code nodes) ≡ whole
node-steps node nodes a b whole h k =
    ap (λ d. extended_by d (nodes_code nodes)) h
    ∙ (sym (extended_by-join a (node_code node) (nodes_code nodes)) ∙ k)

pub call_two-steps :
    (h : Helper) (e f : Expression) (p q : Parameter) (m n : Kind) (a b c d k l : StackCode)
    → p ≡ (signature_of h).first → q ≡ second_parameter h → m ≡ expression_kind e
    → n ≡ expression_kind f
    → b ≡ extended_by a (expression_code e) → c ≡ extended_by b (instructions (conversion p m))
    → d ≡ extended_by c (expression_code f) → k ≡ extended_by d (instructions (conversion q n))
    → l ≡ extended_by k (instructions (Call h ∷ [])) → l ≡ extended_by a (expression_code (call_two h e f))
call_two-steps h e f p q m n a b c d k l is_p is_q is_m is_n one two three four five =
    let first = (signature_of h).first in
    let second = second_parameter h in
    let made = instructions (conversion first (expression_kind e)) in
    let also = instructions (conversion second (expression_kind f)) in
    let calls = instructions (Call h ∷ []) in
    two-steps a c l (code_for first e) (code_for second f ▸ calls)
    (two-steps a b c (expression_code e) made one (converted p first m (expression_kind e) b c is_p is_m two))
    (two-steps c k l (code_for second f) calls
    (two-steps c d k (expression_code f) also three (converted q second n (expression_kind f) d k is_q is_n four)) five)

pub if-steps :
    (unless : Bool) (test : Expression) (body : Nodes) (n : ℕ) (a b c d : StackCode)
    → n ≡ size (nodes_code body) → b ≡ extended_by a (test_code unless test) → c ≡ extended_by b (branch_over n)
    → d ≡ extended_by c (nodes_code body) → d ≡ extended_by a (node_code (if_then unless test body))
if-steps unless test body n a b c d is one two three =
    let over = branch_over (size (nodes_code body)) in
    two-steps a b d (test_code unless test) (over ▸ nodes_code body) one
    (two-steps b c d over (nodes_code body) (renamed branch_over n (size (nodes_code body)) b c is two) three)

pub if_else-steps :
    (unless : Bool) (test : Expression) (body otherwise : Nodes) (m n : ℕ) (a b c d e f : StackCode)
    → m ≡ size (nodes_code body) → n ≡ size (nodes_code otherwise) → b ≡ extended_by a (test_code unless test)
    → c ≡ extended_by b (branch_over (m + 1)) → d ≡ extended_by c (nodes_code body)
    → e ≡ extended_by d (jump_over n) → f ≡ extended_by e (nodes_code otherwise)
    → f ≡ extended_by a (node_code (if_else unless test body otherwise))
if_else-steps unless test body otherwise m n a b c d e f is also one two three four five =
    let long = size (nodes_code body) in
    let rest = jump_over (size (nodes_code otherwise)) ▸ nodes_code otherwise in
    two-steps a b f (test_code unless test) (branch_over (long + 1) ▸ nodes_code body ▸ rest) one
    (two-steps b c f (branch_over (long + 1)) (nodes_code body ▸ rest)
    (renamed (λ k. branch_over (k + 1)) m long b c is two)
    (two-steps c d f (nodes_code body) rest three
    (two-steps d e f (jump_over (size (nodes_code otherwise))) (nodes_code otherwise)
    (renamed jump_over n (size (nodes_code otherwise)) d e also four) five)))

pub each-steps :
    (over : Datum) (body : Nodes) (n : ℕ) (a b c d e : StackCode)
    → n ≡ size (nodes_code body) → b ≡ extended_by a (datum_code over) → c ≡ extended_by b (each_over (n + 1))
    → d ≡ extended_by c (nodes_code body) → e ≡ extended_by d (again n)
    → e ≡ extended_by a (node_code (each over body))
each-steps over body n a b c d e is one two three four =
    let long = size (nodes_code body) in
    two-steps a b e (datum_code over) (each_over (long + 1) ▸ nodes_code body ▸ again long) one
    (two-steps b c e (each_over (long + 1)) (nodes_code body ▸ again long)
    (renamed (λ k. each_over (k + 1)) n long b c is two)
    (two-steps c d e (nodes_code body) (again long) three (renamed again n long d e is four)))

pub each_else-steps :
    (over : Datum) (body otherwise : Nodes) (m n : ℕ) (a b c d e f g : StackCode)
    → m ≡ size (nodes_code body) → n ≡ size (nodes_code otherwise) → b ≡ extended_by a (datum_code over)
    → c ≡ extended_by b (each_over (m + 2)) → d ≡ extended_by c (nodes_code body)
    → e ≡ extended_by d (again m)
    → f ≡ extended_by e (jump_over n) → g ≡ extended_by f (nodes_code otherwise)
    → g ≡ extended_by a (node_code (each_else over body otherwise))
each_else-steps over body otherwise m n a b c d e f g is also one two three four five six =
    let long = size (nodes_code body) in
    let rest = jump_over (size (nodes_code otherwise)) ▸ nodes_code otherwise in
    two-steps a b g (datum_code over) (each_over (long + 2) ▸ nodes_code body ▸ again long ▸ rest) one
    (two-steps b c g (each_over (long + 2)) (nodes_code body ▸ again long ▸ rest)
    (renamed (λ k. each_over (k + 2)) m long b c is two)
    (two-steps c d g (nodes_code body) (again long ▸ rest) three
    (two-steps d e g (again long) rest (renamed again m long d e is four)
    (two-steps e f g (jump_over (size (nodes_code otherwise))) (nodes_code otherwise)
    (renamed jump_over n (size (nodes_code otherwise)) e f also five) six))))
