-- Each run of an expression's code pushes the expression's value.
use Rattle.std.proofs.Common.{◌≡◌, ◌<◌, ℕ, pos, nat_eq, List, [], ◌∷◌, length, Option, Some, None}
use Rattle.std.proofs.Common.{refl, ap, arith, subst}
use Rattle.std.specs.Option.{option_map_or}
use Rattle.data_tree.specs.Tree.{Tree, nothing}
use Rattle.data_tree.specs.LookUp.{at, EmptyNameFindsNothing}
use Rattle.data_tree.specs.declared.step.Step.{Step}
use Rattle.data_tree.proofs.Lookups.{at_empty_name}
use Rattle.json_bridge.specs.PathFound.{path_of}
use Rattle.helper_set.specs.Helpers.{signature_of}
use Rattle.helper_set.specs.Values.{Value, a_datum, a_text, a_number, a_truth, kind_of, text_of, truth_of}
use Rattle.helper_set.specs.declared.helper.Helper.TheVariants.{JsonPath}
use Rattle.helper_set.specs.declared.kind.Kind.{Kind}
use Rattle.helper_set.specs.declared.signature.Parameter.{Parameter}
use Rattle.helper_set.specs.declared.signature.Parameter.TheVariants.{Any, NoText, DataOrText, Of}
use Rattle.template_code.specs.Code.{StackCode}
use Rattle.template_code.specs.Machine.{Loop, with_stack, effect}
use Rattle.template_code.specs.declared.instr.Instr.TheVariants.{Index, Key, First, Last, Number, Truth, Show, Test}
use Rattle.template_code.specs.declared.instr.Instr.TheVariants.{Call}
use Rattle.template_tags.specs.Expression.{Expression, datum, index, key, first, last, text_literal, number, truth}
use Rattle.template_tags.specs.Expression.{call, call_two}
use Rattle.template_tags.specs.declared.expression.Datum.{Datum}
use Rattle.template_tags.specs.declared.expression.Datum.TheVariants as data_variants
use Rattle.template_tree.specs.Meaning.{Turn, item_at, body_data, datum_at, converted, second_parameter, value_of}
use Rattle.template_compile.specs.Kinds.{conversion, expression_kind}
use Rattle.template_compile.specs.Compiled.{◌▸◌, instructions, text_code, root_code, nothing_path}
use Rattle.data_tree.specs.RootPaths.{body_path}
use Rattle.template_compile.specs.Compiled.{datum_code, expression_code, code_for}
use Rattle.template_tree.specs.Sound.{SoundDatum, SoundExpression}
use Rattle.template_compile.proofs.Calls.{call-one, call-two, kind-one, kind-two}
use Rattle.template_compile.proofs.Fits.{LoopsFit, fits-item}
use Rattle.template_compile.proofs.Goes.{Goes, goes-nothing, goes-then, goes-instr, goes-text, goes-root, goes-item}

-- what the machine looks up for a JSON path is what the path means
found-same :
    (bytes : List ℕ) (tree : Tree) (turns : List Turn)
    → option_map_or (λ path. at path (body_data tree)) (path_of bytes) nothing
    ≡ datum_at (data_variants.BodyPath bytes) tree turns
found-same bytes tree turns = by (path_of bytes) refl
  where
    by : (o : Option (List Step)) → path_of bytes ≡ o →
        option_map_or (λ path. at path (body_data tree)) (path_of bytes) nothing
        ≡ datum_at (data_variants.BodyPath bytes) tree turns
    by None e = rw e refl
    by (Some path) e = rw e refl

-- the value has the kind that its expression says
pub kind-of_value :
    (e : Expression) (tree : Tree) (turns : List Turn) → SoundExpression (length turns) e
    → kind_of (value_of e tree turns) ≡ expression_kind e
kind-of_value (datum d) tree turns sound = refl
kind-of_value index tree [] sound = absurd (omega (arith, sound))
kind-of_value index tree (t ∷ turns) sound = refl
kind-of_value key tree [] sound = absurd (omega (arith, sound))
kind-of_value key tree (t ∷ turns) sound = refl
kind-of_value first tree [] sound = absurd (omega (arith, sound))
kind-of_value first tree (t ∷ turns) sound = refl
kind-of_value last tree [] sound = absurd (omega (arith, sound))
kind-of_value last tree (t ∷ turns) sound = refl
kind-of_value (text_literal bytes) tree turns sound = refl
kind-of_value (number n) tree turns sound = refl
kind-of_value (truth b) tree turns sound = refl
kind-of_value (call helper e) tree turns sound = kind-one helper (value_of e tree turns) sound.0
kind-of_value (call_two helper e f) tree turns sound =
    kind-two helper (value_of e tree turns) (value_of f tree turns) sound.0

module _ (code : StackCode) (tree : Tree) (loops : List Loop) where
  goes-shown :
      (v : Value) (stack : List Value)
      → effect code tree Show loops (v ∷ stack) ≡ Some (with_stack (a_text (text_of v) ∷ stack))
      → Goes code tree (instructions (Show ∷ [])) loops (v ∷ stack) (a_text (text_of v) ∷ stack) []
  goes-shown v stack does = goes-instr code tree loops Show (v ∷ stack) (a_text (text_of v) ∷ stack) refl does

  goes-tested : (v : Value) (stack : List Value)
      → Goes code tree (instructions (Test ∷ [])) loops (v ∷ stack) (a_truth (truth_of v) ∷ stack) []
  goes-tested v stack = goes-instr code tree loops Test (v ∷ stack) (a_truth (truth_of v) ∷ stack) refl refl

  -- a value becomes what its parameter wants
  goes-conversion :
      (p : Parameter) (v : Value) (stack : List Value)
      → Goes code tree (instructions (conversion p (kind_of v))) loops (v ∷ stack) (converted p v ∷ stack) []
  goes-conversion (Of Kind.Text) (a_text s) stack = goes-nothing code tree loops (a_text s ∷ stack)
  goes-conversion (Of Kind.Text) (a_datum t) stack = goes-shown (a_datum t) stack refl
  goes-conversion (Of Kind.Text) (a_number n) stack = goes-shown (a_number n) stack refl
  goes-conversion (Of Kind.Text) (a_truth b) stack = goes-shown (a_truth b) stack refl
  goes-conversion (Of Kind.Truth) (a_truth b) stack = goes-nothing code tree loops (a_truth b ∷ stack)
  goes-conversion (Of Kind.Truth) (a_datum t) stack = goes-tested (a_datum t) stack
  goes-conversion (Of Kind.Truth) (a_text s) stack = goes-tested (a_text s) stack
  goes-conversion (Of Kind.Truth) (a_number n) stack = goes-tested (a_number n) stack
  goes-conversion DataOrText (a_number n) stack = goes-shown (a_number n) stack refl
  goes-conversion DataOrText (a_truth b) stack = goes-shown (a_truth b) stack refl
  goes-conversion DataOrText (a_datum t) stack = goes-nothing code tree loops (a_datum t ∷ stack)
  goes-conversion DataOrText (a_text s) stack = goes-nothing code tree loops (a_text s ∷ stack)
  goes-conversion Any v stack = goes-nothing code tree loops (v ∷ stack)
  goes-conversion NoText v stack = goes-nothing code tree loops (v ∷ stack)
  goes-conversion (Of Kind.Data) v stack = goes-nothing code tree loops (v ∷ stack)
  goes-conversion (Of Kind.Number) v stack = goes-nothing code tree loops (v ∷ stack)

  -- the same, by the kind that is known of the value
  pub goes-converted :
      (p : Parameter) (kind : Kind) (v : Value) (stack : List Value) → kind_of v ≡ kind
      → Goes code tree (instructions (conversion p kind)) loops (v ∷ stack) (converted p v ∷ stack) []
  goes-converted p kind v stack is =
      subst (λ k. Goes code tree (instructions (conversion p k)) loops (v ∷ stack) (converted p v ∷ stack) []) is
      (goes-conversion p v stack)

  module _ (turns : List Turn) (fits : LoopsFit loops turns) (empty : EmptyNameFindsNothing tree) where
    pub goes-datum :
        (d : Datum) (stack : List Value) → SoundDatum (length turns) d
        → Goes code tree (datum_code d) loops stack (a_datum (datum_at d tree turns) ∷ stack) []
    goes-datum data_variants.Nothing stack sound =
        subst (λ t. Goes code tree (root_code nothing_path) loops stack (a_datum t ∷ stack) [])
        (at_empty_name tree empty) (goes-root code tree loops nothing_path stack)
    goes-datum (data_variants.Root path) stack sound = goes-root code tree loops path stack
    goes-datum (data_variants.Item up path) stack sound =
        let l = fits-item loops turns up fits sound in
        goes-item code tree loops up path stack (item_at up turns) l.0 l.1 l.2
    goes-datum (data_variants.BodyPath bytes) stack sound =
        let body = a_datum (at body_path tree) ∷ stack in
        let found = a_datum (datum_at (data_variants.BodyPath bytes) tree turns) ∷ stack in
        goes-then code tree loops (root_code body_path) (text_code bytes ▸ instructions (Call JsonPath ∷ []))
        stack body found []
        (goes-root code tree loops body_path stack)
        (goes-then code tree loops (text_code bytes) (instructions (Call JsonPath ∷ [])) body
        (a_text bytes ∷ body) found []
        (goes-text code tree loops bytes body)
        (goes-instr code tree loops (Call JsonPath) (a_text bytes ∷ body) found refl
        (ap (λ t. Some (with_stack (a_datum t ∷ stack))) (found-same bytes tree turns))))

    goes-argument :
        (p : Parameter) (e : Expression) (stack : List Value)
        → Goes code tree (expression_code e) loops stack (value_of e tree turns ∷ stack) []
        → SoundExpression (length turns) e
        → Goes code tree (code_for p e) loops stack (converted p (value_of e tree turns) ∷ stack) []
    goes-argument p e stack runs sound =
        let v = value_of e tree turns in
        goes-then code tree loops (expression_code e) (instructions (conversion p (expression_kind e))) stack
        (v ∷ stack)
        (converted p v ∷ stack) [] runs
        (goes-converted p (expression_kind e) v stack (kind-of_value e tree turns sound))

    pub goes-expression :
        (e : Expression) (stack : List Value) → SoundExpression (length turns) e
        → Goes code tree (expression_code e) loops stack (value_of e tree turns ∷ stack) []
    goes-expression (datum d) stack sound = goes-datum d stack sound
    goes-expression index stack sound =
        goes-instr code tree loops (Index 0) stack (value_of index tree turns ∷ stack) refl
        (of-index loops turns fits sound)
      where
        of-index : (ls : List Loop) (ts : List Turn) → LoopsFit ls ts → 0 < length ts →
            effect code tree (Index 0) ls stack ≡ Some (with_stack (value_of index tree ts ∷ stack))
        of-index ls [] f some = absurd (omega (arith, some))
        of-index [] (t ∷ ts) f some = absurd f
        of-index (l ∷ ls) (t ∷ ts) f some =
            ap (λ n. Some (with_stack (a_number (pos n) ∷ stack))) f.0.index
    goes-expression key stack sound =
        goes-instr code tree loops (Key 0) stack (value_of key tree turns ∷ stack) refl
        (of-key loops turns fits sound)
      where
        of-key : (ls : List Loop) (ts : List Turn) → LoopsFit ls ts → 0 < length ts →
            effect code tree (Key 0) ls stack ≡ Some (with_stack (value_of key tree ts ∷ stack))
        of-key ls [] f some = absurd (omega (arith, some))
        of-key [] (t ∷ ts) f some = absurd f
        of-key (l ∷ ls) (t ∷ ts) f some = ap (λ s. Some (with_stack (a_text s ∷ stack))) f.0.key
    goes-expression first stack sound =
        goes-instr code tree loops (First 0) stack (value_of first tree turns ∷ stack) refl
        (of-first loops turns fits sound)
      where
        of-first : (ls : List Loop) (ts : List Turn) → LoopsFit ls ts → 0 < length ts →
            effect code tree (First 0) ls stack ≡ Some (with_stack (value_of first tree ts ∷ stack))
        of-first ls [] f some = absurd (omega (arith, some))
        of-first [] (t ∷ ts) f some = absurd f
        of-first (l ∷ ls) (t ∷ ts) f some =
            ap (λ n. Some (with_stack (a_truth (nat_eq n 0) ∷ stack))) f.0.index
    goes-expression last stack sound =
        goes-instr code tree loops (Last 0) stack (value_of last tree turns ∷ stack) refl
        (of-last loops turns fits sound)
      where
        of-last : (ls : List Loop) (ts : List Turn) → LoopsFit ls ts → 0 < length ts →
            effect code tree (Last 0) ls stack ≡ Some (with_stack (value_of last tree ts ∷ stack))
        of-last ls [] f some = absurd (omega (arith, some))
        of-last [] (t ∷ ts) f some = absurd f
        of-last (l ∷ ls) (t ∷ ts) f some = ap (λ b. Some (with_stack (a_truth b ∷ stack))) f.0.is_last
    goes-expression (text_literal bytes) stack sound = goes-text code tree loops bytes stack
    goes-expression (number n) stack sound =
        goes-instr code tree loops (Number n) stack (a_number n ∷ stack) refl refl
    goes-expression (truth b) stack sound = goes-instr code tree loops (Truth b) stack (a_truth b ∷ stack) refl refl
    goes-expression (call helper e) stack sound =
        let v = value_of e tree turns in
        let p = (signature_of helper).first in
        let made = value_of (call helper e) tree turns ∷ stack in
        goes-then code tree loops (code_for p e) (instructions (Call helper ∷ [])) stack
        (converted p v ∷ stack) made []
        (goes-argument p e stack (goes-expression e stack sound.1) sound.1)
        (goes-instr code tree loops (Call helper) (converted p v ∷ stack) made refl
        (call-one code tree loops stack helper v sound.0))
    goes-expression (call_two helper e f) stack sound =
        let v = value_of e tree turns in
        let w = value_of f tree turns in
        let p = (signature_of helper).first in
        let q = second_parameter helper in
        let calls = instructions (Call helper ∷ []) in
        let below = converted p v ∷ stack in
        let made = value_of (call_two helper e f) tree turns ∷ stack in
        goes-then code tree loops (code_for p e) (code_for q f ▸ calls) stack below made []
        (goes-argument p e stack (goes-expression e stack sound.1) sound.1)
        (goes-then code tree loops (code_for q f) calls below (converted q w ∷ below) made []
        (goes-argument q f below (goes-expression f below sound.2) sound.2)
        (goes-instr code tree loops (Call helper) (converted q w ∷ below) made refl
        (call-two code tree loops stack helper v w sound.0)))

    -- the value as a parameter wants it
    pub goes-code_for :
        (p : Parameter) (e : Expression) (stack : List Value) → SoundExpression (length turns) e
        → Goes code tree (code_for p e) loops stack (converted p (value_of e tree turns) ∷ stack) []
    goes-code_for p e stack sound = goes-argument p e stack (goes-expression e stack sound) sound
