-- The code of an expression keeps the rules and pushes one slot, of the expression's kind.
use Rattle.std.proofs.Common.{◌≡◌, ℕ, suc, ◌+◌, ◌≤◌, List, [], ◌∷◌, length, refl, arith}
use Rattle.std.specs.Prelude.{max}
use Rattle.helper_set.specs.Helpers.{signature_of, result_kind}
use Rattle.helper_set.specs.declared.helper.Helper.TheVariants.{JsonPath}
use Rattle.helper_set.specs.declared.kind.Kind.{Kind}
use Rattle.helper_set.specs.declared.signature.Parameter.{Parameter}
use Rattle.template_code.specs.Code.{StackCode}
use Rattle.template_code.specs.declared.instr.Instr.{Instr}
use Rattle.template_code.specs.declared.instr.Instr.TheVariants.{Index, Key, First, Last, Number, Truth, Call}
use Rattle.template_code.specs.declared.limits.TheConstants.{MAX_SLOTS, MAX_LOOPS}
use Rattle.code_rules.specs.Bounds.{at_most, all_data}
use Rattle.template_tags.specs.Expression.{Expression, datum, index, key, first, last, text_literal, number, truth}
use Rattle.template_tags.specs.Expression.{call, call_two}
use Rattle.template_tags.specs.declared.expression.Datum.{Datum}
use Rattle.template_tags.specs.declared.expression.Datum.TheVariants as data_variants
use Rattle.template_tree.specs.Meaning.{second_parameter}
use Rattle.template_compile.specs.Kinds.{conversion, expression_kind}
use Rattle.template_compile.specs.Compiled.{◌▸◌, instructions, text_code, root_code, nothing_path}
use Rattle.template_compile.specs.Compiled.{datum_code, expression_code, code_for}
use Rattle.data_tree.specs.RootPaths.{body_path}
use Rattle.template_tags.specs.Sound.{depth_of}
use Rattle.template_tree.specs.Sound.{SoundDatum, SoundExpression}
use Rattle.template_compile.proofs.CallLayout.{kind_for, IsWanted, wants-one, wants-two, lays-conversion, lays-call}
use Rattle.template_compile.proofs.CallLayout.{lays-call_two, lays-looked_up}
use Rattle.template_compile.proofs.Heights.{cap, cap-some, cap-nine}
use Rattle.template_compile.proofs.PushLayout.{Pushes, pushes-slot, lays-pushing, names-loop, lays-root, lays-item}
use Rattle.template_compile.proofs.PushLayout.{lays-text}
use Rattle.template_compile.proofs.Stretch.{Slot, slot, Lays, lays-join}

module _ (code : StackCode) (nest : List ℕ) (shallow : length nest ≤ MAX_LOOPS) where
  pub lays-datum :
      (d : Datum) (below : List Slot)
      → SoundDatum (length nest) d → length below + 2 ≤ MAX_SLOTS
      → Lays code (datum_code d) nest below (slot Kind.Data (cap 0) ∷ below)
  lays-datum data_variants.Nothing below sound room =
      lays-root code nest shallow nothing_path (cap 0) below (omega arith) (omega arith) (omega (arith, room))
  lays-datum (data_variants.Root path) below sound room =
      lays-root code nest shallow path (cap 0) below (omega arith) (omega arith) (omega (arith, room))
  lays-datum (data_variants.Item up path) below sound room =
      lays-item code nest shallow up path (cap 0) below sound (omega arith) (omega arith) (omega (arith, room))
  lays-datum (data_variants.BodyPath bytes) below sound room =
      let body = slot Kind.Data (cap 0) in
      let spelled = slot Kind.Text (cap 0) in
      let calls = instructions (Call JsonPath ∷ []) in
      lays-join code (root_code body_path) (text_code bytes ▸ calls) nest below (body ∷ below) (body ∷ below)
      (lays-root code nest shallow body_path (cap 0) below (omega arith) (omega arith) (omega (arith, room)))
      (lays-join code (text_code bytes) calls nest (body ∷ below) (spelled ∷ body ∷ below) (body ∷ below)
      (lays-text code nest shallow bytes (cap 0) (body ∷ below) sound.0 (omega arith) (omega (arith, room)))
      (lays-looked_up code nest shallow (cap 0) below (omega arith) (omega arith) (omega (arith, room))))

  lays-simple :
      (i : Instr) (s : Slot) (below : List Slot)
      → Pushes code i nest s → s.most ≡ cap 0 → length below + 2 ≤ MAX_SLOTS
      → Lays code (instructions (i ∷ [])) nest below (s ∷ below)
  lays-simple i s below h e room =
      lays-pushing code nest shallow i s below h (omega (arith, e)) (omega (arith, room))

  lays-argument :
      (p : Parameter) (e : Expression) (below : List Slot)
      → IsWanted p → depth_of e ≤ 9 → suc (length below) ≤ MAX_SLOTS
      → Lays code (expression_code e) nest below (slot (expression_kind e) (cap (depth_of e)) ∷ below)
      → Lays code (code_for p e) nest below (slot (kind_for p (expression_kind e)) (cap (depth_of e)) ∷ below)
  lays-argument p e below w deep room h =
      let depth = depth_of e in
      lays-join code (expression_code e) (instructions (conversion p (expression_kind e))) nest below
      (slot (expression_kind e) (cap depth) ∷ below) (slot (kind_for p (expression_kind e)) (cap depth) ∷ below) h
      (lays-conversion code nest shallow p (expression_kind e) (cap depth) below w (cap-some depth)
      (omega (arith, cap-nine depth deep)) room)

  pub lays-expression :
      (e : Expression) (below : List Slot)
      → SoundExpression (length nest) e → depth_of e ≤ 9 → length below + (depth_of e + 2) ≤ MAX_SLOTS
      → Lays code (expression_code e) nest below (slot (expression_kind e) (cap (depth_of e)) ∷ below)
  lays-expression (datum d) below sound deep room = lays-datum d below sound (omega (arith, room))
  lays-expression index below sound deep room =
      lays-simple (Index 0) (slot Kind.Number (cap 0)) below
      (pushes-slot code nest shallow (Index 0) (slot Kind.Number (cap 0)) (at_most 20) refl refl refl refl
      (names-loop code nest shallow 0 sound) (λ bounds. refl) (omega arith) (λ bounds. refl))
      refl (omega (arith, room))
  lays-expression key below sound deep room =
      lays-simple (Key 0) (slot Kind.Text (cap 0)) below
      (pushes-slot code nest shallow (Key 0) (slot Kind.Text (cap 0)) all_data refl refl refl refl
      (names-loop code nest shallow 0 sound) (λ bounds. refl) (omega arith) (λ bounds. refl))
      refl (omega (arith, room))
  lays-expression first below sound deep room =
      lays-simple (First 0) (slot Kind.Truth (cap 0)) below
      (pushes-slot code nest shallow (First 0) (slot Kind.Truth (cap 0)) (at_most 5) refl refl refl refl
      (names-loop code nest shallow 0 sound) (λ bounds. refl) (omega arith) (λ bounds. refl))
      refl (omega (arith, room))
  lays-expression last below sound deep room =
      lays-simple (Last 0) (slot Kind.Truth (cap 0)) below
      (pushes-slot code nest shallow (Last 0) (slot Kind.Truth (cap 0)) (at_most 5) refl refl refl refl
      (names-loop code nest shallow 0 sound) (λ bounds. refl) (omega arith) (λ bounds. refl))
      refl (omega (arith, room))
  lays-expression (text_literal bytes) below sound deep room =
      lays-text code nest shallow bytes (cap 0) below sound (omega arith) (omega (arith, room))
  lays-expression (number n) below sound deep room =
      lays-simple (Number n) (slot Kind.Number (cap 0)) below
      (pushes-slot code nest shallow (Number n) (slot Kind.Number (cap 0)) (at_most 20) refl refl refl refl refl
      (λ bounds. refl) (omega arith) (λ bounds. refl)) refl (omega (arith, room))
  lays-expression (truth b) below sound deep room =
      lays-simple (Truth b) (slot Kind.Truth (cap 0)) below
      (pushes-slot code nest shallow (Truth b) (slot Kind.Truth (cap 0)) (at_most 5) refl refl refl refl refl
      (λ bounds. refl) (omega arith) (λ bounds. refl)) refl (omega (arith, room))
  lays-expression (call helper e) below sound deep room =
      let p = (signature_of helper).first in
      lays-join code (code_for p e) (instructions (Call helper ∷ [])) nest below
      (slot (kind_for p (expression_kind e)) (cap (depth_of e)) ∷ below)
      (slot (result_kind helper) (cap (suc (depth_of e))) ∷ below)
      (lays-argument p e below (wants-one helper sound.0) (omega (arith, deep)) (omega (arith, room))
      (lays-expression e below sound.1 (omega (arith, deep)) (omega (arith, room))))
      (lays-call code nest shallow helper (depth_of e) (expression_kind e) below sound.0 deep (omega (arith, room)))
  lays-expression (call_two helper e f) below sound deep room =
      let p = (signature_of helper).first in
      let q = second_parameter helper in
      let calls = instructions (Call helper ∷ []) in
      let one = slot (kind_for p (expression_kind e)) (cap (depth_of e)) in
      let two = slot (kind_for q (expression_kind f)) (cap (depth_of f)) in
      let made = slot (result_kind helper) (cap (suc (max (depth_of e) (depth_of f)))) in
      let wanted = wants-two helper sound.0 in
      lays-join code (code_for p e) (code_for q f ▸ calls) nest below (one ∷ below) (made ∷ below)
      (lays-argument p e below wanted.0 (omega (arith, deep)) (omega (arith, room))
      (lays-expression e below sound.1 (omega (arith, deep)) (omega (arith, room))))
      (lays-join code (code_for q f) calls nest (one ∷ below) (two ∷ one ∷ below) (made ∷ below)
      (lays-argument q f (one ∷ below) wanted.1 (omega (arith, deep)) (omega (arith, room))
      (lays-expression f (one ∷ below) sound.2 (omega (arith, deep)) (omega (arith, room))))
      (lays-call_two code nest shallow helper (depth_of e) (depth_of f) (expression_kind e)
      (expression_kind f) below sound.0 deep (omega (arith, room))))

  -- the value as a parameter wants it
  pub lays-code_for :
      (p : Parameter) (e : Expression)
      → IsWanted p → SoundExpression (length nest) e → depth_of e ≤ 9
      → Lays code (code_for p e) nest [] (slot (kind_for p (expression_kind e)) (cap (depth_of e)) ∷ [])
  lays-code_for p e w sound deep =
      lays-argument p e [] w deep (omega arith) (lays-expression e [] sound deep (omega (arith, deep)))
