use Rattle.std.proofs.Common.{◌≡◌, ℕ, ◌+◌, suc, ◌<◌, true, false, List, [], ◌∷◌, length, get_or}
use Rattle.std.proofs.Common.{Some, refl, sym, ap, ◌∙◌, arith}
use Rattle.std.specs.Prelude.{min, slice_get, ◌==◌, IsNone}
use Rattle.std.proofs.lemmas.Option.{slice_get-get_or}
use Rattle.template_code.specs.declared.instr.Instr.{Instr}
use Rattle.template_code.specs.declared.limits.TheConstants.{MAX_INSTRUCTIONS}
use Rattle.template_code.specs.declared.instr.Instr.TheVariants.{Emit}
use Rattle.code_verifier.proofs.PassFacts.{no_code, judged-verdict, known-start, known-violation}
use Rattle.code_verifier.proofs.PassFacts.{known-next, known-whole}
use Rattle.code_verifier.proofs.pass.pass.Goals as goal

is_zero : (n : ℕ) → true ≡ (n == 0) → n ≡ 0
is_zero n h = grind arith

is_not_zero : (n : ℕ) → false ≡ (n == 0) → 0 < n
is_not_zero n h = grind arith

is_none : (is : List Instr) → length is ≡ 0 → is ≡ []
is_none [] h = refl
is_none (i ∷ is) h = absurd (omega (arith, h))

-- what the loop looks at
here : (is js : List Instr) (index : ℕ) → js ≡ is → index < length js →
    slice_get is index ≡ Some (get_or js index (Emit 0))
here is js index e lt = ap (λ x. slice_get x index) (sym e) ∙ slice_get-get_or js index (Emit 0) lt

pub returns-then-is_empty : goal.returns-then-is_empty
returns-then-is_empty c =
    no_code c.args.code.now (sym c.instrs.ensures ∙ is_none c.instrs.result.now
    (is_zero (length c.instrs.result.now) c.if-is_empty.ensures))

pub returns-in-Some : goal.returns-in-Some
returns-in-Some c =
    let code = c.args.code.now in
    let index = c.loop-index.index in
    let known = c.loop-index.known in
    let at = here code.instrs c.instrs-instr-items.result.now index c.instrs-instr-items.ensures
    c.loop-index-test.true in
    let inside : index < length code.instrs =
    omega (arith, ap length c.instrs-instr-items.ensures, c.loop-index-test.true) in
    known-violation code index c.in-Some.rule known.stack known.loops known.targets known.cost c.loop-index.invariant
    (judged-verdict code index _ known.stack known.loops known.targets known.cost c.loop-index.invariant at _ _ refl
    inside c.in_ok-rule.ensures.rule ∙ c.in-Some.is)

pub loop-index-preserved : goal.loop-index-preserved
loop-index-preserved c =
    let code = c.args.code.now in
    let index = c.loop-index.index in
    let known = c.loop-index.known in
    let new = c.judge.new.known in
    let at = here code.instrs c.instrs-instr-items.result.now index c.instrs-instr-items.ensures
    c.loop-index-test.true in
    let inside : index < length code.instrs =
    omega (arith, ap length c.instrs-instr-items.ensures, c.loop-index-test.true) in
    let v = judged-verdict code index _ known.stack known.loops known.targets known.cost c.loop-index.invariant at _ _
    refl inside c.in_ok-rule.ensures.rule ∙ c.in_default.is in
    let e : index + 1 ≡ suc index = omega arith in
    let none : IsNone c.in_ok-rule.field-0 = rw c.in_default.is refl in
    let told = c.in_ok-rule.ensures in
    rw e (known-next code index _ known.stack known.loops known.targets known.cost c.loop-index.invariant at
    new.stack new.loops new.targets new.cost v (told.kinds none) (told.bounds none) (told.targets none)
    (told.loops none) (told.cost none) c.judge.ensures.typed)

pub returns : goal.returns
returns c =
    let code = c.args.code.now in
    let known = c.loop-index.known in
    let some : 0 < length code.instrs = rw c.instrs.ensures at
    (is_not_zero (length c.instrs.result.now) c.if-is_empty.ensures) in
    let e = ap length c.instrs-instr-items.ensures in
    known-whole code c.loop-index.index known.stack known.loops known.targets known.cost _ some
    (omega (arith, e, c.loop-index-test.false, c.loop-index.auto.index-end)) c.loop-index.invariant
    c.in_ok-of_whole.ensures

pub loop-index-init : goal.loop-index-init
loop-index-init c =
    known-start c.args.code.now c.min-count.result _ _ _ _ c.new.ensures c.new-3.ensures
    (c.min-count.ensures ∙ ap (λ is. min (length is) (suc MAX_INSTRUCTIONS)) c.instrs-2.ensures)
    c.in_ok-new.ensures c.none.ensures
