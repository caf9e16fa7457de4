-- An instruction that has an effect and isn't `Halt` has a way on.
use Rattle.std.proofs.Common.{◌≡◌, ℕ, List, [], ◌∷◌, Option, Some, None, true, refl, ◌∙◌}
use Rattle.std.specs.Prelude.{is_some, option_map, option_and_then}
use Rattle.std.proofs.lemmas.Option.{none-some}
use Rattle.data_tree.specs.Tree.{Tree}
use Rattle.helper_set.specs.Values.{Value, a_datum}
use Rattle.template_code.specs.Code.{StackCode}
use Rattle.template_code.specs.Instructions.{flow}
use Rattle.template_code.specs.Machine.{Loop, State, Effect, effect, way, state_after, next_state, act}
use Rattle.template_code.specs.declared.flow.Flow.{Flow}
use Rattle.template_code.specs.declared.instr.Instr.{Instr}
use Rattle.template_code.specs.declared.instr.Instr.TheVariants.{Branch, Each, Next, Halt}

way-there : (code : StackCode) (root : Tree) (i : Instr) (index : ℕ) (loops : List Loop) (stack : List Value)
    (e : Effect) → effect code root i loops stack ≡ Some e → (flow i ≡ Flow.End → ⊥) →
    is_some (way (flow i) index loops stack) ≡ true
way-there code root (Branch a) index loops [] e h goes = absurd (none-some e h)
way-there code root (Branch a) index loops (v ∷ stack) e h goes = refl
way-there code root (Each a) index loops (a_datum t ∷ stack) e h goes = refl
way-there code root (Each a) index loops stack e h goes = absurd (none-some e h)
way-there code root (Next a) index [] stack e h goes = absurd (none-some e h)
way-there code root (Next a) index (l ∷ loops) stack e h goes = refl
way-there code root Halt index loops stack e h goes = absurd (goes refl)
way-there code root i index loops stack e h goes = refl

mapped : {A B : Type 0} (f : A → B) (o : Option A) → is_some (option_map f o) ≡ is_some o
mapped f None = refl
mapped f (Some a) = refl

pub step-there : (code : StackCode) (root : Tree) (i : Instr) (s : State) → (flow i ≡ Flow.End → ⊥) →
    is_some (act code root i s) ≡ is_some (effect code root i s.loops s.stack)
step-there code root i s goes = by (effect code root i s.loops s.stack) refl
  where
    by : (o : Option Effect) → effect code root i s.loops s.stack ≡ o →
        is_some (option_and_then (next_state (flow i) s) o) ≡ is_some o
    by None h = refl
    by (Some e) h =
        mapped (state_after s e) (way (flow i) s.index s.loops s.stack)
        ∙ way-there code root i s.index s.loops s.stack e h goes
