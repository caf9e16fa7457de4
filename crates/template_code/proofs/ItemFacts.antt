-- A loop is open only while it is at an item.
use Rattle.std.proofs.Common.{◌≡◌, ℕ, zero, suc, ◌<◌, List, [], ◌∷◌, length, Option, Some, None, Bool, true, false}
use Rattle.std.proofs.Common.{refl, ap, subst, arith}
use Rattle.std.specs.Prelude.{slice_get, option_map, if◌then◌else◌}
use Rattle.std.proofs.lemmas.Bool.{ltb-true}
use Rattle.std.proofs.lemmas.Option.{none-some, same_Some, option_and_then_some}
use Rattle.data_tree.specs.Tree.{Tree}
use Rattle.data_tree.specs.Parts.{items}
use Rattle.helper_set.specs.Values.{Value, a_datum}
use Rattle.template_code.specs.Code.{StackCode}
use Rattle.template_code.specs.Instructions.{flow}
use Rattle.template_code.specs.Machine.{Loop, has_next, State, Effect, effect, Way, opened, closed, way, state_after}
use Rattle.template_code.specs.Machine.{next_state, act, step, advance, Reaches, first}
use Rattle.template_code.specs.declared.flow.Flow.{Flow}
use Rattle.template_code.specs.declared.instr.Instr.{Instr}

abbrev HaveItems : List Loop → Type 0
HaveItems [] = Unit {0}
HaveItems (l ∷ loops) = (l.turn < length (items l.over)) × HaveItems loops

opened-open : (a next : ℕ) (over : Tree) (found : List Tree) (loops : List Loop) → items over ≡ found →
    HaveItems loops → HaveItems (opened a next over found loops).loops
opened-open a next over [] loops e h = h
opened-open a next over (item ∷ more) loops e h = (omega (arith, ap length e), h)

abbrev again : ℕ → Loop → List Loop → Way
again start l loops = record { index = start; loops = record { over = l.over; turn = suc l.turn } ∷ loops }

abbrev left : ℕ → List Loop → Way
left next loops = record { index = next; loops = loops }

closed-open : (a next : ℕ) (l : Loop) (loops : List Loop) → HaveItems loops →
    HaveItems (closed a next l loops).loops
closed-open a next l loops h = by (has_next l) refl
  where
    one_of : Bool → Way
    one_of b = if b then again a l loops else left next loops

    by : (b : Bool) → has_next l ≡ b → HaveItems (one_of b).loops
    by true e = (ltb-true (suc l.turn) (length (items l.over)) e, h)
    by false e = h

way-open : (f : Flow) (index : ℕ) (loops : List Loop) (stack : List Value) (w : Way) →
    way f index loops stack ≡ Some w → HaveItems loops → HaveItems w.loops
way-open Flow.Straight index loops stack w g h = subst (λ (v : Way). HaveItems v.loops) (same_Some _ w g) h
way-open (Flow.Jump a) index loops stack w g h = subst (λ (v : Way). HaveItems v.loops) (same_Some _ w g) h
way-open (Flow.Branch a) index loops [] w g h = absurd (none-some w g)
way-open (Flow.Branch a) index loops (v ∷ stack) w g h =
    subst (λ (v : Way). HaveItems v.loops) (same_Some _ w g) h
way-open (Flow.Open a) index loops (a_datum t ∷ stack) w g h =
    subst (λ (v : Way). HaveItems v.loops) (same_Some _ w g) (opened-open a (suc index) t (items t) loops refl h)
way-open (Flow.Open a) index loops stack w g h = absurd (none-some w g)
way-open (Flow.Close a) index [] stack w g h = absurd (none-some w g)
way-open (Flow.Close a) index (l ∷ loops) stack w g h =
    subst (λ (v : Way). HaveItems v.loops) (same_Some _ w g) (closed-open a (suc index) l loops h.1)
way-open Flow.End index loops stack w g h = absurd (none-some w g)

came-open : (s next : State) (e : Effect) (o : Option Way) → option_map (state_after s e) o ≡ Some next →
    ((w : Way) → o ≡ Some w → HaveItems w.loops) → HaveItems next.loops
came-open s next e None g all = absurd (none-some next g)
came-open s next e (Some w) g all =
    subst (λ (t : State). HaveItems t.loops) (same_Some (state_after s e w) next g) (all w refl)

act-open : (code : StackCode) (root : Tree) (i : Instr) (s next : State) → act code root i s ≡ Some next →
    HaveItems s.loops → HaveItems next.loops
act-open code root i s next g h =
    option_and_then_some (next_state (flow i) s) (effect code root i s.loops s.stack) next g (λ e does goes.
    came-open s next e (way (flow i) s.index s.loops s.stack) goes
    (λ w is. way-open (flow i) s.index s.loops s.stack w is h))

run-open : (code : StackCode) (root : Tree) (moves : ℕ) (s last : State) →
    advance code root moves s ≡ Some last → HaveItems s.loops → HaveItems last.loops
run-open code root zero s last g h = subst (λ (t : State). HaveItems t.loops) (same_Some s last g) h
run-open code root (suc moves) s last g h =
    option_and_then_some (advance code root moves) (step code root s) last g (λ next is rest.
    option_and_then_some (λ i. act code root i s) (slice_get code.instrs s.index) next is (λ i here acts.
    run-open code root moves next last rest (act-open code root i s next acts h)))

each-open : (loops : List Loop) (k : ℕ) (l : Loop) → HaveItems loops → slice_get loops k ≡ Some l →
    l.turn < length (items l.over)
each-open [] k l h g = absurd (none-some l g)
each-open (m ∷ loops) zero l h g = subst (λ (x : Loop). x.turn < length (items x.over)) (same_Some m l g) h.0
each-open (m ∷ loops) (suc k) l h g = each-open loops k l h.1 g

pub comes-open : (code : StackCode) (root : Tree) (moves : ℕ) (s : State) → Reaches code root moves first s →
    (k : ℕ) (l : Loop) → slice_get s.loops k ≡ Some l → l.turn < length (items l.over)
comes-open code root moves s comes k l g = each-open s.loops k l (run-open code root moves first s comes tt) g
