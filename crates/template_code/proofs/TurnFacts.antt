-- A run through a loop, turn by turn.
use Rattle.std.proofs.Common.{◌≡◌, ℕ, suc, ◌+◌, ◌<◌, List, [], ◌∷◌, ◌++◌, length, Some, refl}
use Rattle.std.proofs.Common.{sym, ap, arith, subst, append-nil, append_assoc}
use Rattle.std.specs.List.{flat_map}
use Rattle.std.specs.Prelude.{slice_get}
use Rattle.data_tree.specs.Tree.{Tree}
use Rattle.data_tree.specs.Parts.{items}
use Rattle.helper_set.specs.Values.{Value, a_datum}
use Rattle.template_code.specs.Code.{StackCode}
use Rattle.template_code.specs.Machine.{Loop, State}
use Rattle.template_code.specs.declared.instr.Instr.TheVariants.{Each, Next}
use Rattle.template_code.proofs.FlowFacts.{Comes, state, at_turn, comes-join, comes-to, comes-passing, comes-opening}
use Rattle.template_code.proofs.FlowFacts.{comes-again, comes-out}

-- the code of a loop: an `Each` at the index, a body of that many instructions, and the `Next` that goes back to it
pub record HasLoop (code : StackCode) (index size target : ℕ) : Type 0 where
  pub opens : slice_get code.instrs index ≡ Some (Each target)
  pub closes : slice_get code.instrs (suc index + size) ≡ Some (Next (suc index))

-- in that turn of a loop over a value, the loop's body leads from its start to its end, and writes that text
abbrev pub TurnWrites :
    StackCode → Tree → (index size : ℕ) → List Value → List Loop → (over : Tree) → (turn : ℕ)
    → List ℕ → Type 0
TurnWrites code root index size stack loops over turn text =
    (output : List ℕ) →
    Comes code root (state (suc index) stack (at_turn over turn ∷ loops) output)
    (state (suc index + size) stack (at_turn over turn ∷ loops) (output ++ text))

module _ {A : Type 0}
    (code : StackCode) (root : Tree) (index size target : ℕ) (loop : HasLoop code index size target)
    (stack : List Value) (loops : List Loop) (over : Tree) (text : A → List ℕ) where
  abbrev at : ℕ → ℕ → List ℕ → State
  at place turn output = state place stack (at_turn over turn ∷ loops) output

  abbrev after : List ℕ → State
  after output = state (suc (suc index + size)) stack loops output

  -- the same turn, by another name of its number
  by_number :
      (k n : ℕ) (written : List ℕ) → k ≡ n → TurnWrites code root index size stack loops over k written
      → TurnWrites code root index size stack loops over n written
  by_number k n written e h = subst (λ m. TurnWrites code root index size stack loops over m written) e h

  -- the turns that are left, the first of which is that one
  turns-left :
      (left : List A) (turn : A) (k : ℕ) (output : List ℕ) → suc k + length left ≡ length (items over)
      → ((j : ℕ) (t : A) → slice_get (turn ∷ left) j ≡ Some t
      → TurnWrites code root index size stack loops over (k + j) (text t))
      → Comes code root (at (suc index) k output) (after (output ++ flat_map text (turn ∷ left)))
  turns-left [] turn k output e body =
      let this = by_number (k + 0) k (text turn) (omega arith) (body 0 turn refl) output in
      comes-join code root (at (suc index) k output) (at (suc index + size) k (output ++ text turn))
      (after (output ++ flat_map text (turn ∷ []))) this
      (comes-to code root (at (suc index + size) k (output ++ text turn)) (suc (suc index + size))
      (suc (suc index + size)) stack loops (output ++ text turn) (output ++ flat_map text (turn ∷ [])) refl
      (ap (λ o. output ++ o) (sym (append-nil (text turn))))
      (comes-out code root over k (suc index) (suc index + size) stack loops (output ++ text turn) loop.closes
      (omega (arith, e))))
  turns-left (next ∷ left) turn k output e body =
      let this = by_number (k + 0) k (text turn) (omega arith) (body 0 turn refl) output in
      let between = output ++ text turn in
      comes-join code root (at (suc index) k output) (at (suc index + size) k between)
      (after (output ++ flat_map text (turn ∷ next ∷ left))) this
      (comes-join code root (at (suc index + size) k between) (at (suc index) (suc k) between)
      (after (output ++ flat_map text (turn ∷ next ∷ left)))
      (comes-again code root over k (suc index) (suc index + size) stack loops between loop.closes (omega (arith, e)))
      (comes-to code root (at (suc index) (suc k) between) (suc (suc index + size)) (suc (suc index + size)) stack loops
      (between ++ flat_map text (next ∷ left)) (output ++ flat_map text (turn ∷ next ∷ left)) refl
      (append_assoc output (text turn) (flat_map text (next ∷ left)))
      (turns-left left next (suc k) between (omega (arith, e))
      (λ j t there. by_number (k + suc j) (suc k + j) (text t) (omega arith) (body (suc j) t there)))))

  -- Over a value with items, a loop writes the texts of its turns, in order, and goes on after its `Next`. The turns
  -- are a list of anything, with a turn for each item.
  pub comes-through :
      (turns : List A) (output : List ℕ) → length turns ≡ length (items over) → 0 < length turns
      → ((k : ℕ) (turn : A) → slice_get turns k ≡ Some turn
      → TurnWrites code root index size stack loops over k (text turn))
      → Comes code root (state index (a_datum over ∷ stack) loops output) (after (output ++ flat_map text turns))
  comes-through [] output e some body = absurd (omega (arith, some))
  comes-through (turn ∷ left) output e some body =
      comes-join code root (state index (a_datum over ∷ stack) loops output) (at (suc index) 0 output)
      (after (output ++ flat_map text (turn ∷ left)))
      (comes-opening code root over target index stack loops output loop.opens (omega (arith, e, some)))
      (turns-left left turn 0 output (omega (arith, e))
      (λ j t there. by_number j (0 + j) (text t) (omega arith) (body j t there)))

  -- Over a value without items, it writes nothing and goes on at its target.
  pub comes-past :
      (turns : List A) (output : List ℕ) → length turns ≡ length (items over) → length turns ≡ 0
      → Comes code root (state index (a_datum over ∷ stack) loops output) (state target stack loops output)
  comes-past turns output e none =
      comes-passing code root over target index stack loops output loop.opens
      (empty (items over) (omega (arith, e, none)))
    where
      empty : (found : List Tree) → length found ≡ 0 → found ≡ []
      empty [] h = refl
      empty (item ∷ later) h = absurd (omega (arith, h))
