-- Turns: a seat whose turn nobody has used up has made no entry.
use Rattle.std.proofs.Common.{◌≡◌, ◌≢◌, ℕ, suc, ◌+◌, ◌<◌, ◌==◌, Bool, true, false, List, [], ◌∷◌, ◌++◌, length, refl}
use Rattle.std.proofs.Common.{ap, ◌∙◌, subst, arith, eq-eqb, ne_eqb, eqb-true, append-nil}
use Rattle.std.proofs.lemmas.Bool.{eqb-false}
use Rattle.std.proofs.lemmas.List.Elements.{All-head, All-tail}
use Rattle.shared_history.specs.Entries.{own}
use Rattle.shared_history.specs.Inner.Lines.{entries_of, next_turn, turn_from, turn_of, TakesTurns, AreTurns, IsUnused}
use Rattle.shared_history.specs.declared.line.Line.{Line}
use Rattle.shared_history.proofs.Entries.{own_append, own_other}
use Rattle.shared_history.proofs.Lines.{entries_append}

module _ {O E : Type 0} where
  pub takes_push : (number index turn : ℕ) (xs : List (Line O E)) (l : Line O E) → TakesTurns number index turn xs
      → (l.entry.seat ≡ number → l.turn ≡ turn_from number index turn xs) → TakesTurns number index turn (xs ++ l ∷ [])
  takes_push number index turn [] l takes is = (is, tt)
  takes_push number index turn (x ∷ xs) l takes is =
      (takes.0, takes_push number (suc index) (next_turn number index turn x) xs l takes.1 is)

  pub turn_push : (number index turn : ℕ) (xs : List (Line O E)) (l : Line O E)
      → turn_from number index turn (xs ++ l ∷ []) ≡ next_turn number (index + length xs)
      (turn_from number index turn xs) l
  turn_push number index turn [] l = ap (λ i. next_turn number i turn l) (omega arith)
  turn_push number index turn (x ∷ xs) l =
      turn_push number (suc index) (next_turn number index turn x) xs l
      ∙ ap (λ i. next_turn number i (turn_from number (suc index) (next_turn number index turn x) xs) l) (omega arith)

  takes_rest : (number index turn : ℕ) (xs ys : List (Line O E)) → TakesTurns number index turn (xs ++ ys)
      → TakesTurns number (index + length xs) (turn_from number index turn xs) ys
  takes_rest number index turn [] ys takes = subst (λ (i : ℕ). TakesTurns number i turn ys) (omega arith) takes
  takes_rest number index turn (x ∷ xs) ys takes =
      subst (λ (i : ℕ). TakesTurns number i (turn_from number (suc index) (next_turn number index turn x) xs) ys)
      (omega arith)
      (takes_rest number (suc index) (next_turn number index turn x) xs ys takes.1)

  turn_append : (number index turn : ℕ) (xs ys : List (Line O E))
      → turn_from number index turn (xs ++ ys) ≡ turn_from number (index + length xs)
      (turn_from number index turn xs) ys
  turn_append number index turn [] ys = ap (λ i. turn_from number i turn ys) (omega arith)
  turn_append number index turn (x ∷ xs) ys =
      turn_append number (suc index) (next_turn number index turn x) xs ys
      ∙ ap (λ i. turn_from number i (turn_from number (suc index) (next_turn number index turn x) xs) ys) (omega arith)

  -- among later lines, none of which uses up the turn, none is of the seat
  none : (number index turn : ℕ) (ys : List (Line O E)) → number < index → TakesTurns number index turn ys
      → IsUnused turn ys
      → (own number (entries_of ys) ≡ []) × (turn_from number index turn ys ≡ turn)
  none number index turn [] before takes unused = (refl, refl)
  none number index turn (y ∷ ys) before takes unused =
      cases (y.entry.seat == number) refl (none number (suc index) turn ys (omega arith)) where
        cases : (b : Bool) → (y.entry.seat == number) ≡ b
            → (TakesTurns number (suc index) turn ys → IsUnused turn ys → (own number (entries_of ys) ≡ [])
            × (turn_from number (suc index) turn ys ≡ turn))
            → (own number (entries_of (y ∷ ys)) ≡ []) × (turn_from number index turn (y ∷ ys) ≡ turn)
        cases true is more =
            absurd (All-head (λ (l : Line O E). l.turn ≢ turn) y ys unused (takes.0 (eqb-true y.entry.seat number is)))
        cases false is more =
            let same : next_turn number index turn y ≡ turn = rw (is, ne_eqb index number (omega arith)) refl in
            let rest =
            more (subst (λ (t : ℕ). TakesTurns number (suc index) t ys) same takes.1)
            (All-tail (λ (l : Line O E). l.turn ≢ turn) y ys unused) in (
              own_other number y.entry (entries_of ys) (eqb-false y.entry.seat number is) ∙ rest.0,
              ap (λ t. turn_from number (suc index) t ys) same ∙ rest.1,
            )

  -- the seat's entries, and its turn, are those that a beginning has
  pub turn_kept : (xs ys : List (Line O E)) (number : ℕ) → number < length xs → AreTurns (xs ++ ys)
      → IsUnused (turn_of xs number) ys
      → (own number (entries_of (xs ++ ys)) ≡ own number (entries_of xs))
      × (turn_of (xs ++ ys) number ≡ turn_of xs number)
  turn_kept [] ys number there turns unused = absurd (omega arith)
  turn_kept (x ∷ xs) ys number there turns unused =
      let takes = takes_rest number 1 (next_turn number 0 0 x) xs ys (turns number) in
      let rest =
      none number (1 + length xs) (turn_from number 1 (next_turn number 0 0 x) xs) ys
      (omega arith) takes unused in (
        ap (own number) (entries_append (x ∷ xs) ys)
            ∙ (own_append number (entries_of (x ∷ xs)) (entries_of ys)
            ∙ (ap (λ w. own number (entries_of (x ∷ xs)) ++ w) rest.0 ∙ append-nil (own number (entries_of (x ∷ xs))))),
        turn_append number 1 (next_turn number 0 0 x) xs ys ∙ rest.1,
      )

  -- a line of a seat that takes its turn
  pub turns_push : (xs : List (Line O E)) (l : Line O E) → 0 < length xs → AreTurns xs
      → l.turn ≡ turn_of xs l.entry.seat → AreTurns (xs ++ l ∷ [])
  turns_push [] l some turns takes = absurd (omega arith)
  turns_push (x ∷ xs) l some turns takes =
      λ number. takes_push number 1 (next_turn number 0 0 x) xs l (turns number)
      (λ is. takes ∙ ap (λ n. turn_of (x ∷ xs) n) is)

  pub turn_next : (xs : List (Line O E)) (l : Line O E) → turn_of (xs ++ l ∷ []) l.entry.seat ≡ l.next
  turn_next xs l = turn_push l.entry.seat 0 0 xs l ∙ rw (eq-eqb l.entry.seat l.entry.seat refl) refl

  pub turn_child : (xs : List (Line O E)) (l : Line O E) → l.entry.seat < length xs
      → turn_of (xs ++ l ∷ []) (length xs) ≡ l.child
  turn_child xs l before =
      let here : 0 + length xs ≡ length xs = omega arith in
      turn_push (length xs) 0 0 xs l ∙ (ap (λ i. next_turn (length xs) i (turn_of xs (length xs)) l) here
      ∙ rw (ne_eqb l.entry.seat (length xs) (omega arith), eq-eqb (length xs) (length xs) refl) refl)
