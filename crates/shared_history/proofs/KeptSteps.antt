-- The steps keep the rule.
use Rattle.std.proofs.Common.{◌≡◌, ◌≢◌, ℕ, ◌+◌, ◌<◌, ◌≤◌, ◌==◌, Bool, true, false, List, [], ◌∷◌, ◌++◌, length}
use Rattle.std.proofs.Common.{slice_set, refl, ap, sym, subst, ◌∙◌, arith, inl, inr, length-append, None}
use Rattle.std.proofs.lemmas.Bool.Decides.{nat_tests}
use Rattle.std.proofs.lemmas.List.{append-nil, length-set}
use Rattle.std.proofs.lemmas.List.Elements.{All-push}
use mathlib.Core.List.{IsPrefix}
use prog.Atomic.{either}
use Rattle.logbook.specs.Pages.{Cell, cell, Nib, keeps, gives, adds, no_nib, may_write, step, Moves, Goes}
use Rattle.shared_history.specs.declared.line.Line.{Line}
use Rattle.shared_history.specs.Inner.Lines.{IsLegal, IsUnused}
use Rattle.shared_history.specs.Inner.Law.{IsKept, Draws, Looks, Adds}
use Rattle.shared_history.proofs.Cells.{IsHome, home_set, home_grown, home_there, head_set, head_kept, head_grown}
use Rattle.shared_history.proofs.Cells.{either_same, homes, unused}
use Rattle.shared_history.proofs.Prefixes.{prefix_whole}

module _ {O E : Type 0} (may : O → List E → E → Type 0) where
  abbrev pub shown : List (Line O E) → List (Line O E)
  shown log = []

  abbrev pub moved : List (Line O E) → List (Line O E) → ℕ → Type 0
  moved xs ys n = Unit {0}

  -- the word keeps its value
  abbrev same : List Cell → ℕ → List Cell
  same cs m = slice_set cs 0 (either ((cell cs 0).0 == m) m (cell cs 0).0, true)

  same_kept : (cs : List Cell) (log : List (Line O E)) (m : ℕ) → IsKept may cs log → IsKept may (same cs m) (log ++ [])
  same_kept cs log m kept =
      subst (IsKept may (same cs m)) (sym (append-nil log))
      (record {
        some = rw (length-set) kept.some;
        head = head_set cs (either ((cell cs 0).0 == m) m (cell cs 0).0, true) kept.some
            ∙ (ap (λ n. (n, true)) (either_same (cell cs 0).0 m ∙ ap (λ c. c.0) kept.head));
        home = homes cs (same cs m) (λ k. home_set cs 0 k (either ((cell cs 0).0 == m) m (cell cs 0).0)) log kept.home;
        begun = kept.begun;
      })

  grown_kept : (cs : List Cell) (log : List (Line O E)) → IsKept may cs log → IsKept may (cs ++ (0, false) ∷ []) log
  grown_kept cs log kept =
      record {
        some = omega (arith, length-append cs ((0, false) ∷ []), kept.some);
        head = head_grown cs (0, false) kept.some ∙ kept.head;
        home = homes cs (cs ++ (0, false) ∷ []) (home_grown cs) log kept.home;
        begun = kept.begun;
      }

  pub draw_moves : (v : List (Line O E)) (ask : Line O E)
      → Moves (IsKept may) shown moved 0 (v, (no_nib, None)) (λ n. either (n == 0) 0 n)
      (Draws may (step 0 0 0 ask) (v, (no_nib, None)))
  draw_moves v ask cs log kept pre away = (
    kept.some,
    ap (λ c. c.1) kept.head,
    (adds, [], None, tt, grown_kept (same cs 0) (log ++ []) (same_kept cs log 0 kept), inl (refl, refl), refl),
  )

  pub look_moves : (v : List (Line O E)) (ask : Line O E) (pen : Nib) → pen.right ≡ may_write
      → Moves (IsKept may) shown moved 0 (v, (pen, None)) (λ n. either (n == 0) 0 n)
      (Looks may (step 0 0 0 ask) (v, (pen, None)))
  look_moves v ask pen right cs log kept pre away =
      let kept' = same_kept cs log 0 kept in
      let free : IsUnused pen.key (log ++ []) =
      subst (IsUnused pen.key) (sym (append-nil log)) (unused cs pen.key (away right).1 log kept.home) in
      (kept.some, ap (λ c. c.1) kept.head, (keeps, [], None, tt, kept', inl (refl, refl), (refl, free)))

  module _ (v : List (Line O E)) (l : Line O E) (count : ℕ) (pen : Nib) (right : pen.right ≡ may_write)
      (turn : l.turn ≡ pen.key) (long : count ≤ length v)
      (allowed : length v ≡ count → IsUnused pen.key v → IsLegal may (v ++ l ∷ [])) where
    added : (cs : List Cell) (log : List (Line O E)) → IsKept may cs log → IsPrefix v log → (pen.key < length cs)
        × ((cell cs pen.key).1 ≡ false)
        → (b : Bool) → ((cell cs 0).0 == count) ≡ b
        → Goes (IsKept may) shown moved 0 (v, (pen, None)) (λ n. either (n == count) (count + 1) n)
        (Adds may (step 0 count (count + 1) l) (v, (pen, None))) cs log
    added cs log kept pre away true is =
        let here : (cell cs 0).0 ≡ count = grind (arith, nat_tests) in
        let so_long : length log ≡ count = sym (ap (λ c. c.0) kept.head) ∙ here in
        let whole : v ≡ log = prefix_whole v log pre (omega arith) in
        let free : IsUnused pen.key v = subst (IsUnused pen.key) (sym whole) (unused cs pen.key away.1 log kept.home) in
        let set : List Cell = slice_set cs 0 (count + 1, true) in
        let home : List Cell = slice_set set pen.key (pen.value, true) in
        let other : pen.key ≢ 0 =
        λ zero_key. absurd (cc (ap (λ k. (cell cs k).1) zero_key, away.1, ap (λ c. c.1) kept.head)) in
        let all : IsKept may home (log ++ l ∷ []) =
        record {
          some = rw (length-set) (rw (length-set) kept.some);
          head = head_kept set pen.key (pen.value, true) other
              ∙ (head_set cs (count + 1, true) kept.some
              ∙ ap (λ n. (n, true)) (omega (arith, so_long, length-append log (l ∷ []))));
          home = All-push (λ (m : Line O E). IsHome home m.turn) log l
              (homes cs home (λ k h. home_set set pen.key k pen.value (home_set cs 0 k (count + 1) h)) log kept.home)
              (subst (IsHome home) (sym turn) (home_there set pen.key pen.value (rw (length-set) away.0)));
          begun = inr
              (subst (λ (w : List (Line O E)). IsLegal may (w ++ l ∷ [])) whole
              (allowed (ap length whole ∙ so_long) free));
        } in (
          gives,
          l ∷ [],
          None,
          right,
          rw is all,
          inl (refl, refl),
          rw is (ap length whole ∙ so_long, free, ap (λ w. w ++ l ∷ []) (sym whole)),
        )
    added cs log kept pre away false is =
        let kept' : IsKept may (slice_set cs 0 ((cell cs 0).0, true)) log =
        record {
          some = rw (length-set) kept.some;
          head = head_set cs ((cell cs 0).0, true) kept.some ∙ ap (λ n. (n, true)) (ap (λ c. c.0) kept.head);
          home = homes cs (slice_set cs 0 ((cell cs 0).0, true)) (λ k. home_set cs 0 k (cell cs 0).0) log kept.home;
          begun = kept.begun;
        } in (
          keeps,
          [],
          None,
          tt,
          rw is (subst (IsKept may (slice_set cs 0 ((cell cs 0).0, true))) (sym (append-nil log)) kept'),
          inl (refl, refl),
          rw is tt,
        )

    pub add_moves : Moves (IsKept may) shown moved 0 (v, (pen, None)) (λ n. either (n == count) (count + 1) n)
        (Adds may (step 0 count (count + 1) l) (v, (pen, None)))
    add_moves cs log kept pre away =
        (kept.some, ap (λ c. c.1) kept.head, added cs log kept pre (away right) ((cell cs 0).0 == count) refl)
