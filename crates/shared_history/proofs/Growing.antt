-- Legal histories grow by an entry of a seat that takes its turn.
use Rattle.std.proofs.Common.{◌≡◌, ◌≢◌, ℕ, suc, ◌+◌, ◌<◌, ◌≤◌, ◌==◌, Bool, true, false, List, [], ◌∷◌, ◌++◌, length}
use Rattle.std.proofs.Common.{All, refl, ap, sym, ◌∙◌, subst, arith, eqb-true, append-nil, append_assoc, length-append}
use Rattle.std.proofs.lemmas.Bool.{eqb-false}
use Rattle.std.proofs.lemmas.List.Elements.{All-nil, All-cons, All-head}
use Rattle.std.proofs.lemmas.Option.{slice_get_within}
use mathlib.Core.List.{IsPrefix}
use Rattle.shared_history.specs.Entries.{entry, opening, own, is_left, IsSeat}
use Rattle.shared_history.specs.History.{MayDo, GoesOn, IsHistory, MayFollow, HasEnded, HasLeft, IsWhole}
use Rattle.shared_history.specs.Inner.Drafts.{silent_deed}
use Rattle.shared_history.specs.Inner.Lines.{entries_of, line, turn_of, AreTurns, IsUnused, IsLegal, HasTurn}
use Rattle.shared_history.specs.Inner.Kept.{IsWritten}
use Rattle.shared_history.specs.Sight.{IsIn}
use Rattle.shared_history.specs.declared.entry.Deed.{Deed}
use Rattle.shared_history.specs.declared.entry.Deed.TheVariants.{Opened, Called, Looked, Split, Left}
use Rattle.shared_history.specs.declared.entry.Entry.{Entry}
use Rattle.shared_history.specs.declared.line.Line.{Line}
use Rattle.shared_history.specs.declared.line.Silent.{Silent}
use Rattle.shared_history.specs.declared.line.Silent.TheVariants as silent
use Rattle.shared_history.proofs.Entries.{own_append, own_it, own_other, seat_kept, seat_after, seat_made}
use Rattle.shared_history.proofs.Lines.{entries_append, prefix_entries, entries_length, all_rest, all_front}
use Rattle.shared_history.proofs.Prefixes.{prefix_whole, prefix_trans, prefix_shorter}
use Rattle.shared_history.proofs.Turns.{turn_kept, turns_push, turn_next, turn_child}

module _ {O E : Type 0} (may : O → List E → E → Type 0) where
  goes_push : (origin : O) (before after : List (Entry O E)) (e : Entry O E) → GoesOn may origin before after
      → IsSeat (before ++ after) e.seat
      → MayDo may origin (before ++ after) e.deed → GoesOn may origin before (after ++ e ∷ [])
  goes_push origin before [] e goes seat may_do = (
    subst (λ (w : List (Entry O E)). IsSeat w e.seat) (append-nil before) seat,
    subst (λ (w : List (Entry O E)). MayDo may origin w e.deed) (append-nil before) may_do,
    tt,
  )
  goes_push origin before (x ∷ after) e goes seat may_do =
      let all : (before ++ x ∷ []) ++ after ≡ before ++ x ∷ after = append_assoc before (x ∷ []) after in (
        goes.0,
        goes.1,
        goes_push origin (before ++ x ∷ []) after e goes.2
            (subst (λ (w : List (Entry O E)). IsSeat w e.seat) (sym all) seat)
            (subst (λ (w : List (Entry O E)). MayDo may origin w e.deed) (sym all) may_do),
      )

  goes_rest : (origin : O) (before xs ys : List (Entry O E)) → GoesOn may origin before (xs ++ ys)
      → GoesOn may origin (before ++ xs) ys
  goes_rest origin before [] ys goes =
      subst (λ (w : List (Entry O E)). GoesOn may origin w ys) (sym (append-nil before)) goes
  goes_rest origin before (x ∷ xs) ys goes =
      subst (λ (w : List (Entry O E)). GoesOn may origin w ys) (append_assoc before (x ∷ []) xs)
      (goes_rest origin (before ++ x ∷ []) xs ys goes.2)

  abbrev origin_in : O → List (Entry O E) → O
  origin_in other [] = other
  origin_in other (e ∷ log) =
      elim e.deed [ Opened origin ↦ origin | Called event ↦ other | Looked ↦ other | Split ↦ other | Left ↦ other ]

  -- the same list opens with one origin
  pub one_origin : (first other : O) (xs ys : List (Entry O E)) → opening first ∷ xs ≡ opening other ∷ ys
      → first ≡ other
  one_origin first other xs ys is = ap (origin_in first) is

  pub history_push : (log : List (Entry O E)) (e : Entry O E) → IsHistory may log → IsSeat log e.seat
      → MayFollow may log e.deed → IsHistory may (log ++ e ∷ [])
  history_push log e history seat follow =
      let same : follow.origin ≡ history.origin =
      one_origin follow.origin history.origin follow.after history.after (sym follow.opens ∙ history.opens) in
      record {
        origin = history.origin;
        after = history.after ++ e ∷ [];
        opens = ap (λ w. w ++ e ∷ []) history.opens;
        goes_on = goes_push history.origin (opening history.origin ∷ []) history.after e history.goes_on
            (subst (λ (w : List (Entry O E)). IsSeat w e.seat) history.opens seat)
            (subst (λ (w : List (Entry O E)). MayDo may history.origin w e.deed) history.opens
            (subst (λ (o : O). MayDo may o log e.deed) same follow.allowed));
      }

  -- entries are of seats that were made before
  fresh_after : (origin : O) (before after : List (Entry O E)) (number : ℕ) → length before + length after ≤ number
      → GoesOn may origin before after → own number after ≡ []
  fresh_after origin before [] number long goes = refl
  fresh_after origin before (x ∷ after) number long goes =
      let made : x.seat < length before = slice_get_within before x.seat goes.0.maker goes.0.stands in
      own_other number x after (omega (arith, made, long))
      ∙ fresh_after origin (before ++ x ∷ []) after number (omega (arith, length-append before (x ∷ []), long)) goes.2

  pub fresh : (log : List (Entry O E)) → IsHistory may log → (number : ℕ) → length log ≤ number → own number log ≡ []
  fresh log history number long =
      let count : length log ≡ suc (length history.after) = ap length history.opens in
      ap (own number) history.opens
      ∙ (own_other number (opening history.origin) history.after (omega (arith, count, long))
      ∙ fresh_after history.origin (opening history.origin ∷ []) history.after number
      (omega (arith, count, long)) history.goes_on)

  -- who has left makes no entry
  gone_after : (origin : O) (before after : List (Entry O E)) (number : ℕ)
      → ¬ All (λ (e : Entry O E). is_left e.deed ≡ false) (own number before)
      → GoesOn may origin before after → own number after ≡ []
  gone_after origin before [] number gone goes = refl
  gone_after origin before (x ∷ after) number gone goes =
      cases (x.seat == number) refl (λ still. gone_after origin (before ++ x ∷ []) after number still goes.2) where
        cases : (b : Bool) → (x.seat == number) ≡ b
            → (¬ All (λ (e : Entry O E). is_left e.deed ≡ false) (own number (before ++ x ∷ []))
            → own number after ≡ []) → own number (x ∷ after) ≡ []
        cases true is more =
            absurd (gone
            (subst (λ (n : ℕ). All (λ (e : Entry O E). is_left e.deed ≡ false) (own n before))
            (eqb-true x.seat number is) goes.0.stays))
        cases false is more =
            let other : x.seat ≢ number = eqb-false x.seat number is in
            let same : own number (before ++ x ∷ []) ≡ own number before = own_append number before (x ∷ [])
            ∙ (ap (λ w. own number before ++ w) (own_other number x [] other) ∙ append-nil (own number before)) in
            own_other number x after other
            ∙ more (subst (λ (w : List (Entry O E)). ¬ All (λ (e : Entry O E). is_left e.deed ≡ false) w)
            (sym same) gone)

  -- a longer history goes on from the shorter
  rest_of : (log : List (Entry O E)) → IsHistory may log → (later : List (Entry O E)) → (longer : IsHistory may later)
      → (pre : IsPrefix log later) → GoesOn may longer.origin log pre.0
  rest_of log history later longer pre =
      let opens : opening history.origin ∷ (history.after ++ pre.0) ≡ opening longer.origin ∷ longer.after =
      sym (ap (λ w. w ++ pre.0) history.opens) ∙ (pre.1 ∙ longer.opens) in
      let tail : history.after ++ pre.0 ≡ longer.after = cc opens in
      let goes : GoesOn may longer.origin (opening longer.origin ∷ []) (history.after ++ pre.0) =
      subst (λ (w : List (Entry O E)). GoesOn may longer.origin (opening longer.origin ∷ []) w)
      (sym tail) longer.goes_on in
      let origin : history.origin ≡ longer.origin =
      one_origin history.origin longer.origin (history.after ++ pre.0) longer.after opens in
      subst (λ (w : List (Entry O E)). GoesOn may longer.origin w pre.0)
      (ap (λ o. opening o ∷ history.after) (sym origin) ∙ sym history.opens)
      (goes_rest longer.origin (opening longer.origin ∷ []) history.after pre.0 goes)

  pub has_left : (log : List (Entry O E)) (number : ℕ) → IsHistory may log
      → ¬ All (λ (e : Entry O E). is_left e.deed ≡ false) (own number log) → HasLeft may log number
  has_left log number history gone later longer pre =
      let from : GoesOn may longer.origin log pre.0 = rest_of log history later longer pre in
      sym (ap (own number) pre.1)
      ∙ (own_append number log pre.0
      ∙ (ap (λ w. own number log ++ w) (gone_after longer.origin log pre.0 number gone from)
      ∙ append-nil (own number log)))

  -- after a history that has ended no entry may come
  pub is_whole : (log : List (Entry O E)) → IsHistory may log → HasEnded log → IsWhole may log
  is_whole log history ended later longer pre = none pre.0 pre.1 (rest_of log history later longer pre) where
    none : (rest : List (Entry O E)) → log ++ rest ≡ later → GoesOn may longer.origin log rest → later ≡ log
    none [] is goes = sym is ∙ append-nil log
    none (x ∷ rest) is goes = absurd (ended x.seat goes.0)

  -- ---- lines

  -- a seat whose turn nobody has used up, in a longer history
  pub has_kept : (xs ys : List (Line O E)) (number key : ℕ) → HasTurn may xs number key → IsLegal may ys
      → IsPrefix xs ys → IsUnused key ys
      → HasTurn may ys number key × (own number (entries_of ys) ≡ own number (entries_of xs))
  has_kept xs ys number key has legal pre unused =
      let there : number < length xs =
      omega (arith, entries_length xs, slice_get_within (entries_of xs) number has.seat.maker has.seat.stands) in
      let rest : IsUnused (turn_of xs number) pre.0 =
      subst (λ (k : ℕ). IsUnused k pre.0) (sym has.turn)
      (all_rest (λ (l : Line O E). l.turn ≢ key) xs pre.0 (subst (IsUnused key) (sym pre.1) unused)) in
      let kept =
      turn_kept xs pre.0 number there (subst (λ (w : List (Line O E)). AreTurns w) (sym pre.1) legal.turns) rest in
      let same : own number (entries_of ys) ≡ own number (entries_of xs) =
      ap (λ w. own number (entries_of w)) (sym pre.1) ∙ kept.0 in (
        record {
          legal = legal;
          seat = seat_kept (entries_of xs) (entries_of ys) number has.seat (prefix_entries xs ys pre) same;
          turn = ap (λ w. turn_of w number) (sym pre.1) ∙ (kept.1 ∙ has.turn);
        },
        same,
      )

  legal_push : (xs : List (Line O E)) (l : Line O E) (key : ℕ) → HasTurn may xs l.entry.seat key → l.turn ≡ key
      → MayFollow may (entries_of xs) l.entry.deed
      → IsLegal may (xs ++ l ∷ [])
  legal_push xs l key has takes follow =
      let there : l.entry.seat < length xs =
      omega (
        arith,
        entries_length xs,
        slice_get_within (entries_of xs) l.entry.seat has.seat.maker has.seat.stands,
      ) in
      record {
        history =
            subst (IsHistory may) (sym (entries_append xs (l ∷ [])))
            (history_push (entries_of xs) l.entry has.legal.history has.seat follow);
        turns = turns_push xs l (omega (arith, there)) has.legal.turns (takes ∙ sym has.turn);
      }

  -- a line of a seat that takes its turn, after all that there is
  pub may_add : (whole seen all : List (Line O E)) (count number key next child : ℕ) (deed : Deed O E)
      → count ≡ length whole → IsLegal may whole → HasTurn may seen number key
      → IsPrefix whole all → IsPrefix seen all → MayFollow may (entries_of whole) deed
      → length all ≡ count → IsUnused key all → IsLegal may (all ++ line number deed key next child ∷ [])
  may_add whole seen all count number key next child deed counted legal has pre sees follow long unused =
      let same : whole ≡ all = prefix_whole whole all pre (omega (arith, counted, long)) in
      let here = has_kept seen all number key has (subst (IsLegal may) same legal) sees unused in
      legal_push all (line number deed key next child) key here.0 refl
      (subst (λ (w : List (Line O E)). MayFollow may (entries_of w) deed) same follow)

  pub is_in : (xs ys : List (Line O E)) (number key : ℕ) → HasTurn may xs number key → IsLegal may ys
      → IsPrefix xs ys → IsUnused key ys
      → IsIn (entries_of ys) (record { number = number; seen = entries_of xs })
  is_in xs ys number key has legal pre unused =
      record { begins = prefix_entries xs ys pre; own = (has_kept xs ys number key has legal pre unused).1 }

  module _ (xs : List (Line O E)) (number key next child : ℕ) (has : HasTurn may xs number key) where
    there : number < length xs
    there = omega (arith, entries_length xs, slice_get_within (entries_of xs) number has.seat.maker has.seat.stands)

    -- the seat has the next turn after its line
    pub has_next : (deed : Deed O E) → is_left deed ≡ false
        → IsLegal may (xs ++ line number deed key next child ∷ [])
        → HasTurn may (xs ++ line number deed key next child ∷ []) number next
    has_next deed stays legal =
        let l : Line O E = line number deed key next child in
        record {
          legal = legal;
          seat = subst (λ (w : List (Entry O E)). IsSeat w number) (sym (entries_append xs (l ∷ [])))
              (seat_after (entries_of xs) number deed has.seat stays);
          turn = turn_next xs l;
        }

    -- the seat that it makes has made no entry
    pub no_own : IsLegal may (xs ++ line number Split key next child ∷ [])
        → own (length xs) (entries_of (xs ++ line number Split key next child ∷ [])) ≡ []
    no_own legal =
        let e : Entry O E = entry number Split in
        ap (own (length xs)) (entries_append xs (line number Split key next child ∷ []))
        ∙ (own_append (length xs) (entries_of xs) (e ∷ [])
        ∙ (ap (λ w. w ++ own (length xs) (e ∷ []))
        (fresh (entries_of xs) has.legal.history (length xs) (omega (arith, entries_length xs)))
        ∙ own_other (length xs) e [] (omega (arith, there))))

    pub has_child : IsLegal may (xs ++ line number Split key next child ∷ [])
        → HasTurn may (xs ++ line number Split key next child ∷ []) (length xs) child
    has_child legal =
        let l : Line O E = line number Split key next child in
        let count : length (entries_of xs) ≡ length xs = entries_length xs in
        let all : entries_of (xs ++ l ∷ []) ≡ entries_of xs ++ entry number Split ∷ [] = entries_append xs (l ∷ []) in
        let none : own (length (entries_of xs)) (entries_of xs ++ entry number Split ∷ []) ≡ [] =
        subst (λ (n : ℕ). own n (entries_of xs ++ entry number Split ∷ []) ≡ []) (sym count)
        (ap (own (length xs)) (sym all) ∙ no_own legal) in
        record {
          legal = legal;
          seat = subst (λ (w : List (Entry O E)). IsSeat w (length xs)) (sym all)
              (subst (λ (n : ℕ). IsSeat (entries_of xs ++ entry number Split ∷ []) n) count
              (seat_made (entries_of xs) (entry number Split) refl none));
          turn = turn_child xs l there;
        }

    -- it has left for good
    pub gone : IsLegal may (xs ++ line number Left key next child ∷ [])
        → HasLeft may (entries_of (xs ++ line number Left key next child ∷ [])) number
    gone legal =
        let l : Line O E = line number Left key next child in
        let mine : own number (entries_of (xs ++ l ∷ [])) ≡ own number (entries_of xs) ++ entry number Left ∷ [] =
        ap (own number) (entries_append xs (l ∷ []))
        ∙ (own_append number (entries_of xs) (entry number Left ∷ [])
        ∙ ap (λ w. own number (entries_of xs) ++ w) (own_it number (entry number Left) refl)) in
        let P : Entry O E → Type 0 = λ e. is_left e.deed ≡ false in
        has_left (entries_of (xs ++ l ∷ [])) number legal.history
        (λ stay. absurd
        (cc (All-head P (entry number Left) []
        (all_rest P (own number (entries_of xs)) (entry number Left ∷ [])
        (subst (λ (w : List (Entry O E)). All P w) mine stay)))))

  split : (xs : List (Line O E)) (number key next child : ℕ) → HasTurn may xs number key → (deed : Deed O E)
      → deed ≡ Split → IsLegal may (xs ++ line number deed key next child ∷ [])
      → HasTurn may (xs ++ line number deed key next child ∷ []) (length xs) child
      × (own (length xs) (entries_of (xs ++ line number deed key next child ∷ [])) ≡ [])
  split xs number key next child has deed is legal =
      let it : IsLegal may (xs ++ line number Split key next child ∷ []) =
      subst (λ (d : Deed O E). IsLegal may (xs ++ line number d key next child ∷ [])) is legal in
      subst (λ (d : Deed O E). HasTurn may (xs ++ line number d key next child ∷ []) (length xs) child
      × (own (length xs) (entries_of (xs ++ line number d key next child ∷ [])) ≡ [])) (sym is)
      (has_child xs number key next child has it, no_own xs number key next child has it)

  leave : (xs : List (Line O E)) (number key next child : ℕ) → HasTurn may xs number key → (deed : Deed O E)
      → deed ≡ Left → IsLegal may (xs ++ line number deed key next child ∷ [])
      → HasLeft may (entries_of (xs ++ line number deed key next child ∷ [])) number
  leave xs number key next child has deed is legal =
      subst (λ (d : Deed O E). HasLeft may (entries_of (xs ++ line number d key next child ∷ [])) number) (sym is)
      (gone xs number key next child has
      (subst (λ (d : Deed O E). IsLegal may (xs ++ line number d key next child ∷ [])) is legal))

  module _ (seen old all new : List (Line O E)) (count number key next child : ℕ) (deed : Deed O E)
      (counted : count ≡ length old) (legal : IsLegal may old) (has : HasTurn may seen number key)
      (pre : IsPrefix old all) (sees : IsPrefix seen all) (follow : MayFollow may (entries_of old) deed)
      (long : length all ≡ count) (unused : IsUnused key all)
      (added : new ≡ all ++ line number deed key next child ∷ []) where
    pub written : IsWritten may seen old new number next child deed
    written =
        let same : all ≡ old = sym (prefix_whole old all pre (omega (arith, counted, long))) in
        let add : old ++ line number deed key next child ∷ [] ≡ new =
        sym (added ∙ ap (λ w. w ++ line number deed key next child ∷ []) same) in
        let grown : IsLegal may (old ++ line number deed key next child ∷ []) =
        subst (λ (w : List (Line O E)). IsLegal may (w ++ line number deed key next child ∷ [])) same
        (may_add old seen all count number key next child deed counted legal has pre sees follow long unused) in
        let begins : IsPrefix seen old = subst (λ (w : List (Line O E)). IsPrefix seen w) same sees in
        let free : IsUnused key old = subst (λ (w : List (Line O E)). IsUnused key w) same unused in
        let here : HasTurn may old number key = (has_kept seen old number key has legal begins free).0 in
        subst (λ (w : List (Line O E)). IsWritten may seen old w number next child deed) add
        (record {
          before = is_in seen old number key has legal begins free;
          seat = here.seat;
          added = entries_append old (line number deed key next child ∷ []);
          legal = grown;
          has_next = λ stays. has_next old number key next child here deed stays grown;
          has_child = λ is. split old number key next child here deed is grown;
          has_left = λ is. leave old number key next child here deed is grown;
        })

  -- the whole history, where it is as long as what the seat had seen
  pub caught_up : (seen whole both now : List (Line O E)) (number key : ℕ) → HasTurn may seen number key
      → IsLegal may whole → IsPrefix whole both → IsPrefix seen both → IsPrefix both now
      → IsUnused key now → length seen ≤ length whole → HasTurn may whole number key
      × IsIn (entries_of whole) (record { number = number; seen = entries_of seen })
  caught_up seen whole both now number key has legal pre sees later unused less =
      let begins : IsPrefix seen whole = prefix_shorter seen whole both sees pre less in
      let all : IsPrefix whole now = prefix_trans whole both now pre later in
      let free : IsUnused key whole =
      all_front (λ (l : Line O E). l.turn ≢ key) whole all.0 (subst (IsUnused key) (sym all.1) unused) in
      ((has_kept seen whole number key has legal begins free).0, is_in seen whole number key has legal begins free)

  pub may_silently : (log : List (Entry O E)) (deed : Silent) → IsHistory may log → MayFollow may log (silent_deed deed)
  may_silently log deed history = record {
    origin = history.origin;
    after = history.after;
    opens = history.opens;
    allowed = allowed deed;
  } where
    allowed : (d : Silent) → MayDo may history.origin log (silent_deed d)
    allowed silent.Looked = tt
    allowed silent.Split = tt
    allowed silent.Left = tt

  -- the first line, and the turn that its seat has then
  pub first_legal : (origin : O) (key next : ℕ) → IsLegal may (line 0 (Opened origin) key next next ∷ [])
  first_legal origin key next =
      record { history = record { origin = origin; after = []; opens = refl; goes_on = tt }; turns = λ number. tt }

  pub first_turn : (origin : O) (key next : ℕ) → HasTurn may (line 0 (Opened origin) key next next ∷ []) 0 next
  first_turn origin key next =
      let P : Entry O E → Type 0 = λ e. is_left e.deed ≡ false in
      record {
        legal = first_legal origin key next;
        seat = record {
          maker = opening origin;
          stands = refl;
          makes = refl;
          stays =
              All-cons P (opening origin) [] refl (All-nil P);
        };
        turn = refl;
      }
