-- The seats that have not left, after one more entry.
use Rattle.std.proofs.Common.{◌≡◌, ◌≢◌, ◌⊎◌, inl, inr, ℕ, zero, suc, ◌+◌, ◌<◌, true, false, List, [], ◌∷◌, ◌++◌, length}
use Rattle.std.proofs.Common.{◌≤◌, All, Some, slice_get, refl, ap, sym, ◌∙◌, subst, arith, length-append}
use Rattle.std.proofs.lemmas.List.Elements.{All-head}
use Rattle.std.proofs.lemmas.Option.{slice_get_within}
use Rattle.logbook.specs.Pages.{Book as HistoryName, Named}
use Rattle.shared_history.specs.Entries.{entry, own, makes_seat, is_left, IsSeat}
use Rattle.shared_history.specs.History.{HasEnded}
use Rattle.shared_history.specs.Inner.Kept.{IsAll, IsAmong, IsFront, IsWritten, HasSeats}
use Rattle.shared_history.specs.Inner.Lines.{entries_of}
use Rattle.shared_history.specs.declared.entry.Deed.{Deed}
use Rattle.shared_history.specs.declared.entry.Deed.TheVariants.{Left}
use Rattle.shared_history.specs.declared.entry.Entry.{Entry}
use Rattle.shared_history.specs.declared.line.Line.{Line}
use Rattle.shared_history.proofs.Entries.{own_append, own_it}
use Rattle.shared_history.proofs.Lines.{all_front, all_rest, entries_length}

-- all numbers but one
without : (number : ℕ) (seats : List ℕ) → IsAmong number seats
    → (rest : List ℕ) × (length seats ≡ suc (length rest))
    × ((n : ℕ) → n ≢ number → IsAmong n seats → IsAmong n rest)
without number [] among = absurd among
without number (x ∷ xs) (inl is) =
    (xs, refl, λ n other among. elim among [ inl it ↦ absurd (other (it ∙ sym is)) | inr later ↦ later ])
without number (x ∷ xs) (inr later) =
    let found = without number xs later in (
      x ∷ found.0,
      ap suc found.1,
      λ n other among. elim among [ inl it ↦ inl it | inr there ↦ inr (found.2 n other there) ],
    )

module _ {O E : Type 0} where
  -- what stands in a list with one more entry
  get_back : (log : List (Entry O E)) (e : Entry O E) (n : ℕ) (x : Entry O E) → slice_get (log ++ e ∷ []) n ≡ Some x
      → (slice_get log n ≡ Some x) ⊎ ((n ≡ length log) × (x ≡ e))
  get_back [] e zero x is = inr (refl, cc is)
  get_back [] e (suc n) x is = absurd (cc is)
  get_back (y ∷ log) e zero x is = inl is
  get_back (y ∷ log) e (suc n) x is =
      elim (get_back log e n x is) [ inl h ↦ inl h | inr h ↦ inr (ap suc h.0, h.1) ]

  abbrev stays_in : ℕ → List (Entry O E) → Type 0
  stays_in number log = All (λ e. is_left e.deed ≡ false) (own number log)

  stays_before : (log : List (Entry O E)) (e : Entry O E) (number : ℕ) → stays_in number (log ++ e ∷ [])
      → stays_in number log
  stays_before log e number stays =
      all_front (λ (x : Entry O E). is_left x.deed ≡ false) (own number log) (own number (e ∷ []))
      (subst (λ (w : List (Entry O E)). All (λ x. is_left x.deed ≡ false) w) (own_append number log (e ∷ [])) stays)

  -- a seat after the entry is one before it, or the one that the entry made
  seat_before : (log : List (Entry O E)) (e : Entry O E) (number : ℕ) → IsSeat (log ++ e ∷ []) number
      → IsSeat log number ⊎ ((number ≡ length log) × (makes_seat e.deed ≡ true))
  seat_before log e number seat =
      elim (get_back log e number seat.maker seat.stands) [
        | inl h ↦ inl (record {
          maker = seat.maker;
          stands = h;
          makes = seat.makes;
          stays = stays_before log e number seat.stays;
        })
        | inr h ↦ inr (h.0, ap (λ x. makes_seat x.deed) (sym h.1) ∙ seat.makes)
      ]

  -- an entry that makes no seat
  pub seats_kept : (count : ℕ) (log : List (Entry O E)) (e : Entry O E) → makes_seat e.deed ≡ false → HasSeats count log
      → HasSeats count (log ++ e ∷ [])
  seats_kept count log e makes has = record {
    numbers = has.numbers;
    counted = has.counted;
    all = λ number seat.
        elim (seat_before log e number seat) [
          | inl before ↦ has.all number before
          | inr h ↦ absurd (cc (h.1, makes))
        ];
  }

  -- one that makes a seat
  pub seats_made : (count : ℕ) (log : List (Entry O E)) (e : Entry O E) → HasSeats count log
      → HasSeats (count + 1) (log ++ e ∷ [])
  seats_made count log e has = record {
    numbers = length log ∷ has.numbers;
    counted = (let counted = has.counted in omega (arith, counted));
    all = λ number seat.
        elim (seat_before log e number seat) [ inl before ↦ inr (has.all number before) | inr h ↦ inl h.0 ];
  }

  -- who has left is none
  not_left : (log : List (Entry O E)) (number : ℕ) → ¬ (IsSeat (log ++ entry number Left ∷ []) number)
  not_left log number seat =
      let P : Entry O E → Type 0 = λ e. is_left e.deed ≡ false in
      let last : Entry O E = entry number Left in
      let mine : own number (log ++ last ∷ []) ≡ own number log ++ last ∷ [] =
      own_append number log (last ∷ []) ∙ ap (λ w. own number log ++ w) (own_it number last refl) in
      absurd (cc (All-head P last []
      (all_rest P (own number log) (last ∷ []) (subst (λ (w : List (Entry O E)). All P w) mine seat.stays))))

  -- a seat is open
  pub some_seat : (count : ℕ) (log : List (Entry O E)) (number : ℕ) → IsSeat log number → HasSeats count log → 0 < count
  some_seat count log number seat has =
      let found = without number has.numbers (has.all number seat) in
      let counted = has.counted in
      let more = found.1 in
      omega (arith, counted, more)

  -- it leaves
  pub seats_left : (count : ℕ) (log : List (Entry O E)) (number left : ℕ) → IsSeat log number → HasSeats count log
      → count ≡ left + 1 → HasSeats left (log ++ entry number Left ∷ [])
  seats_left count log number left seat has less =
      let found = without number has.numbers (has.all number seat) in
      let counted = has.counted in
      let more = found.1 in
      let last : Entry O E = entry number Left in
      record {
        numbers = found.0;
        counted = omega (arith, counted, more, less);
        all = λ n later.
            elim (seat_before log last n later) [
              | inl before ↦
                  found.2 n (λ is. absurd (not_left log number
                  (subst (λ (k : ℕ). IsSeat (log ++ last ∷ []) k) is later)))
                  (has.all n before)
              | inr h ↦ absurd (cc (h.1))
            ];
      }

  -- the seat of the first entry
  pub seats_first : (log : List (Entry O E)) → length log ≡ 1 → HasSeats 1 log
  seats_first log one = record {
    numbers = 0 ∷ [];
    counted = refl;
    all = λ number seat.
        let within : number < length log = slice_get_within log number seat.maker seat.stands in
        inl (omega (arith, within, one));
  }

  pub no_seat : (log : List (Entry O E)) → HasSeats 0 log → HasEnded log
  no_seat log has number seat =
      let some : 0 < 0 = some_seat 0 log number seat has in absurd (omega (arith, some))

  pub more_lines : (old new : List (Line O E)) (e : Entry O E) → entries_of new ≡ entries_of old ++ e ∷ []
      → length new ≡ length old + 1
  more_lines old new e added =
      sym (entries_length new)
      ∙ (ap length added ∙ (length-append (entries_of old) (e ∷ []) ∙ ap (λ n. n + 1) (entries_length old)))

-- the history after one more entry
module _ {O E : Type 0} (may : O → List E → E → Type 0) (named : HistoryName) where
  pub all_more : {head : Named} {count seats number next child later : ℕ} {book same : HistoryName}
      {old new seen : List (Line O E)} {deed : Deed O E} (left : ℕ) → IsAll may named head count seats book old
      → IsWritten may seen old new number next child deed → IsFront may named later same new
      → HasSeats left (entries_of old ++ entry number deed ∷ []) → left ≤ seats + 1
      → IsAll may named head later left same new
  all_more left all written front has few =
      let more = more_lines _ _ _ written.added in
      let fits = all.fits in
      let before = all.front.counted in
      let counted = front.counted in
      record {
        head_is = all.head_is;
        front = front;
        has_seats = subst (HasSeats left) (sym written.added) has;
        fits = omega (arith, few, fits, before, counted, more);
      }
