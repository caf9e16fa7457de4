-- Lists of entries: what a seat made, and the events.
use Rattle.std.proofs.Common.{◌≡◌, ◌≢◌, ℕ, ◌==◌, true, false, List, [], ◌∷◌, ◌++◌, length, All, Some, slice_get, refl}
use Rattle.std.proofs.Common.{ap, sym, ◌∙◌, subst, eq-eqb, ne_eqb}
use Rattle.std.proofs.lemmas.List.Elements.{filter-append, All-push, All-nil}
use mathlib.Core.List.{IsPrefix}
use Rattle.shared_history.specs.Entries.{entry, own, events, makes_seat, is_left, IsSeat}
use Rattle.shared_history.specs.declared.entry.Deed.{Deed}
use Rattle.shared_history.specs.declared.entry.Deed.TheVariants.{Opened, Called, Looked, Split, Left}
use Rattle.shared_history.specs.declared.entry.Entry.{Entry}
use Rattle.shared_history.proofs.Prefixes.{prefix_get}

module _ {O E : Type 0} where
  pub own_append : (number : ℕ) (xs ys : List (Entry O E)) → own number (xs ++ ys) ≡ own number xs ++ own number ys
  own_append number xs ys = filter-append (λ (e : Entry O E). e.seat == number) xs ys

  pub own_it : (number : ℕ) (e : Entry O E) → e.seat ≡ number → own number (e ∷ []) ≡ e ∷ []
  own_it number e is = rw (eq-eqb e.seat number is)

  pub own_other : (number : ℕ) (e : Entry O E) (log : List (Entry O E)) → e.seat ≢ number
      → own number (e ∷ log) ≡ own number log
  own_other number e log not = rw (ne_eqb e.seat number not)

  pub events_append : (xs ys : List (Entry O E)) → events (xs ++ ys) ≡ events xs ++ events ys
  events_append [] ys = refl
  events_append (x ∷ xs) ys = cases x.deed refl (events_append xs ys) where
    cases : (d : Deed O E) → x.deed ≡ d → events (xs ++ ys) ≡ events xs ++ events ys
        → events ((x ∷ xs) ++ ys) ≡ events (x ∷ xs) ++ events ys
    cases (Opened origin) is rest = rw is rest
    cases (Called event) is rest = rw is (ap (λ w. event ∷ w) rest)
    cases Looked is rest = rw is rest
    cases Split is rest = rw is rest
    cases Left is rest = rw is rest

  pub get_last : (xs : List (Entry O E)) (e : Entry O E) → slice_get (xs ++ e ∷ []) (length xs) ≡ Some e
  get_last [] e = refl
  get_last (x ∷ xs) e = get_last xs e

  -- a seat is one in each longer list in which it has no other entry
  pub seat_kept : (xs ys : List (Entry O E)) (number : ℕ) → IsSeat xs number → IsPrefix xs ys
      → own number ys ≡ own number xs → IsSeat ys number
  seat_kept xs ys number seat pre same =
      record {
        maker = seat.maker;
        stands = prefix_get xs ys number seat.maker pre seat.stands;
        makes = seat.makes;
        stays = subst (λ (w : List (Entry O E)). All (λ e. is_left e.deed ≡ false) w) (sym same) seat.stays;
      }

  -- and after an entry by which it does not leave
  pub seat_after : (xs : List (Entry O E)) (number : ℕ) (deed : Deed O E) → IsSeat xs number → is_left deed ≡ false
      → IsSeat (xs ++ entry number deed ∷ []) number
  seat_after xs number deed seat stays =
      record {
        maker = seat.maker;
        stands =
            prefix_get xs (xs ++ entry number deed ∷ []) number seat.maker (entry number deed ∷ [], refl) seat.stands;
        makes = seat.makes;
        stays = subst (λ (w : List (Entry O E)). All (λ e. is_left e.deed ≡ false) w)
            (sym (own_append number xs (entry number deed ∷ [])
            ∙ ap (λ w. own number xs ++ w) (own_it number (entry number deed) refl)))
            (All-push (λ (e : Entry O E). is_left e.deed ≡ false) (own number xs) (entry number deed) seat.stays stays);
      }

  -- the seat that an entry has made
  pub seat_made : (xs : List (Entry O E)) (e : Entry O E) → makes_seat e.deed ≡ true
      → own (length xs) (xs ++ e ∷ []) ≡ [] → IsSeat (xs ++ e ∷ []) (length xs)
  seat_made xs e makes none =
      record {
        maker = e;
        stands = get_last xs e;
        makes = makes;
        stays = subst (λ (w : List (Entry O E)). All (λ e. is_left e.deed ≡ false) w) (sym none)
            (All-nil (λ (e : Entry O E). is_left e.deed ≡ false));
      }
