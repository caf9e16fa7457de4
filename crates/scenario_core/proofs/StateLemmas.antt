-- What an edit of the kept pairs does to the states.
use Rattle.std.proofs.Common.{◌≡◌, ◌≢◌, ℕ, true, false, List, [], length, get_or, set, refl, sym, ap, ◌∙◌}
use Rattle.std.specs.Option.{unwrap_or}
use Rattle.std.specs.Cmp.{tied_itself, Equal-is}
use Rattle.std.specs.Cmp.Lexicographic.{slice_cmp, nat_list_cmp_total}
use Rattle.std.specs.declared.cmp.Ordering.{Ordering}
use Rattle.std.specs.declared.cmp.Ordering.TheVariants.{Equal}
use Rattle.std.specs.FinMap as fin_map
use Rattle.std.specs.FinMap.{empty_of_len, len-entries, entries-from_sorted, get-from_sorted, get-empty}
use Rattle.std.specs.FinMap.{slice_cmp-IsAntisymmetric, nat_cmp-IsAntisymmetric}
use Rattle.std.specs.FinMap.Entries.{find, put, where_key, is_sorted-put, is_sorted-where_key, find-put, find-where_key}
use Rattle.std.specs.List.{insert, remove}
use Rattle.std.specs.Ordering.{nat_cmp, is_eq, eq_by_cmp}
use Rattle.scenario_core.specs.declared.entries.Entry.{Entry}
use Rattle.scenario_core.specs.Scenarios.{States, started, state_of, MovesTo, AreAllStarted}
use Rattle.scenario_core.specs.Inner.Entries.{Pair, pairs_of, AreInOrder, IsAt, IsGapFor}
use Rattle.scenario_core.proofs.OrderedPairs.{is_other, find_at, put_at, find_in_gap, put_in_gap, remove_at}

abbrev by_name : List ℕ → List ℕ → Ordering
by_name = slice_cmp nat_cmp

same_name : (x y : List ℕ) → by_name x y ≡ Equal → x ≡ y
same_name = slice_cmp-IsAntisymmetric nat_cmp-IsAntisymmetric

other_name : (x y : List ℕ) → x ≢ y → eq_by_cmp by_name x y ≡ false
other_name x y ne = elim (eq_by_cmp by_name x y) as (λ b. eq_by_cmp by_name x y ≡ b → b ≡ false)
    [ true ↦ λ e. absurd (ne (same_name x y ((Equal-is _).0 e))) | false ↦ λ e. refl ] refl

its_name : (x : List ℕ) → eq_by_cmp by_name x x ≡ true
its_name x = ap is_eq (tied_itself nat_list_cmp_total x)

abbrev pub states_of : List Pair → States
states_of pairs = fin_map.from_sorted pairs

-- the new pairs are in order, and their states are the old ones after a move
pub record IsMove (old new : List Pair) (name state : List ℕ) : Type 0 where
  pub in_order : AreInOrder new
  pub moves : MovesTo (states_of old) (states_of new) name state

no_states : states_of [] ≡ fin_map.empty
no_states =
    empty_of_len (states_of []) (len-entries (states_of []) ∙ ap length (entries-from_sorted by_name [] tt))

all_started : AreAllStarted fin_map.empty
all_started name = ap (λ o. unwrap_or o started) (get-empty by_name name)

-- where no entry is kept, every scenario is in `Started`
pub no_entries : (entries : List Entry) → entries ≡ [] → states_of (pairs_of entries) ≡ fin_map.empty
no_entries entries e = rw e no_states

pub no_entries_started : (entries : List Entry) → entries ≡ [] → AreAllStarted (states_of (pairs_of entries))
no_entries_started entries e = rw (e, no_states) all_started

module _ (pairs : List Pair) (in_order : AreInOrder pairs) where
  found : (name : List ℕ) → state_of (states_of pairs) name ≡ unwrap_or (find by_name name pairs) started
  found name = ap (λ o. unwrap_or o started) (get-from_sorted by_name pairs name in_order)

  module _ (name : List ℕ) (at : ℕ) where
    pub state_at : IsAt pairs name at → (d : Pair) → state_of (states_of pairs) name ≡ (get_or pairs at d).1
    state_at is_at d =
        found name ∙ ap (λ o. unwrap_or o started)
        (find_at nat_list_cmp_total pairs name at d in_order is_at.in_range (is_at.has_name d))

    pub state_in_gap : IsGapFor pairs name at → state_of (states_of pairs) name ≡ started
    state_in_gap gap =
        found name ∙ ap (λ o. unwrap_or o started)
        (find_in_gap nat_list_cmp_total pairs name at gap.lower gap.higher)

    put_moves : (state : List ℕ) → IsMove pairs (put by_name name state pairs) name state
    put_moves state =
        let kept = is_sorted-put by_name nat_list_cmp_total name state pairs in_order in
        let after = λ (q : List ℕ). ap (λ o. unwrap_or o started)
        (get-from_sorted by_name (put by_name name state pairs) q kept
        ∙ find-put by_name nat_list_cmp_total q name state pairs) in
        record {
          in_order = kept;
          moves = record {
            moved = after name ∙ rw (its_name name);
            others = λ other ne. after other ∙ rw (other_name other name ne) (sym (found other));
          };
        }

    pub set_moves : (state : List ℕ) → IsAt pairs name at → (d : Pair) →
        IsMove pairs (set pairs at (name, state)) name state
    set_moves state is_at d =
        rw (put_at nat_list_cmp_total pairs name state at d in_order is_at.in_range (is_at.has_name d))
        (put_moves state)

    pub insert_moves : (state : List ℕ) → IsGapFor pairs name at →
        IsMove pairs (insert pairs at (name, state)) name state
    insert_moves state gap =
        rw (put_in_gap nat_list_cmp_total pairs name state at gap.lower gap.higher gap.in_range) (put_moves state)

    alike : (x : List ℕ) (q : List ℕ) → by_name q x ≡ Equal
        → is_other by_name name x ≡ is_other by_name name q
    alike x q e = ap (is_other by_name name) (sym (same_name q x e))

    pub remove_moves : IsAt pairs name at → (d : Pair) → IsMove pairs (remove pairs at) name started
    remove_moves is_at d =
        let kept = is_sorted-where_key by_name (is_other by_name name) pairs in_order in
        let after = λ (q : List ℕ). ap (λ o. unwrap_or o started)
        (get-from_sorted by_name (where_key by_name (is_other by_name name) pairs) q kept
        ∙ find-where_key by_name (is_other by_name name) q (λ x e. alike x q e) pairs) in
        rw (remove_at nat_list_cmp_total pairs name at d in_order is_at.in_range (is_at.has_name d)) (record {
          in_order = kept;
          moves = record {
            moved = after name ∙ rw (its_name name) refl;
            others = λ other ne. after other ∙ rw (other_name name other (λ e. ne (sym e))) (sym (found other));
          };
        })

    pub nothing_moves : IsGapFor pairs name at → MovesTo (states_of pairs) (states_of pairs) name started
    nothing_moves gap = record { moved = state_in_gap gap; others = λ other ne. refl }
