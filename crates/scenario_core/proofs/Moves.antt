-- What the edits of the kept entries do to the states.
use Rattle.std.proofs.Common.{◌≡◌, ℕ, List, get_or, set, sym, string_bytes}
use Rattle.std.specs.List.{insert, remove}
use Rattle.scenario_core.specs.declared.entries.Entry.{Entry}
use Rattle.scenario_core.specs.Scenarios.{started, state_of}
use Rattle.scenario_core.specs.Inner.Entries.{pairs_of, AreInOrder, IsAt, IsGapFor}
use Rattle.scenario_core.proofs.EntryLemmas.{pair_of, pairs-set, pairs-insert, pairs-remove, state_read}
use Rattle.scenario_core.proofs.StateLemmas.{IsMove, states_of, state_at, set_moves, insert_moves, remove_moves}

module _ (entries : List Entry) (in_order : AreInOrder (pairs_of entries)) (name : List ℕ) (at : ℕ) where
  pub state_of_entry : (e : Entry) → IsAt (pairs_of entries) name at → e ≡ get_or entries at e →
      string_bytes e.state ≡ state_of (states_of (pairs_of entries)) name
  state_of_entry e is_at read =
      rw (← state_read entries at e read) (sym (state_at (pairs_of entries) in_order name at is_at (pair_of e)))

  pub move_by_set : (e : Entry) (state : List ℕ) → IsAt (pairs_of entries) name at →
      string_bytes e.name ≡ name →
      string_bytes e.state ≡ state → IsMove (pairs_of entries) (pairs_of (set entries at e)) name state
  move_by_set e state is_at same_name same_state =
      rw (pairs-set entries at e, same_name, same_state)
      (set_moves (pairs_of entries) in_order name at state is_at (pair_of e))

  pub move_by_insert : (e : Entry) (state : List ℕ) → IsGapFor (pairs_of entries) name at →
      string_bytes e.name ≡ name →
      string_bytes e.state ≡ state → IsMove (pairs_of entries) (pairs_of (insert entries at e)) name state
  move_by_insert e state gap same_name same_state =
      rw (pairs-insert entries at e, same_name, same_state) (insert_moves (pairs_of entries) in_order name at state gap)

  pub move_by_remove : (e : Entry) → IsAt (pairs_of entries) name at →
      IsMove (pairs_of entries) (pairs_of (remove entries at)) name started
  move_by_remove e is_at =
      rw (pairs-remove entries at) (remove_moves (pairs_of entries) in_order name at is_at (pair_of e))
