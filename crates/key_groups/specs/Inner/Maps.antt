-- What maps over keys that are lent, and lists beside the keys, say of them.
use Rattle.std.specs.Prelude.{◌≡◌, ℕ, ◌+◌, ◌<◌, Bool, List, Option, None, Some, map, take, slice_index}
use Rattle.std.specs.Prelude.{slice_index_or, unwrap_or, if◌then◌else◌}
use Rattle.std.specs.List.{position_from}
use Rattle.std.specs.Option.{option_or}
use Rattle.std.specs.Borrow.{Bor}
use Rattle.std.specs.HashMap.{HashMap, get}
use Rattle.key_groups.specs.Groups.{times}

abbrev pub values_at : {K : Type 0} → List (Bor K) → List K
values_at keys = map (λ key. key.now) keys

module _ {K : Type 0} (same : K → K → Bool) where
  -- what the map has at a key
  abbrev pub value_at : {S : Type 0} → HashMap (Bor K) ℕ S → Bor K → Option ℕ
  value_at m key = get (λ a b. same a.now b.now) m key

  -- at each key how many of the keys are equal to it, and nothing where none is
  abbrev pub Counts : {S : Type 0} → List K → HashMap (Bor K) ℕ S → Type 0
  Counts keys m = (key : Bor K) → unwrap_or (value_at m key) 0 ≡ times same key.now keys

  -- at each key which of the keys is the first that is equal to it, from 1
  abbrev pub Numbers : {S : Type 0} → List K → HashMap (Bor K) ℕ S → Type 0
  Numbers keys m = (key : Bor K) → value_at m key ≡ position_from (λ other. same other key.now) 1 keys

  -- for each of the first n keys which of its group it is, from 1
  abbrev pub PositionsBelow : List K → ℕ → List ℕ → Type 0
  PositionsBelow keys n positions =
      (i : ℕ) (d : K) → i < n → slice_index positions i ≡ times same (slice_index_or keys i d) (take i keys) + 1

  -- n is m with the number at a key that has none
  abbrev pub PutsNew : {S : Type 0} → HashMap (Bor K) ℕ S → HashMap (Bor K) ℕ S → K → ℕ → Type 0
  PutsNew m n key number =
      (q : Bor K) → value_at n q ≡ option_or (value_at m q) (if same key q.now then Some number else None)
