-- The states of scenarios (WireMock's documentation, "Stateful Behaviour"): `Started` until something moves one.
use Rattle.std.specs.Prelude.{◌≡◌, ◌≢◌, ℕ, List, codes, unwrap_or}
use Rattle.std.specs.Ordering.{nat_cmp}
use Rattle.std.specs.Cmp.Lexicographic.{slice_cmp}
use Rattle.std.specs.FinMap as map

-- where every scenario begins
abbrev pub started : List ℕ
started = codes "Started"

-- the states that scenarios were moved to, by the scenario's name
abbrev pub States : Type 0
States = map.FinMap (slice_cmp nat_cmp) (List ℕ)

-- the state of the scenario with this name
abbrev pub state_of : States → List ℕ → List ℕ
state_of states name = unwrap_or (map.get states name) started

-- the scenario with this name is now in this state, and every other one in the state where it was
pub record MovesTo (old new : States) (name state : List ℕ) : Type 0 where
  pub moved : state_of new name ≡ state
  pub others : (other : List ℕ) → other ≢ name → state_of new other ≡ state_of old other

-- every scenario is in `Started`
abbrev pub AreAllStarted : States → Type 0
AreAllStarted states = (name : List ℕ) → state_of states name ≡ started
