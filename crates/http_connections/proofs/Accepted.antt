-- The tasks of the connections that are accepted, after one more of them.
use Rattle.std.proofs.Common.{◌≡◌, ◌-◌, ◌<◌, ◌≤◌, ℕ, List, ◌∷◌, Option, None, Some, IfSome, length, option_map, arith}
use Rattle.std.proofs.Common.{subst, sym}
use Rattle.http_connections.specs.Inner.Accepted.{AreWanted}
use Rattle.http_connections.specs.Sent.{Giver}
use Rattle.http_connections.specs.Site.{IsConnectionFor, giver_of}
use Rattle.http_connections.specs.declared.request.service.MessageService.{MessageService}

-- one fewer is wanted
abbrev fewer : Option ℕ → Option ℕ
fewer left = option_map (λ n. n - 1) left

module _ {T : Type 0} (IsTask : T → Type 0) where
  after_one : (left : Option ℕ) (task : T) (tasks : List T) (last : Option T) → IfSome left (λ n. 0 < n)
      → AreWanted IsTask (fewer left) tasks last → AreWanted IsTask left (task ∷ tasks) last
  after_one None task tasks None some wanted = tt
  after_one (Some left) task tasks None some wanted =
      let fits : length tasks ≤ left - 1 = wanted in grind arith
  after_one None task tasks (Some last) some wanted = (wanted.0, tt)
  after_one (Some left) task tasks (Some last) some wanted =
      let fits : length tasks < left - 1 = wanted.1 in (wanted.0, grind arith)

  after_none : (left : Option ℕ) (tasks : List T) (last : Option T)
      → AreWanted IsTask (fewer left) tasks last → AreWanted IsTask left tasks last
  after_none None tasks None wanted = tt
  after_none (Some left) tasks None wanted = let fits : length tasks ≤ left - 1 = wanted in grind arith
  after_none None tasks (Some last) wanted = (wanted.0, tt)
  after_none (Some left) tasks (Some last) wanted =
      let fits : length tasks < left - 1 = wanted.1 in (wanted.0, grind arith)

module _ {T C P : Type 0} (IsTask : C → P → T → Type 0) (connects connects' : C) (pool pool' : P)
    (left left' : Option ℕ) (tasks : List T) (last : Option T) where
  -- a connection was accepted, and its task is handed on
  pub handed_on : connects' ≡ connects → pool' ≡ pool → left' ≡ option_map (λ n. n - 1) left → IfSome left (λ n. 0 < n)
      → (task : T) → AreWanted (IsTask connects' pool') left' tasks last
      → AreWanted (IsTask connects pool) left (task ∷ tasks) last
  handed_on same_connects same_pool counted some task wanted =
      after_one (IsTask connects pool) left task tasks last some (rw (same_connects, same_pool, counted) at wanted)

  -- a connection was accepted, and there is no task
  pub closed : connects' ≡ connects → pool' ≡ pool → left' ≡ option_map (λ n. n - 1) left
      → AreWanted (IsTask connects' pool') left' tasks last → AreWanted (IsTask connects pool) left tasks last
  closed same_connects same_pool counted wanted =
      after_none (IsTask connects pool) left tasks last (rw (same_connects, same_pool, counted) at wanted)

  -- no connection was accepted
  pub none_accepted : connects' ≡ connects → pool' ≡ pool → left' ≡ left
      → AreWanted (IsTask connects' pool') left' tasks last → AreWanted (IsTask connects pool) left tasks last
  none_accepted same_connects same_pool same_left wanted = rw (same_connects, same_pool, same_left) at wanted

module _ {M I F R A Seat Reply Exchange Content : Type 0}
    (makes : M → I → MessageService R A Seat Reply Exchange Content → F → Type 0) (connects : M) (io : I)
    (by : Giver A) where
  pub made_for : (result : Option F) (service : MessageService R A Seat Reply Exchange Content)
      → giver_of service.slot ≡ by → IfSome result (makes connects io service)
      → IfSome result (IsConnectionFor makes connects io by)
  made_for (Some made) service same makes = (service, same, makes)
  made_for None service same makes = tt

-- what holds of a value holds of what has it
pub holds_in : {T F : Type 0} (value : T → F) (P : F → Type 0) (x : F) → P x → (result : Option T)
    → IfSome result (λ t. value t ≡ x) → IfSome result (λ t. P (value t))
holds_in value P x holds (Some t) same = subst P (sym same) holds
holds_in value P x holds None same = tt
