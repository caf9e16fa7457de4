-- The tasks of the connections that are accepted, and the errors of `accept`.
use Rattle.std.specs.Prelude.{◌≡◌, ◌⊎◌, ◌<◌, ◌≤◌, ℕ, ℤ, List, None, Option, Some, IfSome, IsSomeAnd, length, pos}

-- each is such a task, and there are no more of them than are wanted
abbrev pub AreWanted : {T : Type 0} → (T → Type 0) → Option ℕ → List T → Option T → Type 0
AreWanted IsTask left tasks (Some task) = IsTask task × IfSome left (λ left. length tasks < left)
AreWanted IsTask left tasks None = IfSome left (λ left. length tasks ≤ left)

-- the number of Linux for an error of the listener itself: EBADF, EFAULT, EINVAL or ENOTSOCK of accept(2)
abbrev pub IsOfListener : Option ℤ → Type 0
IsOfListener number =
    IsSomeAnd number (λ n. (n ≡ pos 9) ⊎ ((n ≡ pos 14) ⊎ ((n ≡ pos 22) ⊎ (n ≡ pos 88))))
