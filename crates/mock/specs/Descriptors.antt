-- How many connections may be open at a time, by how many descriptors the process may have and how many threads serve.
use Rattle.std.specs.Prelude.{ℕ, ◌+◌, ◌*◌, ◌-◌, ◌/◌, min, max}
use Rattle.mock.specs.declared.descriptors.TheConstants.{
  FORWARD_DESCRIPTORS,
  OWN_DESCRIPTORS,
  THREAD_DESCRIPTORS,
  USUAL_CONNECTIONS,
}

-- of those that the process and its threads leave, half, or all but those that are kept for upstreams, whichever are
-- more; one at least and the usual number at most
abbrev pub connections_within : ℕ → ℕ → ℕ
connections_within limit threads =
    let free = limit - (OWN_DESCRIPTORS + THREAD_DESCRIPTORS * threads) in
    min USUAL_CONNECTIONS (max 1 (max (free / 2) (free - FORWARD_DESCRIPTORS)))
