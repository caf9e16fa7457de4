-- What the content of a message is: the data of its frames, one after the other.
use Rattle.std.specs.Prelude.{◌≡◌, ◌≤◌, ℕ, List, ◌++◌, None, Ok, Result, length, map}
use Rattle.std.specs.List.{AllZip}
use Rattle.futures.specs.Runs.{Runs}
use Rattle.http_body.specs.Frame.{MapsData, joined_data}
use Rattle.http_body.specs.declared.frame.Frame.{Frame}
use Rattle.proxy_client.specs.declared.content.TheConstants.{CONTENT_LIMIT}

-- A body gave frames and no error up to its end, and this content is what was held, with their data after it, within
-- the limit. `converts` says which bytes a piece of data is. (`Gathers` of `http_connections` says this of
-- requests, whose data are bytes, and whose limit is a case of its own, `Exceeds`, as such a request is answered.)
pub record Gathers {D E : Type 0} (converts : D → List ℕ → Type 0) (source : Runs (Result (Frame D) E))
    (held content : List ℕ) : Type 0 where
  pub frames : List (Frame D)
  pub came : source (map Ok frames) None
  pub made : List (Frame (List ℕ))
  pub as_bytes : AllZip (MapsData converts) frames made
  pub joined : content ≡ held ++ joined_data made
  pub within : length content ≤ CONTENT_LIMIT
