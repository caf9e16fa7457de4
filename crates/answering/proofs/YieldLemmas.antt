-- What a body yields once it has given a frame of its content.
use Rattle.std.proofs.Common.{◌≡◌, ℕ, List, [], ◌++◌, None, Some, Ok, Err}
use Rattle.std.proofs.lemmas.List.{nil_from_length}
use Rattle.std.specs.Prelude.{IfOk, Result, length}
use Rattle.answering.specs.Content.{Yields}
use Rattle.futures.specs.Runs.{After}
use Rattle.http_body.specs.Frame.{data_frame}
use Rattle.http_body.specs.declared.frame.Frame.{Frame}
use Rattle.http_messages.specs.declared.error.ServiceError.{ServiceError}

module _ (old new : List ℕ) where
  -- the first of the content
  pub front : (piece : List ℕ) → old ≡ piece ++ new → (result : Result (Frame (List ℕ)) ServiceError)
      → IfOk result (λ frame. frame ≡ data_frame piece) → Yields old [] (Some result)
  unfolding Yields
  front piece cut (Ok frame) is = (piece, is, (new, cut, tt))
  front piece cut (Err error) is = tt

  -- and what comes after it
  pub after : (piece : List ℕ) → old ≡ piece ++ new → (result : Result (Frame (List ℕ)) ServiceError)
      → IfOk result (λ frame. frame ≡ data_frame piece) → After (Yields old) result (Yields new)
  unfolding Yields
  after piece cut (Ok frame) is frames last more = (piece, is, (new, cut, more))
  after piece cut (Err error) is frames last more = tt

-- a content that has ended
pub ended : (content : List ℕ) → content ≡ [] → Yields content [] None
unfolding Yields
ended content is = is

-- an error
pub failed : (content : List ℕ) (error : ServiceError) → Yields content [] (Some (Err error))
unfolding Yields
failed content error = tt

pub after_failed : (old new : List ℕ) (error : ServiceError) → After (Yields old) (Err error) (Yields new)
unfolding Yields
after_failed old new error frames last more = tt

-- a content of no bytes
pub is_ended : (content : List ℕ) → length content ≡ 0 → Yields content [] None
is_ended content none = ended content (nil_from_length content none)
