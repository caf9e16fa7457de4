-- Each frame of a body adds its data to the content that is gathered, or makes it too long.
use Rattle.std.proofs.Common.{◌≡◌, ◌≢◌, ◌<◌, ℕ, Bool, true, false, List, [], ◌∷◌, ◌++◌}
use Rattle.std.proofs.Common.{None, Some, Ok, Err, IfErr, IfOk, IsErrOf, Result, true≢false, length, map, refl, append_assoc}
use Rattle.std.proofs.Common.{append-nil, sym, ap, subst, ◌∙◌}
use Rattle.futures.specs.Runs.{Runs, After}
use Rattle.http_body.specs.Frame.{bytes_in, joined_data}
use Rattle.http_body.specs.declared.frame.Frame.{Frame}
use Rattle.http_connections.specs.Content.{Exceeds, BodyFails, Gathers, IsGathered}
use Rattle.http_connections.specs.Inner.Pushed.{IsPushed}
use Rattle.http_connections.specs.declared.request.content_error.ContentError.{ContentError}
use Rattle.http_connections.specs.declared.request.content_error.ContentError.TheVariants.{Late, Malformed, OutOfMemory}
use Rattle.http_connections.specs.declared.request.content_error.ContentError.TheVariants.{TooLong}
use Rattle.mock_request.specs.declared.snapshot.TheConstants.{BODY_LIMIT}

module _ {E : Type 0} (old : Runs (Result (Frame (List ℕ)) E)) where
  -- the body has ended
  pub ended : (is_too_long : Bool) (held : List ℕ) (result : Result (List ℕ) ContentError)
      → IfOk result (λ content. (content ≡ held) × (is_too_long ≡ false))
      → (IsErrOf result TooLong → is_too_long ≡ true) → IfErr result (λ error. error ≢ Malformed) → old [] None
      → IsGathered old is_too_long held result
  ended true held (Ok content) value too_long other came = absurd (true≢false value.1)
  ended true held (Err TooLong) value too_long other came = tt
  ended true held (Err Malformed) value too_long other came = absurd (other refl)
  ended true held (Err Late) value too_long other came = tt
  ended true held (Err OutOfMemory) value too_long other came = tt
  ended false held (Ok content) value too_long other came = record {
    frames = [];
    came = came;
    joined = value.0 ∙ sym (append-nil held);
  }
  ended false held (Err TooLong) value too_long other came = absurd (true≢false (sym (too_long refl)))
  ended false held (Err Malformed) value too_long other came = absurd (other refl)
  ended false held (Err Late) value too_long other came = tt
  ended false held (Err OutOfMemory) value too_long other came = tt

  -- enough of what is too long has come
  pub given_up : (is_too_long : Bool) (held : List ℕ) → is_too_long ≡ true
      → IsGathered old is_too_long held (Err TooLong)
  given_up true held is_so = tt
  given_up false held is_so = absurd (true≢false (sym is_so))

  -- the connection has to leave
  pub late : (is_too_long : Bool) (held : List ℕ) → IsGathered old is_too_long held (Err Late)
  late true held = tt
  late false held = tt

  -- the body failed, and not because it is too long
  pub broke : (is_too_long : Bool) (held : List ℕ) (error : ContentError) (cause : E) → error ≢ TooLong
      → old [] (Some (Err cause)) → IsGathered old is_too_long held (Err error)
  broke is_too_long held TooLong cause other came = absurd (other refl)
  broke true held Malformed cause other came = record { frames = []; error = cause; came = came }
  broke false held Malformed cause other came = record { frames = []; error = cause; came = came }
  broke true held Late cause other came = tt
  broke false held Late cause other came = tt
  broke true held OutOfMemory cause other came = tt
  broke false held OutOfMemory cause other came = tt

  module _ (frame : Frame (List ℕ)) where
    first_exceeds : (held : List ℕ) → old [] (Some (Ok frame)) → BODY_LIMIT < length (held ++ bytes_in frame.kind)
        → Exceeds old held
    first_exceeds held came over = record { frames = []; last = frame; came = came; over = over }

    -- the frame made the content too long, and no more is read; or there was no memory for it
    pub failed : (is_too_long : Bool) (held next : List ℕ) (error : ContentError)
        → (error ≡ TooLong → IsPushed is_too_long held frame true next)
        → error ≢ Malformed → old [] (Some (Ok frame)) → IsGathered old is_too_long held (Err error)
    failed true held next TooLong pushed other came = tt
    failed false held next TooLong pushed other came = first_exceeds held came (pushed refl)
    failed is_too_long held next Malformed pushed other came = absurd (other refl)
    failed true held next Late pushed other came = tt
    failed false held next Late pushed other came = tt
    failed true held next OutOfMemory pushed other came = tt
    failed false held next OutOfMemory pushed other came = tt

    module _ (new : Runs (Result (Frame (List ℕ)) E)) (came : old [] (Some (Ok frame)))
        (after : After old (Ok frame) new) where
      gathers_after : (held content : List ℕ) → Gathers new (held ++ bytes_in frame.kind) content
          → Gathers old held content
      gathers_after held content more = record {
        frames = frame ∷ more.frames;
        came = after (map Ok more.frames) None more.came;
        joined = more.joined ∙ append_assoc held (bytes_in frame.kind) (joined_data more.frames);
      }

      exceeds_after : (held : List ℕ) → Exceeds new (held ++ bytes_in frame.kind) → Exceeds old held
      exceeds_after held more =
          let rest = joined_data more.frames ++ bytes_in more.last.kind in
          record {
            frames = frame ∷ more.frames;
            last = more.last;
            came = after (map Ok more.frames) (Some (Ok more.last)) more.came;
            over = subst (λ bytes. BODY_LIMIT < length bytes)
                (append_assoc held (bytes_in frame.kind) rest
                ∙ ap (λ bytes. held ++ bytes)
                (sym (append_assoc (bytes_in frame.kind) (joined_data more.frames) (bytes_in more.last.kind))))
                more.over;
          }

      fails_after : BodyFails new → BodyFails old
      fails_after more = record {
        frames = frame ∷ more.frames;
        error = more.error;
        came = after (map Ok more.frames) (Some (Err more.error)) more.came;
      }

      pub gathered_after : (is_too_long : Bool) (held : List ℕ) (is_too_long' : Bool) (next : List ℕ)
          → IsPushed is_too_long held frame is_too_long' next → (result : Result (List ℕ) ContentError)
          → IsGathered new is_too_long' next result → IsGathered old is_too_long held result
      gathered_after true held true next pushed (Ok content) more = more
      gathered_after true held false next pushed (Ok content) more = absurd (true≢false (sym pushed))
      gathered_after true held is_too_long' next pushed (Err TooLong) more = tt
      gathered_after false held true next pushed (Ok content) more = absurd more
      gathered_after false held true next pushed (Err TooLong) more = first_exceeds held came pushed
      gathered_after false held false next pushed (Ok content) more =
          gathers_after held content (subst (λ bytes. Gathers new bytes content) pushed more)
      gathered_after false held false next pushed (Err TooLong) more =
          exceeds_after held (subst (λ bytes. Exceeds new bytes) pushed more)
      gathered_after true held true next pushed (Err Malformed) more = fails_after more
      gathered_after true held false next pushed (Err Malformed) more = fails_after more
      gathered_after false held true next pushed (Err Malformed) more = fails_after more
      gathered_after false held false next pushed (Err Malformed) more = fails_after more
      gathered_after true held is_too_long' next pushed (Err Late) more = tt
      gathered_after false held is_too_long' next pushed (Err Late) more = tt
      gathered_after true held is_too_long' next pushed (Err OutOfMemory) more = tt
      gathered_after false held is_too_long' next pushed (Err OutOfMemory) more = tt
