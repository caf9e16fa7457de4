-- Each frame of a body adds its data to the content.
use Rattle.std.proofs.Common.{◌≡◌, ◌≤◌, ℕ, List, [], ◌∷◌, ◌++◌, None, Ok, Err, IfOk, Result}
use Rattle.std.proofs.Common.{length, map, append_assoc, append-nil, sym, ap, ◌∙◌}
use Rattle.futures.specs.Runs.{Runs, After}
use Rattle.http_body.specs.Frame.{MapsData, bytes_in, joined_data}
use Rattle.http_body.specs.declared.frame.Frame.{Frame}
use Rattle.proxy_client.specs.Content.{Gathers}
use Rattle.proxy_client.specs.declared.content.TheConstants.{CONTENT_LIMIT}

module _ {D E : Type 0} (converts : D → List ℕ → Type 0) (old : Runs (Result (Frame D) E)) where
  pub gathered : {F : Type 0} (held : List ℕ) (result : Result (List ℕ) F)
      → IfOk result (λ content. content ≡ held)
      → IfOk result (λ content. length content ≤ CONTENT_LIMIT) → old [] None
      → IfOk result (Gathers converts old held)
  gathered held (Ok content) is within came = record {
    frames = [];
    came = came;
    made = [];
    as_bytes = tt;
    joined = is ∙ sym (append-nil held);
    within = within;
  }
  gathered held (Err error) is within came = tt

  module _ (new : Runs (Result (Frame D) E)) where
    after_frame : (frame : Frame D) (made : Frame (List ℕ)) → After old (Ok frame) new
        → MapsData converts frame made
        → (held next : List ℕ) → next ≡ held ++ bytes_in made.kind → (content : List ℕ)
        → Gathers converts new next content → Gathers converts old held content
    after_frame frame made after as_bytes held next pushed content more = record {
      frames = frame ∷ more.frames;
      came = after (map Ok more.frames) None more.came;
      made = made ∷ more.made;
      as_bytes = (as_bytes, more.as_bytes);
      joined = more.joined ∙ ap (λ t. t ++ joined_data more.made) pushed
          ∙ append_assoc held (bytes_in made.kind) (joined_data more.made);
      within = more.within;
    }

    pub gathers_after : {F : Type 0} (frame : Frame D) (made : Frame (List ℕ)) → After old (Ok frame) new
        → MapsData converts frame made → (held next : List ℕ) → next ≡ held ++ bytes_in made.kind
        → (result : Result (List ℕ) F) → IfOk result (Gathers converts new next)
        → IfOk result (Gathers converts old held)
    gathers_after frame made after as_bytes held next pushed (Ok content) more =
        after_frame frame made after as_bytes held next pushed content more
    gathers_after frame made after as_bytes held next pushed (Err error) more = tt
