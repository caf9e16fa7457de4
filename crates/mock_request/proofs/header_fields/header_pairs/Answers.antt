use Rattle.std.proofs.Common.{◌≡◌, ◌<◌, ◌++◌, ◌∷◌, [], length, take, ap, sym, ◌∙◌, arith, refl}
use Rattle.std.specs.Prelude.{string_bytes}
use Rattle.std.specs.Str.Lossy.{utf8_lossy}
use Rattle.std.proofs.lemmas.List.{map-append}
use Rattle.std.proofs.lemmas.Option.{slice_get-get_or}
use Rattle.mock_request.specs.Request.{Header}
use Rattle.mock_request.specs.HeaderFields.{header_pairs}
use Rattle.mock_request.specs.Values.{pair_of, pairs_of}
use Rattle.mock_request.proofs.HeaderLemmas.{more_taken, pairs_more}
use Rattle.mock_request.proofs.header_fields.header_pairs.Goals as goal
use Rattle.mock_request.proofs.header_fields.header_pairs.Goals.{in-Some+in_ok-from_str+in_ok-from_utf8_lossy+in_ok-push}
use Rattle.mock_request.proofs.header_fields.header_pairs.Goals.{in_default}

pub loop-index-preserved : goal.loop-index-preserved
loop-index-preserved c =
    let headers = c.args.snapshot.now.headers in
    let i = c.loop-index.index in
    let within : i < length headers = omega arith in
    elim c.match-header.branch [
      | in-Some+in_ok-from_str+in_ok-from_utf8_lossy+in_ok-push w ↦
          let header : Header = record { name = w.in-Some.name.now; value = w.in-Some.value.now } in
          let more = more_taken headers i header within w.in-Some.ensures.value in
          let one = pairs_more (take i headers) header in
          let two = ap pairs_of w.in_ok-push.ensures.items ∙ map-append pair_of c.loop-index.pairs.items _ in
          let same : (string_bytes w.in_ok-from_str.field-0, string_bytes w.in_ok-from_utf8_lossy.field-0)
          ≡ (w.in-Some.name.now, utf8_lossy w.in-Some.value.now) =
          rw (w.in_ok-from_str.ensures.ok, w.in_ok-from_utf8_lossy.ensures.lossy) refl in
          ap (λ v. pairs_of v.items) w.pairs-is
          ∙ two
          ∙ ap (λ ps. ps ++ pair_of (w.in_ok-from_str.field-0, w.in_ok-from_utf8_lossy.field-0) ∷ [])
          c.loop-index.invariant
          ∙ ap (λ p. header_pairs (take i headers) ++ p ∷ []) same
          ∙ sym one
          ∙ ap header_pairs (sym more)
      | in_default w ↦
          let here = slice_get-get_or headers i (record { name = []; value = [] }) within in
          let none = w.in_default.ensures.value in
          absurd (cc)
    ]
