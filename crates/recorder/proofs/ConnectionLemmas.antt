-- What is left of a list of headers from an index on.
use Rattle.std.proofs.Common.{◌≡◌, ℕ, ◌+◌, ◌<◌, List, ◌∷◌, Some, drop, length, sym, ap, ◌∙◌}
use Rattle.std.specs.List.{slice_get}
use Rattle.std.proofs.lemmas.Option.{get_or_from_slice_get}
use Rattle.std.proofs.lemmas.List.{drop_more}
use Rattle.mock_request.specs.Request.{Header}

pub drop_here
    : (headers : List Header) (i : ℕ) (header : Header) → i < length headers
    → Some header ≡ slice_get headers i → drop i headers ≡ header ∷ drop (i + 1) headers
drop_here headers i header within here =
    drop_more headers i header within
    ∙ ap (λ h. h ∷ drop (i + 1) headers) (get_or_from_slice_get headers i header header (sym here))
