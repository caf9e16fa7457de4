-- The first header of a name.
use Rattle.std.proofs.Common.{◌≡◌, ℕ, ◌+◌, ◌<◌, true, false, List, [], ◌∷◌, ◌++◌, length}
use Rattle.std.proofs.Common.{take, drop, Some, sym, ap, ◌∙◌, take-append-drop, append_assoc, refl}
use Rattle.std.specs.Prelude.{slice_get}
use Rattle.std.specs.Str.{bytes_eq}
use Rattle.std.specs.Str.Lossy.{utf8_lossy}
use Rattle.mock_request.specs.Request.{Header}
use Rattle.mock_request.specs.Values.{first_of}
use Rattle.mock_request.specs.HeaderFields.{texts_of}
use Rattle.mock_request.proofs.HeaderLemmas.{texts_of-append, more_taken}

texts_of_one
    : (name : List ℕ) (header : Header) (headers : List Header) → bytes_eq name header.name ≡ true
    → texts_of name (header ∷ headers) ≡ utf8_lossy header.value ∷ texts_of name headers
texts_of_one name header headers named = rw named refl

texts_of_other
    : (name : List ℕ) (header : Header) (headers : List Header) → bytes_eq name header.name ≡ false
    → texts_of name (header ∷ headers) ≡ texts_of name headers
texts_of_other name header headers other = rw other refl

-- the headers up to one that has the name have none
pub first_found
    : (name : List ℕ) (headers : List Header) (i : ℕ) (header : Header) → i < length headers
    → Some header ≡ slice_get headers i → texts_of name (take i headers) ≡ []
    → bytes_eq name header.name ≡ true → first_of (texts_of name headers) ≡ utf8_lossy header.value
first_found name headers i header within is none named =
    let rest = drop (i + 1) headers in
    let whole : headers ≡ take i headers ++ header ∷ rest =
    sym (take-append-drop (i + 1) headers)
    ∙ ap (λ hs. hs ++ rest) (more_taken headers i header within is)
    ∙ append_assoc (take i headers) (header ∷ []) rest in
    ap (λ hs. first_of (texts_of name hs)) whole
    ∙ ap first_of (texts_of-append name (take i headers) (header ∷ rest))
    ∙ ap (λ ts. first_of (ts ++ texts_of name (header ∷ rest))) none
    ∙ ap first_of (texts_of_one name header rest named)

pub none_more
    : (name : List ℕ) (headers : List Header) (i : ℕ) (header : Header) → i < length headers
    → Some header ≡ slice_get headers i → texts_of name (take i headers) ≡ []
    → bytes_eq name header.name ≡ false → texts_of name (take (i + 1) headers) ≡ []
none_more name headers i header within is none other =
    ap (texts_of name) (more_taken headers i header within is)
    ∙ texts_of-append name (take i headers) (header ∷ [])
    ∙ ap (λ ts. ts ++ texts_of name (header ∷ [])) none
    ∙ texts_of_other name header [] other
