-- What one more header adds.
use Rattle.std.proofs.Common.{◌≡◌, ℕ, ◌+◌, ◌<◌, length, take, Bool, true, false, List}
use Rattle.std.proofs.Common.{[], ◌∷◌, ◌++◌, map, append-nil, sym, refl, ap, subst, ◌∙◌, codes}
use Rattle.std.specs.List.{filter, flat_map, slice_get}
use Rattle.std.specs.Prelude.{Some, All, MatchOption}
use Rattle.std.specs.Str.{bytes_eq, IsUtf8}
use Rattle.std.specs.Str.Lossy.{utf8_lossy}
use Rattle.std.proofs.lemmas.Cmp.{nat_list_eq_equiv}
use Rattle.std.proofs.lemmas.List.{map-append, take_more}
use Rattle.std.proofs.lemmas.Option.{get_or_from_slice_get, slice_get-get_or, slice_get_within}
use Rattle.std.proofs.lemmas.List.Elements.{All-more, filter-append}
use Rattle.std.proofs.lemmas.List.Concat.{flat_map-append}
use Rattle.mock_request.specs.Request.{Header}
use Rattle.mock_request.specs.Values.{values_of}
use Rattle.mock_request.specs.HeaderFields.{header_pair, header_pairs, texts_of}
use Rattle.mock_request.specs.Cookies.{cookies_in, cookie_pairs}

pub texts_of-append
    : (name : List ℕ) (before after : List Header)
    → texts_of name (before ++ after) ≡ texts_of name before ++ texts_of name after
texts_of-append name before after =
    ap (values_of name) (map-append (λ header. (header.name, utf8_lossy header.value)) before after)
    ∙ ap (map (λ pair. pair.1))
    (filter-append (λ pair. bytes_eq name pair.0) (header_pairs before) (header_pairs after))
    ∙ map-append (λ pair. pair.1)
    (filter (λ pair. bytes_eq name pair.0) (header_pairs before))
    (filter (λ pair. bytes_eq name pair.0) (header_pairs after))

texts_of_one
    : (name : List ℕ) (header : Header) (headers : List Header) → bytes_eq name header.name ≡ true
    → texts_of name (header ∷ headers) ≡ utf8_lossy header.value ∷ texts_of name headers
texts_of_one name header headers named = rw named refl

texts_of_other
    : (name : List ℕ) (header : Header) (headers : List Header) → bytes_eq name header.name ≡ false
    → texts_of name (header ∷ headers) ≡ texts_of name headers
texts_of_other name header headers other = rw other refl

-- ---- the headers that a loop went over

pub more_taken
    : (headers : List Header) (i : ℕ) (header : Header) → i < length headers → Some header ≡ slice_get headers i
    → take (i + 1) headers ≡ take i headers ++ header ∷ []
more_taken headers i header within is =
    take_more headers i header within
    ∙ ap (λ h. take i headers ++ h ∷ []) (get_or_from_slice_get headers i header header (sym is))

pub pairs_more
    : (before : List Header) (header : Header)
    → header_pairs (before ++ header ∷ []) ≡ header_pairs before ++ header_pair header ∷ []
pairs_more before header = map-append header_pair before (header ∷ [])

-- ---- headers whose values are UTF-8

pub text_at
    : (headers : List Header) (i : ℕ) (header : Header) → All (λ h. IsUtf8 h.value) headers
    → Some header ≡ slice_get headers i → IsUtf8 header.value
text_at headers i header all here =
    let within = slice_get_within headers i header (sym here) in
    subst (λ h. IsUtf8 h.value) (get_or_from_slice_get headers i header header (sym here)) (all i header within)

pub more_text
    : (headers : List Header) (i : ℕ) → i < length headers → All (λ h. IsUtf8 h.value) (take i headers)
    → MatchOption (slice_get headers i) ⊥ (λ h. IsUtf8 h.value)
    → All (λ h. IsUtf8 h.value) (take (i + 1) headers)
more_text headers i within all here =
    let empty : Header = record { name = []; value = [] } in
    All-more (λ h. IsUtf8 h.value) headers i empty within all
    (subst (λ o. MatchOption o ⊥ (λ h. IsUtf8 h.value)) (slice_get-get_or headers i empty within) here)

-- the code asks whether the name is the literal, the definition whether the literal is the name
pub other_way_round
    : (literal name read : List ℕ) (b : Bool) → read ≡ name → b ≡ bytes_eq read literal
    → bytes_eq literal name ≡ b
other_way_round literal name read b same asked =
    nat_list_eq_equiv.symm literal name ∙ ap (λ n. bytes_eq n literal) (sym same) ∙ sym asked

-- ---- cookies

pub cookies_more
    : (before : List Header) (header : Header) → bytes_eq (codes "cookie") header.name ≡ true
    → cookie_pairs (before ++ header ∷ []) ≡ cookie_pairs before ++ cookies_in (utf8_lossy header.value)
cookies_more before header named =
    ap (flat_map cookies_in) (texts_of-append (codes "cookie") before (header ∷ []))
    ∙ flat_map-append cookies_in (texts_of (codes "cookie") before) (texts_of (codes "cookie") (header ∷ []))
    ∙ ap (λ ts. cookie_pairs before ++ flat_map cookies_in ts) (texts_of_one (codes "cookie") header [] named)
    ∙ ap (λ ps. cookie_pairs before ++ ps) (append-nil (cookies_in (utf8_lossy header.value)))

pub no_cookies_more
    : (before : List Header) (header : Header) → bytes_eq (codes "cookie") header.name ≡ false
    → cookie_pairs (before ++ header ∷ []) ≡ cookie_pairs before
no_cookies_more before header other =
    ap (flat_map cookies_in) (texts_of-append (codes "cookie") before (header ∷ []))
    ∙ ap (λ ts. flat_map cookies_in (texts_of (codes "cookie") before ++ ts))
    (texts_of_other (codes "cookie") header [] other)
    ∙ ap (flat_map cookies_in) (append-nil (texts_of (codes "cookie") before))
