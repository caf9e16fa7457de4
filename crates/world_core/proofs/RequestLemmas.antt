-- Which requests meet the matcher of a recorded request: it itself, and only those with its key.
use Rattle.std.proofs.Common.{◌≡◌, ◌≢◌, ◌≤◌, ℕ, zero, suc, true, cond, List, [], ◌∷◌, ◌++◌, length, map, All, refl, sym}
use Rattle.std.proofs.Common.{ap, ap₂, ◌∙◌, inl, inr, arith, codes, subst}
use Rattle.std.specs.Prelude.{◌&&◌, nat_le, bytes_eq}
use Rattle.std.specs.Char.{to_ascii_lowercase}
use Rattle.std.specs.Cmp.Lexicographic.{pointwise}
use Rattle.std.specs.List.{filter, list_all}
use Rattle.std.specs.Str.{is_utf8, str_eq_ignore_ascii_case}
use Rattle.std.specs.Str.Lossy.{utf8_lossy}
use Rattle.std.proofs.lemmas.Bool.{and_parts, cases_Bool, cond-true, cond-false, leb-true}
use Rattle.std.proofs.lemmas.Slice.Eq.{bytes_eq-Decides}
use Rattle.std.proofs.lemmas.Str.{IsUtf8-from_is_utf8, utf8_lossy-IsUtf8}
use Rattle.mapping_model.specs.declared.body_pattern.BodyPattern.{BodyPattern}
use Rattle.mapping_model.specs.declared.body_pattern.BodyPattern.TheVariants as pattern
use Rattle.mapping_model.specs.declared.named_matcher.NamedMatcher.{NamedMatcher}
use Rattle.mock_request.specs.HeaderFields.{texts_of}
use Rattle.mock_request.specs.Request.{Header, Request}
use Rattle.recorder.specs.Key.{KeyParts, captured_headers, headers_named, key_of, same_header, same_key}
use Rattle.recorder.specs.Inner.Keys.{same_key_laws}
use Rattle.recorder.specs.Stubs.{body_pattern, first_value, header_matcher, is_kept, is_text_once, can_be_response}
use Rattle.recorder.specs.Stubs.{request_of}
use Rattle.recorder.specs.declared.exchange.Exchange.{Exchange}
use Rattle.request_match.specs.Matching.{MeetsRequest}
use Rattle.request_match.specs.Parts.Matching.{MeetHeaders, MeetsAny, MeetsBody}
use Rattle.value_match.specs.declared.value_spec.ValueSpec.TheVariants as value
use Rattle.world_core.proofs.ListFacts.{all_first, all_more, all_none, all_rest}

-- ---- equal keys

same_bytes : (a b : List ℕ) → bytes_eq a b ≡ true → a ≡ b
same_bytes a b is = (bytes_eq-Decides a b).0 is

same_headers : (xs ys : List Header) → pointwise same_header xs ys ≡ true → xs ≡ ys
same_headers [] [] is = refl
same_headers [] (y ∷ ys) is = cc
same_headers (x ∷ xs) [] is = cc
same_headers (x ∷ xs) (y ∷ ys) is =
    let parts = and_parts (same_header x y) (pointwise same_header xs ys) is in
    let both = and_parts (bytes_eq x.name y.name) (bytes_eq x.value y.value) parts.0 in
    let name = same_bytes x.name y.name both.0 in
    let value = same_bytes x.value y.value both.1 in
    let rest = same_headers xs ys parts.1 in
    λ i. record { name = name i; value = value i } ∷ rest i

pub equal_key : (a b : KeyParts) → same_key a b ≡ true → a ≡ b
equal_key a b is =
    let last = and_parts ((bytes_eq a.method b.method && bytes_eq a.url b.url)
    && pointwise same_header a.headers b.headers)
    (bytes_eq a.body b.body) is in
    let middle = and_parts (bytes_eq a.method b.method && bytes_eq a.url b.url)
    (pointwise same_header a.headers b.headers) last.0 in
    let first = and_parts (bytes_eq a.method b.method) (bytes_eq a.url b.url) middle.0 in
    let method = same_bytes a.method b.method first.0 in
    let url = same_bytes a.url b.url first.1 in
    let headers = same_headers a.headers b.headers middle.1 in
    let body = same_bytes a.body b.body last.1 in
    λ i. record { method = method i; url = url i; headers = headers i; body = body i }

pub itself_key : (a : KeyParts) → same_key a a ≡ true
itself_key a = same_key_laws.refl a

-- ---- headers of a name

abbrev pub IsLower : Header → Type 0
IsLower header = map to_ascii_lowercase header.name ≡ header.name

abbrev text_of : Header → List ℕ
text_of header = utf8_lossy header.value

-- one header at most, and a text
abbrev IsOnce : List Header → Type 0
IsOnce [] = Unit {0}
IsOnce (h ∷ []) = is_utf8 h.value ≡ true
IsOnce (h ∷ i ∷ hs) = ⊥

once : (hs : List Header) → is_text_once hs ≡ true → IsOnce hs
once [] is = tt
once (h ∷ []) is =
    (and_parts (is_utf8 h.value) true
    (and_parts (nat_le (length (h ∷ [])) 1) (list_all (λ header. is_utf8 header.value) (h ∷ [])) is).1).0
once (h ∷ i ∷ hs) is =
    let few : length (h ∷ i ∷ hs) ≤ 1 = leb-true (length (h ∷ i ∷ hs)) 1
    (and_parts (nat_le (length (h ∷ i ∷ hs)) 1)
    (list_all (λ header. is_utf8 header.value) (h ∷ i ∷ hs)) is).0 in
    absurd (omega (arith, few))

-- their names are this one, in lower case
abbrev AreNamed : List ℕ → List Header → Type 0
AreNamed name [] = Unit {0}
AreNamed name (h ∷ hs) = (h.name ≡ map to_ascii_lowercase name) × AreNamed name hs

are_named : (name : List ℕ) (hs : List Header) → All IsLower hs → AreNamed name (headers_named name hs)
are_named name [] lower = tt
are_named name (h ∷ hs) lower =
    let rest = are_named name hs (all_rest IsLower h hs lower) in
    elim (cases_Bool (str_eq_ignore_ascii_case name h.name)) [
      | inl hit ↦
          let is : h.name ≡ map to_ascii_lowercase name =
          sym (same_bytes (map to_ascii_lowercase name) (map to_ascii_lowercase h.name) hit
          ∙ all_first IsLower h hs lower) in
          subst (AreNamed name) (sym (cond-true (str_eq_ignore_ascii_case name h.name) (h ∷ headers_named name hs)
          (headers_named name hs) hit)) (is, rest)
      | inr miss ↦
          subst (AreNamed name) (sym (cond-false (str_eq_ignore_ascii_case name h.name) (h ∷ headers_named name hs)
          (headers_named name hs) miss)) rest
    ]

-- the texts that a matcher of that name is compared with
texts_named : (name : List ℕ) (hs : List Header) → All IsLower hs
    → texts_of (map to_ascii_lowercase name) hs ≡ map text_of (headers_named name hs)
texts_named name [] lower = refl
texts_named name (h ∷ hs) lower =
    let low : List ℕ = map to_ascii_lowercase name in
    let rest : texts_of low hs ≡ map text_of (headers_named name hs) =
    texts_named name hs (all_rest IsLower h hs lower) in
    let same : str_eq_ignore_ascii_case name h.name ≡ bytes_eq low h.name =
    ap (bytes_eq low) (all_first IsLower h hs lower) in
    let pairs : List (List ℕ × List ℕ) = filter (λ (pair : List ℕ × List ℕ). bytes_eq low pair.0)
    (map (λ (x : Header). (x.name, utf8_lossy x.value)) hs) in
    elim (cases_Bool (bytes_eq low h.name)) [
      | inl hit ↦
          ap (λ b. map (λ (pair : List ℕ × List ℕ). pair.1)
          (cond b ((h.name, utf8_lossy h.value) ∷ pairs) pairs)) hit
          ∙ ap (λ t. utf8_lossy h.value ∷ t) rest
          ∙ sym (ap (λ b. map text_of (cond b (h ∷ headers_named name hs) (headers_named name hs))) (same ∙ hit))
      | inr miss ↦
          ap (λ b. map (λ (pair : List ℕ × List ℕ). pair.1)
          (cond b ((h.name, utf8_lossy h.value) ∷ pairs) pairs)) miss
          ∙ rest
          ∙ sym (ap (λ b. map text_of (cond b (h ∷ headers_named name hs) (headers_named name hs))) (same
          ∙ miss))
    ]

lossless : (bytes : List ℕ) → is_utf8 bytes ≡ true → utf8_lossy bytes ≡ bytes
lossless bytes is = utf8_lossy-IsUtf8 bytes (IsUtf8-from_is_utf8 bytes is)

own_value : (hs : List Header) → IsOnce hs → MeetsAny (first_value hs) (map text_of hs)
own_value [] is = tt
own_value (h ∷ []) is = (0, utf8_lossy h.value, omega arith, refl, lossless h.value is)
own_value (h ∷ i ∷ hs) is = absurd is

only_value : (name : List ℕ) (xs ys : List Header) → IsOnce xs → IsOnce ys → AreNamed name xs
    → AreNamed name ys → MeetsAny (first_value xs) (map text_of ys) → xs ≡ ys
only_value name [] [] once also named too meets = refl
only_value name [] (y ∷ ys) once also named too (k, text, lt, is, never) = absurd never
only_value name (x ∷ []) [] once also named too meets = absurd meets
only_value name (x ∷ []) (y ∷ []) once also named too (zero, text, lt, is, same) =
    let value : x.value ≡ y.value = sym (sym (lossless y.value also) ∙ is ∙ same) in
    let names : x.name ≡ y.name = named.0 ∙ sym too.0 in
    λ i. record { name = names i; value = value i } ∷ []
only_value name (x ∷ []) (y ∷ []) once also named too (suc k, text, lt, is, same) = absurd (omega (arith, lt))
only_value name (x ∷ []) (y ∷ z ∷ ys) once also named too meets = absurd also
only_value name (x ∷ w ∷ xs) ys once also named too meets = absurd once

-- ---- headers of all names

abbrev AreOnce : List (List ℕ) → List Header → Type 0
AreOnce captured hs = list_all (λ name. is_text_once (headers_named name hs)) captured ≡ true

own_headers : (captured : List (List ℕ)) (request : Request) → AreOnce captured request.headers
    → All IsLower request.headers → MeetHeaders (map (header_matcher request.headers) captured) request
own_headers [] request once_each lower =
    all_none (λ m. MeetsAny m.matcher (texts_of (map to_ascii_lowercase m.name) request.headers))
own_headers (name ∷ names) request once_each lower =
    let parts = and_parts (is_text_once (headers_named name request.headers))
    (list_all (λ n. is_text_once (headers_named n request.headers)) names) once_each in
    all_more (λ m. MeetsAny m.matcher (texts_of (map to_ascii_lowercase m.name) request.headers))
    (header_matcher request.headers name) (map (header_matcher request.headers) names)
    (subst (MeetsAny (first_value (headers_named name request.headers))) (sym (texts_named name request.headers lower))
    (own_value (headers_named name request.headers) (once (headers_named name request.headers) parts.0)))
    (own_headers names request parts.1 lower)

only_headers : (captured : List (List ℕ)) (hs : List Header) (request : Request) → AreOnce captured hs
    → AreOnce captured request.headers → All IsLower hs → All IsLower request.headers
    → MeetHeaders (map (header_matcher hs) captured) request
    → captured_headers captured hs ≡ captured_headers captured request.headers
only_headers [] hs request once_each also lower too meet = refl
only_headers (name ∷ names) hs request once_each also lower too meet =
    let Meets : NamedMatcher → Type 0 =
    λ m. MeetsAny m.matcher (texts_of (map to_ascii_lowercase m.name) request.headers) in
    let first = all_first Meets (header_matcher hs name) (map (header_matcher hs) names) meet in
    let rest = all_rest Meets (header_matcher hs name) (map (header_matcher hs) names) meet in
    let parts = and_parts (is_text_once (headers_named name hs))
    (list_all (λ n. is_text_once (headers_named n hs)) names) once_each in
    let others = and_parts (is_text_once (headers_named name request.headers))
    (list_all (λ n. is_text_once (headers_named n request.headers)) names) also in
    let same : headers_named name hs ≡ headers_named name request.headers =
    only_value name (headers_named name hs) (headers_named name request.headers)
    (once (headers_named name hs) parts.0) (once (headers_named name request.headers) others.0)
    (are_named name hs lower) (are_named name request.headers too)
    (subst (MeetsAny (first_value (headers_named name hs))) (texts_named name request.headers too) first) in
    ap₂ (λ xs ys. xs ++ ys) same (only_headers names hs request parts.1 others.1 lower too rest)

-- ---- bodies

own_body : (bytes : List ℕ) → MeetsBody (body_pattern bytes) bytes
own_body [] = inr (refl, tt)
own_body (b ∷ bs) = elim (cases_Bool (is_utf8 (b ∷ bs))) [
  | inl hit ↦ subst (λ (p : BodyPattern). MeetsBody p (b ∷ bs)) (sym (cond-true (is_utf8 (b ∷ bs)) _ _ hit))
      (inl (lossless (b ∷ bs) hit))
  | inr miss ↦ subst (λ (p : BodyPattern). MeetsBody p (b ∷ bs))
      (sym (cond-false (is_utf8 (b ∷ bs)) _ _ miss)) refl
]

only_body : (recorded bytes : List ℕ) → (utf8_lossy recorded ≡ utf8_lossy bytes → recorded ≡ bytes)
    → MeetsBody (body_pattern recorded) bytes → recorded ≡ bytes
only_body [] bytes tells (inl never) = absurd never
only_body [] bytes tells (inr empty) = sym empty.0
only_body (b ∷ bs) bytes tells meets = elim (cases_Bool (is_utf8 (b ∷ bs))) [
  | inl hit ↦
      let is : MeetsBody (pattern.Value (value.EqualTo (b ∷ bs))) bytes =
      subst (λ (p : BodyPattern). MeetsBody p bytes) (cond-true (is_utf8 (b ∷ bs)) _ _ hit) meets in
      elim is [
        | inl same ↦ tells (lossless (b ∷ bs) hit ∙ sym same)
        | inr never ↦ absurd never.1
      ]
  | inr miss ↦
      let is : MeetsBody (pattern.BinaryEqualTo (b ∷ bs)) bytes =
      subst (λ (p : BodyPattern). MeetsBody p bytes) (cond-false (is_utf8 (b ∷ bs)) _ _ miss) meets in
      sym is
]

-- ---- whole requests

module _ (captured : List (List ℕ)) where
  kept_headers : (exchange : Exchange) → is_kept captured exchange ≡ true
      → AreOnce captured exchange.request.headers
  kept_headers exchange is =
      (and_parts (list_all (λ name. is_text_once (headers_named name exchange.request.headers)) captured)
      (can_be_response exchange.reply) is).0

  pub meets_itself : (exchange : Exchange) → is_kept captured exchange ≡ true
      → All IsLower exchange.request.headers → MeetsRequest (request_of captured exchange) exchange.request
  meets_itself exchange is_kept lower = record {
    method = inr refl;
    url = refl;
    headers = own_headers captured exchange.request (kept_headers exchange is_kept) lower;
    query = all_none _;
    cookies = all_none _;
    body = all_more (λ p. MeetsBody p exchange.request.body) (body_pattern exchange.request.body) []
        (own_body exchange.request.body) (all_none (λ p. MeetsBody p exchange.request.body));
  }

  pub meets_its_key : (recorded exchange : Exchange) → is_kept captured recorded ≡ true
      → is_kept captured exchange ≡ true
      → All IsLower recorded.request.headers → All IsLower exchange.request.headers
      → recorded.request.method ≢ codes "ANY"
      → (utf8_lossy recorded.request.body ≡ utf8_lossy exchange.request.body
      → recorded.request.body ≡ exchange.request.body)
      → MeetsRequest (request_of captured recorded) exchange.request
      → key_of recorded.request captured ≡ key_of exchange.request captured
  meets_its_key recorded exchange is_kept also lower too method tells meets =
      let same_method : recorded.request.method ≡ exchange.request.method =
      elim meets.method [ inl any ↦ absurd (method any) | inr same ↦ same ] in
      let same_url : recorded.request.url ≡ exchange.request.url = sym meets.url in
      let headers = only_headers captured recorded.request.headers exchange.request (kept_headers recorded is_kept)
      (kept_headers exchange also) lower too meets.headers in
      let same_body = only_body recorded.request.body exchange.request.body tells
      (all_first (λ p. MeetsBody p exchange.request.body) (body_pattern recorded.request.body) [] meets.body) in
      λ i. record { method = same_method i; url = same_url i; headers = headers i; body = same_body i }
