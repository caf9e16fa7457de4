-- What one more pair of a query adds.
use Rattle.std.proofs.Common.{◌≡◌, ℕ, List, [], ◌∷◌, ◌++◌, map, String, string_bytes, append_assoc}
use Rattle.std.proofs.Common.{append-nil, sym, refl, ap, ◌∙◌}
use Rattle.std.specs.declared.alloc.Global.{Global}
use Rattle.std.specs.Str.Lossy.{utf8_lossy}
use Rattle.std.proofs.lemmas.List.{map-append}
use Rattle.form_urlencoded.specs.Form.{parse, raw_pairs, decode, DecodesTo}
use Rattle.mock_request.specs.Values.{pair_of, pairs_of}
use Rattle.mock_request.specs.Query.{text_pair}

-- the texts of pairs that are still encoded
abbrev pub texts_left : List (List ℕ × List ℕ) → List (List ℕ × List ℕ)
texts_left raw = map (λ pair. text_pair (decode pair.0, decode pair.1)) raw

decoded
    : (raw : List (List ℕ × List ℕ))
    → map text_pair (map (λ pair. (decode pair.0, decode pair.1)) raw) ≡ texts_left raw
decoded [] = refl
decoded (pair ∷ raw) = ap (λ ps. text_pair (decode pair.0, decode pair.1) ∷ ps) (decoded raw)

pub texts_of_form : (form : List ℕ) → map text_pair (parse form) ≡ texts_left (raw_pairs form)
texts_of_form form = decoded (raw_pairs form)

pub pair_more
    : (was : List (String Global × String Global)) (pair : String Global × String Global) (name value : List ℕ)
    (left rest whole : List (List ℕ × List ℕ))
    → pairs_of was ++ texts_left left ≡ whole → left ≡ (name, value) ∷ rest
    → DecodesTo name (string_bytes pair.0) → DecodesTo value (string_bytes pair.1)
    → pairs_of (was ++ pair ∷ []) ++ texts_left rest ≡ whole
pair_more was pair name value left rest whole so_far next named valued =
    let this : pair_of pair ≡ text_pair (decode name, decode value) =
    ap (λ n. (n, string_bytes pair.1)) named.2 ∙ ap (λ v. (utf8_lossy (decode name), v)) valued.2 in
    ap (λ ps. ps ++ texts_left rest) (map-append pair_of was (pair ∷ []))
    ∙ append_assoc (pairs_of was) (pair_of pair ∷ []) (texts_left rest)
    ∙ ap (λ p. pairs_of was ++ (p ∷ texts_left rest)) this
    ∙ ap (λ raw. pairs_of was ++ texts_left raw) (sym next)
    ∙ so_far

pub no_pair_left
    : (was : List (String Global × String Global)) (left whole : List (List ℕ × List ℕ))
    → pairs_of was ++ texts_left left ≡ whole → left ≡ [] → pairs_of was ≡ whole
no_pair_left was left whole so_far none =
    sym (append-nil (pairs_of was)) ∙ ap (λ raw. pairs_of was ++ texts_left raw) (sym none) ∙ so_far
