-- Lists of pairs, read from the front and made at the end.
use Rattle.std.proofs.Common.{◌≡◌, ℕ, suc, ◌+◌, ◌<◌, arith, List, [], ◌∷◌, ◌++◌, ◌∙◌}
use Rattle.std.proofs.Common.{ap, sym, length, take, drop, String, string_bytes}
use Rattle.std.specs.Prelude.{if◌then◌else◌, get_or}
use Rattle.std.specs.Str.{str_eq_ignore_ascii_case}
use Rattle.std.specs.declared.alloc.Global.{Global}
use Rattle.std.proofs.Math.Seq.{take-suc, drop-cons}
use Rattle.std.proofs.lemmas.List.{map-append}
use Rattle.std.proofs.lemmas.List.Elements.{filter_map-append}
use Rattle.mock_request.specs.Values.{pair_of, pairs_of}
use Rattle.har_export.specs.Pairs.{first_named, cookie_set, cookies_set}

pub taken : {A : Type 0} (xs : List A) (i : ℕ) (x : A) → i < length xs → x ≡ get_or xs i x
    → take (i + 1) xs ≡ take i xs ++ x ∷ []
taken xs i x within is =
    let next : i + 1 ≡ suc i = omega arith in
    ap (λ n. take n xs) next ∙ take-suc xs i x within ∙ ap (λ y. take i xs ++ y ∷ []) (sym is)

pub first_from
    : (name default : List ℕ) (pairs : List (String Global × String Global)) (i : ℕ)
    (p : String Global × String Global) → i < length pairs → p ≡ get_or pairs i p
    → first_named name default (pairs_of (drop i pairs))
    ≡ (if str_eq_ignore_ascii_case name (string_bytes p.0) then string_bytes p.1
    else first_named name default (pairs_of (drop (i + 1) pairs)))
first_from name default pairs i p within is =
    let next : suc i ≡ i + 1 = omega arith in
    ap (λ ps. first_named name default (pairs_of ps))
    (drop-cons pairs i p within ∙ ap (λ y. y ∷ drop (suc i) pairs) (sym is) ∙ ap (λ n. p ∷ drop n pairs) next)

pub cookies_more
    : (pairs : List (String Global × String Global)) (i : ℕ) (p : String Global × String Global)
    → i < length pairs → p ≡ get_or pairs i p
    → cookies_set (pairs_of (take (i + 1) pairs))
    ≡ cookies_set (pairs_of (take i pairs)) ++ cookies_set (pair_of p ∷ [])
cookies_more pairs i p within is =
    ap (λ ps. cookies_set (pairs_of ps)) (taken pairs i p within is)
    ∙ ap cookies_set (map-append pair_of (take i pairs) (p ∷ []))
    ∙ filter_map-append cookie_set (pairs_of (take i pairs)) (pair_of p ∷ [])
