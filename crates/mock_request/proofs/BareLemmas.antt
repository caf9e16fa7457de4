-- The parts of a block with the method, the URL and the body of a request.
use Rattle.std.proofs.Common.{◌≡◌, ℕ, ◌+◌, ◌-◌, ◌∙◌, ap, sym, arith, List, ◌++◌, length, take, drop}
use Rattle.std.proofs.Math.Seq.{take-append_seam, drop-append_seam}
use Rattle.std.proofs.lemmas.List.{drop-drop}
use Rattle.mock_request.specs.Inner.Bare.{bare_in}

pub joined_parts
    : (method url body bytes : List ℕ) (url_start body_start : ℕ) → bytes ≡ method ++ (url ++ body)
    → url_start ≡ length method → body_start ≡ length method + length url
    → bare_in url_start body_start bytes ≡ record { method = method; url = url; body = body }
joined_parts method url body bytes url_start body_start whole first second =
    let before : take url_start bytes ≡ method = rw (whole, first) (take-append_seam method (url ++ body)) in
    let after : drop url_start bytes ≡ url ++ body = rw (whole, first) (drop-append_seam method (url ++ body)) in
    let width : body_start - url_start ≡ length url = omega (arith, first, second) in
    let place : body_start ≡ url_start + length url = omega (arith, first, second) in
    let between : take (body_start - url_start) (drop url_start bytes) ≡ url =
    rw (after, width) (take-append_seam url body) in
    let rest : drop body_start bytes ≡ body =
    ap (λ n. drop n bytes) place ∙ sym (drop-drop (length url) url_start bytes) ∙ ap (drop (length url)) after
    ∙ drop-append_seam url body in
    cc
