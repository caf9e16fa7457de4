use Rattle.std.proofs.Common.{◌≡◌, ◌&&◌, nat_lt, length, None, Some, ap, sym, if◌then◌else◌, arith}
use Rattle.std.specs.List.{before_first, after_first}
use Rattle.mock_request.specs.Cookies.{equals_sign, is_equals_sign, cookie_in}
use Rattle.mock_request.proofs.UrlLemmas.{lacks_char}
use Rattle.mock_request.proofs.cookies.cookie_in.Goals as goal

pub returns-in_err-name : goal.returns-in_err-name
returns-in_err-name c =
    let piece = c.args.piece.now in
    let name = before_first is_equals_sign piece in
    let value = after_first is_equals_sign piece in
    let none : cookie_in piece ≡ None =
    ap (λ b. if b && nat_lt 0 (length name) then Some (name, value) else None)
    (lacks_char equals_sign piece c.in_err-name.ensures.cases (omega arith)) in
    rw c.from_residual.ensures (sym none)
