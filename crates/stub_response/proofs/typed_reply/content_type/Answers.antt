use Rattle.std.proofs.Common.{refl, sym, ◌∙◌, codes, subst, arith}
use Rattle.std.proofs.lemmas.Bool.{false≢true}
use Rattle.std.proofs.lemmas.List.Sums.{AllPass-from_list_all}
use Rattle.http_header.specs.Token.{IsToken, is_token_byte, token_test}
use Rattle.stub_response.proofs.typed_reply.content_type.Goals as goal

token : IsToken (codes "content-type")
unfolding is_token_byte
token = (omega arith, AllPass-from_list_all token_test (codes "content-type") refl)

pub unreachable-requires : goal.unreachable-requires
unreachable-requires c =
    let same = c.from.ensures ∙ c.in_ok-from_str.ensures.ok in
    let is : IsToken c.from.result = subst IsToken (sym same) token in
    false≢true (c.in-None.ensures.some.1 is)
