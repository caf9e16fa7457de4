use Rattle.std.proofs.Common.{◌≡◌, ◌<◌, ◌∙◌, ℕ, List, true, length, subst, sym}
use Rattle.std.specs.List.{list_all}
use Rattle.std.proofs.lemmas.Bool.{false≢true}
use Rattle.std.proofs.lemmas.List.Sums.{AllPass-from_list_all}
use Rattle.http_header.specs.Token.{IsToken, is_token_byte, token_test}
use Rattle.answering.proofs.header.header.Goals as goal

token : (name : List ℕ) → 0 < length name → list_all token_test name ≡ true → IsToken name
unfolding is_token_byte
token name some all = (some, AllPass-from_list_all token_test name all)

pub unreachable-requires : goal.unreachable-requires
unreachable-requires c =
    let same = c.from.ensures ∙ c.in_ok-from_str.ensures.ok in
    let is : IsToken c.from.result =
    subst IsToken (sym same) (token c.args.name.now c.requires.some c.requires.token) in
    false≢true (c.in-None.ensures.some.1 is)
