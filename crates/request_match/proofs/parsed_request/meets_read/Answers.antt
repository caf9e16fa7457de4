use Rattle.std.proofs.Common.{◌↔◌, IfOk, IsTrue, sym, subst}
use Rattle.std.specs.Option.{IsSomeAnd, option_map}
use Rattle.data_tree.specs.Tree.{view}
use Rattle.json_match.specs.Matching as json
use Rattle.request_match.proofs.parsed_request.meets_read.Goals as goal

pub returns-in-Some : goal.returns-in-Some
returns-in-Some c = record {
  answer = subst (λ o. IfOk c.matches.result (λ b. IsTrue b
      ↔ IsSomeAnd (option_map view o) (json.Matches c.args.matcher.now))) (sym c.in-Some.is) c.matches.ensures.answer;
}
