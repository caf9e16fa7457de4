use Rattle.std.proofs.Common.{◌↔◌, IfOk, IsTrue, sym, subst}
use Rattle.std.specs.Option.{IsSomeAnd}
use Rattle.std.specs.Str.Lossy.{utf8_lossy}
use Rattle.json_bridge.specs.Reading.{tree_of_text}
use Rattle.json_match.specs.Matching as json
use Rattle.request_match.proofs.ReadLemmas.{was_read}
use Rattle.request_match.proofs.parsed_request.ParsedRequest.meets_json.Goals as goal
use Rattle.request_match.proofs.parsed_request.ParsedRequest.meets_json.Goals.{in-Some, in-None}
use Rattle.request_match.specs.Inner.Read.{IsReadOf}

pub returns-clause-answer : goal.returns-clause-answer
returns-clause-answer c =
    let P = json.Matches c.args.matcher.now in
    let body = c.self.inside.snapshot.now.body in
    subst (λ q. IfOk c.match-self.result
    (λ b. IsTrue b ↔ IsSomeAnd (tree_of_text (utf8_lossy q.body)) P)) c.self.view_is
    (elim c.match-self.branch [
      | in-Some w ↦ subst (λ r.
          IfOk r (λ b. IsTrue b ↔ IsSomeAnd (tree_of_text (utf8_lossy body)) P)) (sym w.result-is)
          (was_read P body c.read_json.new.json w.in-Some.found w.meets_read.result c.in_ok-read_json.ensures.read
          w.in-Some.is w.meets_read.ensures.answer)
      | in-None w ↦
          absurd (subst (λ k. IsSomeAnd k (IsReadOf body)) w.in-None.is c.in_ok-read_json.ensures.read)
    ])
