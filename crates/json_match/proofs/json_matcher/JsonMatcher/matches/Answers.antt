use Rattle.std.proofs.Common.{ap, subst, ◌∙◌, IfOk, IsTrue, ◌↔◌}
use Rattle.data_tree.specs.LookUp.{at}
use Rattle.data_tree.specs.Tree.{view}
use Rattle.json_match.proofs.Tests.{matches_tree, matches_path}
use Rattle.json_match.specs.Matching.{Matches, is_something}
use Rattle.json_match.proofs.json_matcher.JsonMatcher.matches.Goals as goal

pub returns-in-EqualTo : goal.returns-in-EqualTo
returns-in-EqualTo c = record {
  answer = subst (λ spec. IfOk c.is_equal.result (λ answer. IsTrue answer ↔ Matches spec (view c.args.actual.now)))
      c.self.view_is
      (matches_tree c.self.inside.spec c.self.inside.test c.in-EqualTo.expected c.in-EqualTo.flags
      (view c.args.actual.now) c.is_equal.result c.self.invariant c.in-EqualTo.is c.requires c.is_equal.ensures);
}

pub returns-in-Path : goal.returns-in-Path
returns-in-Path c = record {
  answer = subst (λ spec. IsTrue c.finds_something.result ↔ Matches spec (view c.args.actual.now))
      c.self.view_is
      (matches_path c.self.inside.spec c.self.inside.test c.in-Path.path (view c.args.actual.now)
      c.finds_something.result c.self.invariant c.in-Path.is
      (c.finds_something.ensures ∙ ap is_something
      (c.at.ensures.found ∙ ap (λ steps. at steps (view c.args.actual.now)) c.steps.ensures)));
}
