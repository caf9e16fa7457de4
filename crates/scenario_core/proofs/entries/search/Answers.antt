use Rattle.std.proofs.Common.{rules, string_bytes}
use Rattle.std.proofs.lemmas.Fn.{always_returns_same}
use Rattle.std.specs.Cmp.Lexicographic.{slice_cmp}
use Rattle.std.specs.Ordering.{nat_cmp}
use Rattle.scenario_core.proofs.EntryLemmas.{searched}
use Rattle.scenario_core.proofs.entries.search.Goals as goal

-- the closure compares an entry's name with the one that is looked for
pub returns : goal.returns
returns c =
    let facts = c.binary_search_by.ensures in
    let by_name = facts.position (λ e. slice_cmp nat_cmp (string_bytes e.name) c.args.name.now)
    (always_returns_same _ _ _ (λ a r g called. search rules)) in
    searched c.args.entries.now c.args.name.now c.requires c.binary_search_by.result facts.bound by_name
