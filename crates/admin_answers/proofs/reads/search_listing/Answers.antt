use Rattle.std.proofs.Common.{◌+◌, ◌≤◌, ◌^◌, arith}
use Rattle.admin_answers.proofs.ReadLemmas.{searched}
use Rattle.request_journal.specs.declared.entry.Entry.{Entry}
use Rattle.request_match.specs.Matching.{MeetsRequest}
use Rattle.admin_answers.proofs.reads.search_listing.Goals as goal

pub returns : goal.returns
returns c =
    let fits : c.args.last + 1 ≤ 2 ^ 64 = omega arith in
    searched (λ (entry : Entry). MeetsRequest c.args.matcher entry.request) c.args.entries.items (c.args.last + 1)
    c.of_search.result fits c.of_search.ensures.text
