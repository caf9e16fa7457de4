use Rattle.admin_answers.proofs.ReadLemmas.{numbered}
use Rattle.request_journal.specs.declared.entry.Entry.{Entry}
use Rattle.request_match.specs.Matching.{MeetsRequest}
use Rattle.admin_answers.proofs.reads.count_listing.Goals as goal

pub returns : goal.returns
returns c =
    numbered (λ (entry : Entry). MeetsRequest c.args.matcher entry.request) c.args.entries.items c.of_count.result
    c.of_count.ensures.text
