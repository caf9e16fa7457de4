use Rattle.std.proofs.Common.{◌++◌, ◌∙◌, sym, ap, codes, false, map}
use Rattle.admin_json.specs.Requests.{json_of_found}
use Rattle.admin_json.proofs.Regular.{FitsWord, reads_back}
use Rattle.admin_json.proofs.RequestLemmas.{found_regular}
use Rattle.admin_answers.specs.Inner.Joined.{joined, text_of}
use Rattle.admin_answers.proofs.JoinedLemmas.{found_text}
use Rattle.serde_json.specs.Read.{read}
use Rattle.admin_answers.proofs.listing.Listing.of_found.Goals as goal

pub returns-clause-text : goal.returns-clause-text
returns-clause-text c =
    c.new_listing.ensures
    ∙ ap (λ s. s ++ joined (codes "]}") false (map text_of c.args.entries.items)) c.in_ok-head.ensures.ok
    ∙ sym (found_text c.args.entries.items)

pub returns-clause-reads_back : goal.returns-clause-reads_back
returns-clause-reads_back c all shallow =
    let entries = c.args.entries.items in
    ap read (returns-clause-text c)
    ∙ reads_back (json_of_found entries) (found_regular FitsWord entries all) shallow
