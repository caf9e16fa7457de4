use Rattle.std.proofs.Common.{◌≡◌, ◌<◌, ◌^◌, ◌++◌, ◌∙◌, sym, ap, append_assoc, arith, codes}
use Rattle.std.proofs.Common.{decimal, false, length, map}
use Rattle.admin_json.specs.Requests.{json_of_requests}
use Rattle.admin_json.proofs.Regular.{FitsWord, reads_back}
use Rattle.admin_json.proofs.RequestLemmas.{requests_regular}
use Rattle.admin_answers.specs.Inner.Joined.{head_of_requests, joined, text_of}
use Rattle.admin_answers.proofs.JoinedLemmas.{requests_text}
use Rattle.serde_json.specs.Read.{read}
use Rattle.admin_answers.proofs.listing.Listing.of_requests.Goals as goal

pub returns-clause-text : goal.returns-clause-text
returns-clause-text c =
    let entries = c.args.entries.items in
    let rest = joined (codes "]}") false (map text_of entries) in
    let total : c.len.result ≡ length entries = omega arith in
    let first = codes "{\"meta\":{\"total\":" in
    let second = codes "},\"requests\":[" in
    c.new_listing.ensures
    ∙ ap (λ s. s ++ rest) (c.in_ok-head.ensures ∙ ap head_of_requests total)
    ∙ append_assoc first (decimal (length entries) ++ second) rest
    ∙ ap (λ s. first ++ s) (append_assoc (decimal (length entries)) second rest)
    ∙ sym (requests_text entries)

pub returns-clause-reads_back : goal.returns-clause-reads_back
returns-clause-reads_back c all shallow =
    let entries = c.args.entries.items in
    let total : length entries < 2 ^ 64 = omega arith in
    ap read (returns-clause-text c)
    ∙ reads_back (json_of_requests entries) (requests_regular FitsWord entries total all) shallow
