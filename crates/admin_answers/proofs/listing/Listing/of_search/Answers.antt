use Rattle.std.proofs.Common.{◌≡◌, ◌<◌, ◌^◌, ◌++◌, ◌∙◌, sym, ap, codes, false, map, filter}
use Rattle.admin_json.specs.Requests.{json_of_found}
use Rattle.admin_json.proofs.Regular.{FitsWord, reads_back}
use Rattle.admin_json.proofs.RequestLemmas.{found_regular}
use Rattle.admin_answers.specs.Inner.Joined.{joined, text_of}
use Rattle.admin_answers.specs.Inner.Searched.{found_in, met_by}
use Rattle.admin_answers.proofs.JoinedLemmas.{found_text}
use Rattle.admin_answers.proofs.MeetsLemmas.{meets_request}
use Rattle.admin_answers.proofs.SearchLemmas.{all_filter, picks_filter}
use Rattle.request_journal.specs.declared.entry.Entry.{Entry}
use Rattle.request_match.specs.Matching.{MeetsRequest}
use Rattle.serde_json.specs.Read.{read}
use Rattle.serde_json.specs.Written.{compact_text}
use Rattle.admin_answers.proofs.listing.Listing.of_search.Goals as goal

pub returns : goal.returns
returns c =
    let matcher = c.args.matcher in
    let entries = c.args.entries.items in
    let found = filter (met_by matcher) entries in
    let text : c.new_listing.result ≡ compact_text (json_of_found found) =
    c.new_listing.ensures
    ∙ ap (λ s. s ++ joined (codes "]}") false (map text_of (found_in c.new.result))) c.in_ok-head.ensures.ok
    ∙ ap (λ es. codes "{\"requests\":[" ++ joined (codes "]}") false (map text_of es)) c.new.ensures
    ∙ sym (found_text found) in
    record {
      text = (
        found,
        picks_filter (met_by matcher) (λ (e : Entry). MeetsRequest matcher e.request)
            (λ (e : Entry). meets_request matcher e.request) entries,
        text,
        λ all shallow. ap read text
            ∙ reads_back (json_of_found found)
            (found_regular FitsWord found
            (all_filter (met_by matcher) (λ (e : Entry). e.number < 2 ^ 64) entries all)) shallow,
      );
    }
