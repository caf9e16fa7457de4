use Rattle.std.proofs.Common.{◌≡◌, ◌<◌, ◌≤◌, ◌^◌, ◌++◌, ◌∷◌, [], ◌∙◌, sym, ap, arith, codes, decimal, false, filter}
use Rattle.std.proofs.Common.{length, refl}
use Rattle.admin_json.specs.Requests.{json_of_number}
use Rattle.admin_json.proofs.Regular.{reads_back}
use Rattle.admin_answers.specs.Inner.Joined.{joined}
use Rattle.admin_answers.specs.Inner.Searched.{found_in, met_by}
use Rattle.admin_answers.proofs.JoinedLemmas.{count_text}
use Rattle.admin_answers.proofs.MeetsLemmas.{meets_request}
use Rattle.admin_answers.proofs.SearchLemmas.{filter_short, picks_filter}
use Rattle.request_journal.specs.declared.entry.Entry.{Entry}
use Rattle.request_match.specs.Matching.{MeetsRequest}
use Rattle.serde_json.specs.Read.{read}
use Rattle.serde_json.specs.Written.{compact_text}
use Rattle.admin_answers.proofs.listing.Listing.of_count.Goals as goal

pub returns : goal.returns
returns c =
    let matcher = c.args.matcher in
    let entries = c.args.entries.items in
    let found = filter (met_by matcher) entries in
    let total : c.len-total.result ≡ length entries = omega arith in
    let within : length entries < 2 ^ 64 = omega arith in
    let short : length found ≤ length entries = filter_short (met_by matcher) entries in
    let fits : length found < 2 ^ 64 = omega arith in
    let text : c.new_listing.result ≡ compact_text (json_of_number (length found)) =
    c.new_listing.ensures
    ∙ ap (λ s. s ++ joined (codes "}") false (decimal (length (found_in c.new.result)) ∷ [])) c.in_ok-head.ensures.ok
    ∙ ap (λ es. codes "{\"count\":" ++ joined (codes "}") false (decimal (length es) ∷ [])) c.new.ensures
    ∙ sym (count_text (length found)) in
    record {
      text = (
        length found,
        (
          found,
          picks_filter (met_by matcher) (λ (e : Entry). MeetsRequest matcher e.request)
              (λ (e : Entry). meets_request matcher e.request) entries,
          refl,
        ),
        text,
        ap read text ∙ reads_back (json_of_number (length found)) ((tt, tt), (fits, tt)) (omega arith),
      );
    }
