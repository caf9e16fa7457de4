use Rattle.std.proofs.Common.{◌≤◌, ◌-◌, ◌++◌, ◌∙◌, ap, arith, drop, filter, take}
use Rattle.admin_answers.specs.Inner.Searched.{met_by}
use Rattle.admin_answers.proofs.MeetsLemmas.{meets_request}
use Rattle.admin_answers.proofs.SearchLemmas.{found_later, picked_is_filter}
use Rattle.request_journal.specs.declared.entry.Entry.{Entry}
use Rattle.request_match.specs.Matching.{MeetsRequest}
use Rattle.admin_answers.proofs.search.Search.search_to.Goals as goal

pub returns-clause-same : goal.returns-clause-same
returns-clause-same c =
    let search = c.args.self.now in
    let end = c.args.end in
    let passes = met_by search.matcher in
    let next = search.next in
    let more = picked_is_filter passes (λ (e : Entry). MeetsRequest search.matcher e.request)
    (λ (e : Entry). meets_request search.matcher e.request) (take (end - next) (drop next c.deref.result.now))
    c.in_ok-more.more.items c.in_ok-more.ensures.found in
    let portion = more ∙ ap (λ es. filter passes (take (end - next) (drop next es))) c.deref.ensures.value in
    let later : next ≤ end = omega arith in
    ap (λ m. c.append.new.self.items ++ filter (met_by m) (drop end search.entries.items)) c.pick.ensures.same
    ∙ ap (λ found. found ++ filter passes (drop end search.entries.items))
    (c.in_ok-append.ensures.items ∙ ap (λ ys. search.found.items ++ ys) portion)
    ∙ found_later passes search.found.items search.entries.items next end later
