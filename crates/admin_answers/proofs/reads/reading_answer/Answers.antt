use Rattle.std.proofs.Common.{subst, sym}
use Rattle.std.proofs.lemmas.Result.{err_from_is_err_and}
use Rattle.admin_answers.proofs.ReadLemmas.{counted, found, held, mappings, no_har, not_held, recording_har}
use Rattle.admin_answers.proofs.ReadLemmas.{recording_status, requests, scenarios, unmatched}
use Rattle.admin_answers.specs.Inner.Said.{IsSaid, IsUnsaid}
use Rattle.admin_answers.specs.JsonReply.{IsJsonReply}
use Rattle.admin_json.specs.Mappings.{json_of_mappings}
use Rattle.admin_json.specs.Scenarios.{json_of_scenarios}
use Rattle.stub_response.specs.ErrorReply.{json_reply}
use Rattle.admin_answers.proofs.reads.reading_answer.Goals as goal

pub returns-in_ok-mappings_listing-in-Mappings-clause-ok : goal.returns-in_ok-mappings_listing-in-Mappings-clause-ok
returns-in_ok-mappings_listing-in-Mappings-clause-ok c =
    let text = c.in_ok-mappings_listing-in-Mappings.field-0 in
    subst (λ f. IsSaid c.args.number f (json_reply 200 text)) (sym c.in-Mappings.is)
    (mappings c.args.number c.in-Mappings.mappings text
    (subst (λ xs. IsJsonReply 200 (json_of_mappings xs) (json_reply 200 text)) c.as_slice.ensures.value
    c.in_ok-mappings_listing-in-Mappings.ensures))

pub returns-in_ok-requests_listing-in-Requests-clause-ok : goal.returns-in_ok-requests_listing-in-Requests-clause-ok
returns-in_ok-requests_listing-in-Requests-clause-ok c =
    let text = c.in_ok-requests_listing-in-Requests.field-0 in
    subst (λ f. IsSaid c.args.number f (json_reply 200 text)) (sym c.in-Requests.is)
    (requests c.args.number c.in-Requests.requests text c.in_ok-requests_listing-in-Requests.ensures)

pub returns-in_ok-found_listing-in-Unmatched-clause-ok : goal.returns-in_ok-found_listing-in-Unmatched-clause-ok
returns-in_ok-found_listing-in-Unmatched-clause-ok c =
    let text = c.in_ok-found_listing-in-Unmatched.field-0 in
    subst (λ f. IsSaid c.args.number f (json_reply 200 text)) (sym c.in-Unmatched.is)
    (unmatched c.args.number c.in-Unmatched.requests text c.in_ok-found_listing-in-Unmatched.ensures)

pub returns-in_ok-search_listing-in-Find-clause-ok : goal.returns-in_ok-search_listing-in-Find-clause-ok
returns-in_ok-search_listing-in-Find-clause-ok c =
    let text = c.in_ok-search_listing-in-Find.field-0 in
    subst (λ f. IsSaid c.args.number f (json_reply 200 text)) (sym c.in-Find.is)
    (found c.args.number c.in-Find.matcher c.in-Find.requests text c.in_ok-search_listing-in-Find.ensures)

pub returns-in_ok-count_listing-in-Count-clause-ok : goal.returns-in_ok-count_listing-in-Count-clause-ok
returns-in_ok-count_listing-in-Count-clause-ok c =
    let text = c.in_ok-count_listing-in-Count.field-0 in
    subst (λ f. IsSaid c.args.number f (json_reply 200 text)) (sym c.in-Count.is)
    (counted c.args.number c.in-Count.matcher c.in-Count.requests text c.in_ok-count_listing-in-Count.ensures)

pub returns-in_ok-har_listing-in-Recording-clause-ok : goal.returns-in_ok-har_listing-in-Recording-clause-ok
returns-in_ok-har_listing-in-Recording-clause-ok c =
    let text = c.in_ok-har_listing-in-Recording.field-0 in
    subst (λ f. IsSaid c.args.number f (json_reply 200 text)) (sym c.in-Recording.is)
    (recording_har c.args.number c.in-Recording.recording (json_reply 200 text)
    c.in_ok-har_listing-in-Recording.ensures.ok)

pub returns-in_ok-held_reply-in-Mapping-clause-ok : goal.returns-in_ok-held_reply-in-Mapping-clause-ok
returns-in_ok-held_reply-in-Mapping-clause-ok c =
    let reply = c.in_ok-held_reply-in-Mapping.field-0 in
    subst (λ f. IsSaid c.args.number f reply) (sym c.in-Mapping.is)
    (held c.args.number c.in-Mapping.held reply c.in_ok-held_reply-in-Mapping.ensures.ok)

pub returns-in_ok-scenarios_reply-in-Scenarios-clause-ok : goal.returns-in_ok-scenarios_reply-in-Scenarios-clause-ok
returns-in_ok-scenarios_reply-in-Scenarios-clause-ok c =
    let reply = c.in_ok-scenarios_reply-in-Scenarios.field-0 in
    subst (λ f. IsSaid c.args.number f reply) (sym c.in-Scenarios.is)
    (scenarios c.args.number c.in-Scenarios.states c.in-Scenarios.mappings reply
    (subst (λ xs. IsJsonReply 200 (json_of_scenarios c.in-Scenarios.states xs) reply)
    c.as_slice-in-Scenarios.ensures.value c.in_ok-scenarios_reply-in-Scenarios.ensures))

pub returns-in_ok-status_reply-in-RecordingStatus-clause-ok : goal.returns-in_ok-status_reply-in-RecordingStatus-clause-ok
returns-in_ok-status_reply-in-RecordingStatus-clause-ok c =
    let reply = c.in_ok-status_reply-in-RecordingStatus.field-0 in
    subst (λ f. IsSaid c.args.number f reply) (sym c.in-RecordingStatus.is)
    (recording_status c.args.number c.in-RecordingStatus.status reply
    c.in_ok-status_reply-in-RecordingStatus.ensures)

pub returns-in_err-held_reply-in-Mapping-clause-refused : goal.returns-in_err-held_reply-in-Mapping-clause-refused
returns-in_err-held_reply-in-Mapping-clause-refused c =
    let p =
    err_from_is_err_and c.from_residual-in_err-held_reply-in-Mapping.result
    c.from_residual-in_err-held_reply-in-Mapping.ensures.1 in
    let reason = c.in_err-held_reply-in-Mapping.field-0.0.code in
    rw (p.1, p.2) (subst (λ f. IsUnsaid f reason) (sym c.in-Mapping.is)
    (not_held c.in-Mapping.held reason c.in_err-held_reply-in-Mapping.ensures.refused))

pub returns-in_err-har_listing-in-Recording-clause-refused : goal.returns-in_err-har_listing-in-Recording-clause-refused
returns-in_err-har_listing-in-Recording-clause-refused c =
    let p =
    err_from_is_err_and c.from_residual-in_err-har_listing-in-Recording.result
    c.from_residual-in_err-har_listing-in-Recording.ensures.1 in
    let reason = c.in_err-har_listing-in-Recording.field-0.0.code in
    rw (p.1, p.2) (subst (λ f. IsUnsaid f reason) (sym c.in-Recording.is)
    (no_har c.in-Recording.recording reason c.in_err-har_listing-in-Recording.ensures.refused))
