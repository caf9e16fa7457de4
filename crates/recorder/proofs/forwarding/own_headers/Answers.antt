use Rattle.std.proofs.Common.{◌≡◌, ◌⊎◌, ◌∷◌, ◌++◌, [], ap, sym, subst, ◌∙◌, arith, rules, codes}
use Rattle.http_header.specs.FieldValue.{FieldValue, IsFieldValue, plain_value}
use Rattle.http_header.specs.HeaderMap.{RefusesAppend, append}
use Rattle.recorder.specs.Forwarding.{host_header, length_headers, map_of}
use Rattle.recorder.specs.ForwardCount.{count_header, count_name}
use Rattle.recorder.proofs.ForwardingLemmas.{map_of_more}
use Rattle.recorder.proofs.SendableLemmas.{full_map, not_sendable}
use Rattle.recorder.proofs.forwarding.own_headers.Goals as goal

pub returns-clause-value : goal.returns-clause-value
returns-clause-value c =
    let host = host_header c.args.target.now in
    let count = count_header c.args.request.now.headers in
    let first : c.push.new.headers ≡ map_of (host ∷ []) =
    c.in_ok-push.ensures.value
    ∙ (λ j. append (c.new-headers.ensures j) host.name
    (plain_value ((c.as_bytes.ensures.value ∙ c.authority.ensures) j))) in
    let second : c.push_count.new.headers ≡ map_of (host ∷ count ∷ []) =
    c.in_ok-push_count.ensures.value ∙ ap (λ m. append m count_name (plain_value count.value)) first
    ∙ sym (map_of_more (host ∷ []) count) in
    c.in_ok-push_length.ensures.value (host ∷ count ∷ []) second
    ∙ (λ j. map_of (host ∷ count ∷ length_headers (c.method.ensures j) (c.body.ensures.value j)))

pub returns-in_err-push-clause-unsendable : goal.returns-in_err-push-clause-unsendable
returns-in_err-push-clause-unsendable c = λ is rest.
    let request = c.args.request.now in
    let host = host_header c.args.target.now in
    let why = c.in_err-push.ensures.unsendable (search rules) in
    let of_none = subst (λ m. ¬ (IsFieldValue c.as_bytes.result.now) ⊎ RefusesAppend {X = FieldValue} m host.name)
    c.new-headers.ensures why in
    not_sendable [] (count_header request.headers ∷ (length_headers request.method request.body ++ rest)) host
    (subst (λ v. ¬ (IsFieldValue v) ⊎ RefusesAppend {X = FieldValue} [] host.name)
    (c.as_bytes.ensures.value ∙ c.authority.ensures) of_none)

pub returns-in_err-push_count-clause-unsendable : goal.returns-in_err-push_count-clause-unsendable
returns-in_err-push_count-clause-unsendable c = λ is rest.
    let request = c.args.request.now in
    let host = host_header c.args.target.now in
    let count = count_header request.headers in
    let first : c.push.new.headers ≡ map_of (host ∷ []) =
    c.in_ok-push.ensures.value
    ∙ (λ j. append (c.new-headers.ensures j) host.name
    (plain_value ((c.as_bytes.ensures.value ∙ c.authority.ensures) j))) in
    not_sendable (host ∷ []) (length_headers request.method request.body ++ rest) count
    (subst (λ m. ¬ (IsFieldValue count.value) ⊎ RefusesAppend {X = FieldValue} m count.name) first
    (c.in_err-push_count.ensures.unsendable (search rules)))

pub returns-in_err-push_length-clause-unsendable : goal.returns-in_err-push_length-clause-unsendable
returns-in_err-push_length-clause-unsendable c = λ is rest.
    let host = host_header c.args.target.now in
    let count = count_header c.args.request.now.headers in
    let first : c.push.new.headers ≡ map_of (host ∷ []) =
    c.in_ok-push.ensures.value
    ∙ (λ j. append (c.new-headers.ensures j) host.name
    (plain_value ((c.as_bytes.ensures.value ∙ c.authority.ensures) j))) in
    let second : c.push_count.new.headers ≡ map_of (host ∷ count ∷ []) =
    c.in_ok-push_count.ensures.value ∙ ap (λ m. append m count_name (plain_value count.value)) first
    ∙ sym (map_of_more (host ∷ []) count) in
    let why = c.in_err-push_length.ensures.unsendable (search rules) in
    let full = full_map (host ∷ count ∷ []) (codes "content-length")
    (subst (λ m. RefusesAppend {X = FieldValue} m (codes "content-length")) second why.1) in
    absurd (omega (arith, full))
