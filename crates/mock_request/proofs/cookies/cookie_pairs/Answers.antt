use Rattle.std.proofs.Common.{◌<◌, ◌++◌, [], length, take, ap, sym, ◌∙◌, codes, arith, refl}
use Rattle.std.proofs.lemmas.Option.{slice_get-get_or}
use Rattle.mock_request.specs.Request.{Header}
use Rattle.mock_request.specs.Cookies.{cookies_in, cookie_pairs}
use Rattle.mock_request.specs.Values.{pairs_of}
use Rattle.mock_request.proofs.HeaderLemmas.{cookies_more, no_cookies_more, more_taken, other_way_round}
use Rattle.mock_request.proofs.cookies.cookie_pairs.Goals as goal
use Rattle.mock_request.proofs.cookies.cookie_pairs.Goals.{in-Some+then-eq+in_ok-text+in_ok-push_cookies}
use Rattle.mock_request.proofs.cookies.cookie_pairs.Goals.{in-Some+else-eq, in_default}

pub loop-index-preserved : goal.loop-index-preserved
loop-index-preserved c =
    let headers = c.args.snapshot.now.headers in
    let i = c.loop-index.index in
    let before = take i headers in
    let within : i < length headers = omega arith in
    elim c.match-header.branch [
      | in-Some+then-eq+in_ok-text+in_ok-push_cookies w ↦
          let header : Header = record { name = w.in-Some.name.now; value = w.in-Some.value.now } in
          let asked = other_way_round (codes "cookie") header.name header.name w.eq.result refl w.eq.ensures in
          ap (λ v. pairs_of v.items) w.pairs-is
          ∙ w.in_ok-push_cookies.ensures
          ∙ ap (λ ps. ps ++ cookies_in w.as_str.result.now) c.loop-index.invariant
          ∙ ap (λ bs. cookie_pairs before ++ cookies_in bs) (w.as_str.ensures.value ∙ w.in_ok-text.ensures.lossy)
          ∙ sym (cookies_more before header (asked ∙ w.if-eq.true))
          ∙ ap cookie_pairs (sym (more_taken headers i header within w.in-Some.ensures.value))
      | in-Some+else-eq w ↦
          let header : Header = record { name = w.in-Some.name.now; value = w.in-Some.value.now } in
          let asked = other_way_round (codes "cookie") header.name header.name w.eq.result refl w.eq.ensures in
          ap (λ v. pairs_of v.items) w.pairs-is
          ∙ c.loop-index.invariant
          ∙ sym (no_cookies_more before header (asked ∙ w.if-eq.false))
          ∙ ap cookie_pairs (sym (more_taken headers i header within w.in-Some.ensures.value))
      | in_default w ↦
          let here = slice_get-get_or headers i (record { name = []; value = [] }) within in
          let none = w.in_default.ensures.value in
          absurd (cc)
    ]
