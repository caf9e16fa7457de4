use Rattle.form_urlencoded.specs.Form.{raw_pairs}
use Rattle.form_urlencoded.specs.Parse.{raw_pairs_left}
use Rattle.mock_request.proofs.QueryLemmas.{texts_left}
use Rattle.request_data.specs.Inner.Runs.{pairs_of_runs}
use Rattle.request_data.proofs.RunLemmas.{HasRead}
use Rattle.request_data.proofs.query_data.form_runs.Given as goal

abbrev pub invariant-loop-name : goal.invariant-loop-name
invariant-loop-name l =
    HasRead (pairs_of_runs l.runs) l.last l.values (raw_pairs_left l.name-iterator)
    (texts_left (raw_pairs l.form))
