use Rattle.admin_routes.proofs.admin.call_of.Goals as goal

pub returns-in-FindRequests-clause-ok : goal.returns-in-FindRequests-clause-ok
returns-in-FindRequests-clause-ok c = rw c.in-FindRequests.is (c.find_of.ensures.ok c.args.escape)

pub returns-in-FindRequests-clause-error : goal.returns-in-FindRequests-clause-error
returns-in-FindRequests-clause-error c = rw c.in-FindRequests.is (c.find_of.ensures.error c.args.escape)

pub returns-in-CountRequests-clause-ok : goal.returns-in-CountRequests-clause-ok
returns-in-CountRequests-clause-ok c = rw c.in-CountRequests.is (c.count_of.ensures.ok c.args.escape)

pub returns-in-CountRequests-clause-error : goal.returns-in-CountRequests-clause-error
returns-in-CountRequests-clause-error c = rw c.in-CountRequests.is (c.count_of.ensures.error c.args.escape)

pub returns-in-SetScenario-clause-ok : goal.returns-in-SetScenario-clause-ok
returns-in-SetScenario-clause-ok c = rw c.in-SetScenario.is (c.set_of.ensures.ok c.args.escape)

pub returns-in-SetScenario-clause-error : goal.returns-in-SetScenario-clause-error
returns-in-SetScenario-clause-error c = rw c.in-SetScenario.is (c.set_of.ensures.error c.args.escape)

pub returns-in-StartRecording-clause-ok : goal.returns-in-StartRecording-clause-ok
returns-in-StartRecording-clause-ok c =
    rw c.in-StartRecording.is (c.start_recording_of.ensures.ok c.args.escape)

pub returns-in-StartRecording-clause-error : goal.returns-in-StartRecording-clause-error
returns-in-StartRecording-clause-error c =
    rw c.in-StartRecording.is (c.start_recording_of.ensures.error c.args.escape)
