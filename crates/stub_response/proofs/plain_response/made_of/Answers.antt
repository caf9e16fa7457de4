use Rattle.std.proofs.Common.{refl, map}
use Rattle.stub_response.specs.Inner.Plain.{plain_header}
use Rattle.stub_response.proofs.PlainLemmas.{plain_lines}
use Rattle.stub_response.proofs.plain_response.made_of.Goals as goal

pub returns : goal.returns
returns c = (
  record { status = c.args.status; headers = map plain_header c.args.headers.now; body = c.in_ok-body.body },
  record { same_status = refl; headers = plain_lines c.args.headers.now; body = c.in_ok-body.ensures },
  record { status = c.code.ensures.value; headers = c.in_ok-headers.ensures; body = refl },
)
