use Rattle.std.proofs.lemmas.Bool.{and_parts}
use Rattle.recorded_stubs.proofs.StubLemmas.{texts_from_kept}
use Rattle.recorded_stubs.proofs.stubs.mapping_of.Goals as goal

pub request_of-requires : goal.request_of-requires
request_of-requires c =
    texts_from_kept c.args.exchange.now.request.headers c.args.captured.now (and_parts _ _ c.requires).0
