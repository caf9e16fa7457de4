use denote.Exit.{yes}
use denote.Param.{copied, param}
use denote.Param.Send.{arg_sync, param_sync}
use Rattle.mock.proofs.ServingSync.{job_sync}
use Rattle.mock.proofs.serving_threads.serve_beside.Goals as goal

pub on_threads-requires-sync-J : goal.on_threads-requires-sync-J
on_threads-requires-sync-J g c κs within =
    param_sync 1 _
    (arg_sync _ yes _
    (job_sync (param 0 g.row.L) (copied 1 g.row.R) g.L.Origin g.L.Ledger g.L.Naming
    c.type_bounds.send-R c.type_bounds.sync-R))
