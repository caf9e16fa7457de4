use mir.Syntax.{named}
use denote.Exit.{yes}
use denote.Ref.{ShrRef}
use denote.Param.{param}
use denote.Param.Send.{arg_send, param_send, shr_send}
use Rattle.std.proofs.alloc.Global.TheSendSync as global
use Rattle.std.specs.contracts.alloc.Global as global_type
use Rattle.shared_book.proofs.SendLemmas.{shared_book_sync}
use Rattle.shared_book.proofs.seat.Seat.TheSendSync as seat
use Rattle.shared_book.specs.contracts.seat.Seat as seat_type
use Rattle.shared_book.specs.contracts.shared_book.SharedBook as book_type
use Rattle.server_cases.proofs.CapturedLemmas.{captured_six}
use Rattle.server_cases.proofs.first_waits.FirstWaits.TheSendSync as first_waits
use Rattle.server_cases.proofs.threads.Job.TheSendSync as job
use Rattle.server_cases.specs.contracts.first_waits.FirstWaits as first_waits_type
use Rattle.server_cases.specs.contracts.threads.Job as job_type
use Rattle.server_cases.proofs.threads.both.Goals as goal

pub join-requires-send-F : goal.join-requires-send-F
join-requires-send-F g c κs within =
    param_send 1 _
    (arg_send _ yes _
    (captured_six _ (ShrRef (named 6) κs.1.1.1.1.1.1.0 (param 1 g.row.R)) global_type.the_row
    (ShrRef (named 7) κs.1.1.1.1.1.1.1.0 (book_type.the_row (param 0 g.row.L) g.L.Origin g.L.Ledger g.L.Naming))
    (seat_type.the_row (param 0 g.row.L) g.L.Origin g.L.Ledger g.L.Naming)
    (ShrRef (named 8) κs.1.1.1.1.1.1.1.1.0 first_waits_type.the_row) job_type.the_row
    (shr_send (named 6) κs.1.1.1.1.1.1.0 (param 1 g.row.R) (search c.type_bounds.sync-R depth 5)) global.the_send
    (shr_send (named 7) κs.1.1.1.1.1.1.1.0 (book_type.the_row (param 0 g.row.L) g.L.Origin g.L.Ledger g.L.Naming)
    (shared_book_sync (param 0 g.row.L) g.L.Origin g.L.Ledger g.L.Naming))
    (search seat.the_send depth 5)
    (shr_send (named 8) κs.1.1.1.1.1.1.1.1.0 first_waits_type.the_row (search first_waits.the_sync depth 5))
    (search job.the_send depth 5)))
