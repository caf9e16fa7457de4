use mir.Syntax.{named}
use denote.Exit.{yes}
use denote.Ref.{ShrRef}
use denote.Param.{param}
use denote.Param.Send.{arg_send, param_send, shr_send}
use Rattle.std.proofs.alloc.Global.TheSendSync as global
use Rattle.std.specs.contracts.alloc.Global as global_type
use Rattle.answering.specs.contracts.site.Site as site_type
use Rattle.shared_book.proofs.SendLemmas.{captured_five}
use Rattle.shared_book.proofs.seat.Seat.TheSendSync as seat
use Rattle.shared_book.specs.contracts.seat.Seat as seat_type
use Rattle.server_cases.proofs.SiteLemmas.{site_sync}
use Rattle.server_cases.proofs.no_clock.NoClock.TheSendSync as no_clock
use Rattle.server_cases.proofs.first_waits.FirstWaits.TheSendSync as first_waits
use Rattle.server_cases.proofs.message_threads.Task.TheSendSync as task
use Rattle.server_cases.specs.contracts.first_waits.FirstWaits as first_waits_type
use Rattle.server_cases.specs.contracts.message_threads.Task as task_type
use Rattle.server_cases.specs.contracts.no_clock.NoClock as no_clock_type
use Rattle.server_cases.proofs.message_threads.both_answer.Goals as goal

pub join-requires-send-F : goal.join-requires-send-F
join-requires-send-F g c κs within =
    param_send 1 _
    (arg_send _ yes _
    (captured_five _ (ShrRef (named 6) κs.1.1.1.1.1.1.0 (param 1 g.row.R)) global_type.the_row
    (ShrRef (named 7) κs.1.1.1.1.1.1.1.0
    (site_type.the_row (param 0 g.row.L) first_waits_type.the_row no_clock_type.the_row g.L.Origin g.L.Ledger
    g.L.Naming))
    (seat_type.the_row (param 0 g.row.L) g.L.Origin g.L.Ledger g.L.Naming) task_type.the_row
    (shr_send (named 6) κs.1.1.1.1.1.1.0 (param 1 g.row.R) (search c.type_bounds.sync-R depth 5)) global.the_send
    (shr_send (named 7) κs.1.1.1.1.1.1.1.0
    (site_type.the_row (param 0 g.row.L) first_waits_type.the_row no_clock_type.the_row g.L.Origin g.L.Ledger
    g.L.Naming)
    (site_sync (param 0 g.row.L) first_waits_type.the_row no_clock_type.the_row g.L.Origin g.L.Ledger g.L.Naming
    (search first_waits.the_sync depth 5) (search no_clock.the_sync depth 5)))
    (search seat.the_send depth 5) (search task.the_send depth 5)))
