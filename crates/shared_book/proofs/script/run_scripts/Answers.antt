use mir.Syntax.{named}
use denote.Exit.{yes}
use denote.Ref.{ShrRef}
use denote.Param.{param}
use denote.Param.Send.{arg_send, param_send, shr_send}
use Rattle.shared_book.proofs.ScriptLemmas.{err_by, gave_two, has_played, played_by, stopped}
use Rattle.shared_book.proofs.SendLemmas.{captured_five, script_send, shared_book_sync}
use Rattle.shared_book.proofs.seat.Seat.TheSendSync as seat
use Rattle.shared_book.specs.contracts.script.Script as script
use Rattle.shared_book.specs.contracts.seat.Seat as seats
use Rattle.shared_book.specs.contracts.shared_book.SharedBook as book
use Rattle.shared_book.proofs.script.run_scripts.Goals as goal

pub join-one-requires-send-F : goal.join-one-requires-send-F
join-one-requires-send-F g c κs within =
    param_send 1 _
    (arg_send _ yes _
    (captured_five _ (ShrRef (named 6) κs.1.1.1.1.1.1.0 (param 1 g.row.R))
    (ShrRef (named 7) κs.1.1.1.1.1.1.1.0 (book.the_row (param 0 g.row.L) g.L.Origin g.L.Ledger g.L.Naming))
    (seats.the_row (param 0 g.row.L) g.L.Origin g.L.Ledger g.L.Naming) script.the_row
    (ShrRef (named 8) κs.1.1.1.1.1.1.1.1.0 (param 2 g.row.G))
    (shr_send (named 6) κs.1.1.1.1.1.1.0 (param 1 g.row.R) (search c.type_bounds.sync-R depth 5))
    (shr_send (named 7) κs.1.1.1.1.1.1.1.0 (book.the_row (param 0 g.row.L) g.L.Origin g.L.Ledger g.L.Naming)
    (shared_book_sync (param 0 g.row.L) g.L.Origin g.L.Ledger g.L.Naming))
    (search seat.the_send depth 5) script_send
    (shr_send (named 8) κs.1.1.1.1.1.1.1.1.0 (param 2 g.row.G) (search c.type_bounds.sync-G depth 5))))

pub returns-clause-played : goal.returns-clause-played
returns-clause-played g c =
    played_by g.L.Origin.origin g.L.Ledger.parts g.L.Naming.book c.args.seat c.split-two.new.self c.join-one.result.0
    c.join-one.result.1 c.args.first.calls.items c.args.second.calls.items c.all_of-seats.result.items c.settle.result
    (gave_two g.L.Origin.origin c.args.seat c.split-one.new.self c.split-two.new.self c.split-one.result
    c.split-two.result c.split-one.ensures.left c.split-two.ensures.left c.split-one.ensures.entered
    c.split-two.ensures.entered)
    (has_played g.L.Origin.origin c.split-one.result c.join-one.result.0 c.args.first.calls.items
    c.split-one.ensures.new c.join-one.ensures.first)
    (has_played g.L.Origin.origin c.split-two.result c.join-one.result.1 c.args.second.calls.items
    c.split-two.ensures.new c.join-one.ensures.second)
    c.all_of-seats.ensures c.settle.ensures.settled

pub returns-clause-stopped : goal.returns-clause-stopped
returns-clause-stopped g c =
    err_by c.settle.result (λ e handed why.
    stopped g.L.Origin.origin g.L.Ledger.parts g.L.Naming.book c.args.seat c.split-two.new.self c.join-one.result.0
    c.join-one.result.1 c.args.first.calls.items c.args.second.calls.items c.all_of-seats.result.items e.seats.items
    e.reason e.alone
    (gave_two g.L.Origin.origin c.args.seat c.split-one.new.self c.split-two.new.self c.split-one.result
    c.split-two.result c.split-one.ensures.left c.split-two.ensures.left c.split-one.ensures.entered
    c.split-two.ensures.entered)
    (has_played g.L.Origin.origin c.split-one.result c.join-one.result.0 c.args.first.calls.items
    c.split-one.ensures.new c.join-one.ensures.first)
    (has_played g.L.Origin.origin c.split-two.result c.join-one.result.1 c.args.second.calls.items
    c.split-two.ensures.new c.join-one.ensures.second)
    c.all_of-seats.ensures handed why)
    c.settle.ensures.handed_back c.settle.ensures.why
