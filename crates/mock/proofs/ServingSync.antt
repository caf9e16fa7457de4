-- What each thread that serves is lent may be lent. The toolchain's own search gives up at the book and at the router in
-- it, so there is a lemma for each layer.
use denote.RattleType.{RattleType}
use denote.Param.Send.{IsSend, IsSync, sendable}
use denote.Param.SendFields.{declared_send, declared_sync}
use Rattle.std.proofs.Crossing.{crosses}
use Rattle.std.proofs.alloc.Global.TheSendSync as global
use Rattle.std.proofs.option.Option.TheSendSync as option
use Rattle.std.proofs.vec.Vec.TheSendSync as vec
use Rattle.std.specs.declared.sync.ledger.Ledger as ledger
use Rattle.admin_routes.proofs.place.Place.TheSendSync as place
use Rattle.admin_routes.specs.contracts.router.AdminRoutes as routes
use Rattle.answering.proofs.clock.SystemClock.TheSendSync as clock
use Rattle.answering.specs.contracts.clock.SystemClock as clock_row
use Rattle.answering.specs.contracts.site.Site as site
use Rattle.bytes.proofs.shared.Bytes.TheSendSync as bytes
use Rattle.http_connections.proofs.serve_on.Server.TheSendSync as server
use Rattle.http_connections.specs.contracts.serve_on.Server as server_row
use Rattle.hyper_service.proofs.journal_limit.JournalLimit.TheSendSync as journal_limit
use Rattle.hyper_service.proofs.renderer.Renderer.TheSendSync as renderer
use Rattle.hyper_service.specs.contracts.renderer.Renderer as renderer_row
use Rattle.hyper_service.specs.contracts.site_answers.SiteAnswers as site_answers
use Rattle.matchit.proofs.route.Route.TheSendSync as route
use Rattle.matchit.proofs.tree.Node.TheLaws.TheKnot as node
use Rattle.mock.specs.contracts.server_log.ServerLog as server_log
use Rattle.mock.specs.contracts.serving_threads.ServerJob as server_job
use Rattle.proxy_client.proofs.forwarder.Forwarder.TheSendSync as forwarder
use Rattle.proxy_client.specs.contracts.forwarder.Forwarder as forwarder_row
use Rattle.request_log.proofs.request_log.RequestLog.TheSendSync as request_log
use Rattle.shared_book.proofs.SendLemmas.{shared_book_send, shared_book_sync}
use Rattle.shared_book.proofs.gate.NoGate.TheSendSync as no_gate
use Rattle.shared_book.proofs.seat.Seat.TheSendSync as seat
use Rattle.shared_book.specs.contracts.gate.NoGate as gate
use Rattle.shared_book.specs.contracts.seat.Seat as seat_row
use Rattle.shared_book.specs.declared.origin.Origin as origin
use Rattle.shared_history.specs.declared.naming.Naming as naming
use Rattle.slab.proofs.Slab.TheSendSync as slab
use Rattle.stub_response.proofs.limits.Limits.TheSendSync as limits
use Rattle.template_tree.proofs.escape.Escape.TheSendSync as escape

routes_send : IsSend routes.the_row
routes_send =
    search (
      option.the_field_send,
      option.the_send,
      place.the_send,
      route.the_send,
      slab.the_send,
      vec.the_send,
      global.the_field_send,
      global.the_send,
      crosses,
      node.crosses,
      sendable,
    ) depth 60 fits 20000

routes_sync : IsSync routes.the_row
routes_sync =
    search (
      option.the_field_sync,
      option.the_sync,
      place.the_sync,
      route.the_sync,
      slab.the_sync,
      vec.the_send,
      vec.the_sync,
      global.the_field_sync,
      global.the_sync,
      crosses,
      node.crosses,
      sendable,
    ) depth 60 fits 20000

module _ (L : RattleType) (o : origin.Ghosts L.Denot) (l : ledger.Ghosts L.Denot) (n : naming.Ghosts L.Denot) where
  log_send : IsSend (server_log.the_row L o l n)
  log_send =
      declared_send (server_log.the_type L o l n)
      (search (request_log.the_send, sendable) depth 60, (shared_book_send L o l n, tt))

  log_sync : IsSync (server_log.the_row L o l n)
  log_sync =
      declared_sync (server_log.the_type L o l n)
      (search (request_log.the_sync, sendable) depth 60, (shared_book_sync L o l n, tt))

  module _ (G C : RattleType) (send-G : IsSend G) (sync-G : IsSync G) (send-C : IsSend C) (sync-C : IsSync C) where
    site_send : IsSend (site.the_row L G C o l n)
    site_send =
        declared_send (site.the_type L G C o l n) (
          shared_book_send L o l n,
          (
            search (limits.the_send, sendable) depth 60,
            (
              search (escape.the_send, sendable) depth 60,
              (
                search (send-G, sendable) depth 60,
                (
                  search (send-C, sendable) depth 60,
                  (
                    search sendable depth 60,
                    (
                      routes_send,
                      (
                        search (
                          option.the_send,
                          bytes.the_send,
                          global.the_send,
                          global.the_sync,
                          crosses,
                          sendable,
                        ) depth 60,
                        tt,
                      ),
                    ),
                  ),
                ),
              ),
            ),
          ),
        )

    site_sync : IsSync (site.the_row L G C o l n)
    site_sync =
        declared_sync (site.the_type L G C o l n) (
          shared_book_sync L o l n,
          (
            search (limits.the_sync, sendable) depth 60,
            (
              search (escape.the_sync, sendable) depth 60,
              (
                search (sync-G, sendable) depth 60,
                (
                  search (sync-C, sendable) depth 60,
                  (
                    search sendable depth 60,
                    (
                      routes_sync,
                      (
                        search (
                          option.the_sync,
                          bytes.the_sync,
                          global.the_send,
                          global.the_sync,
                          crosses,
                          sendable,
                        ) depth 60,
                        tt,
                      ),
                    ),
                  ),
                ),
              ),
            ),
          ),
        )

    module _ (F V N : RattleType) (send-F : IsSend F) (sync-F : IsSync F) (send-V : IsSend V) (sync-V : IsSync V)
        (send-N : IsSend N) (sync-N : IsSync N) where
      answers_send : IsSend (site_answers.the_row L G C F V N o l n)
      answers_send =
          declared_send (site_answers.the_type L G C F V N o l n) (
            search (site_send, site_sync, crosses, sendable) depth 60,
            (
              search (send-F, sendable) depth 60,
              (
                search (send-V, sendable) depth 60,
                (search (send-N, sendable) depth 60, (search (journal_limit.the_send, sendable) depth 60, tt)),
              ),
            ),
          )

      answers_sync : IsSync (site_answers.the_row L G C F V N o l n)
      answers_sync =
          declared_sync (site_answers.the_type L G C F V N o l n) (
            search (site_send, site_sync, crosses, sendable) depth 60,
            (
              search (sync-F, sendable) depth 60,
              (
                search (sync-V, sendable) depth 60,
                (search (sync-N, sendable) depth 60, (search (journal_limit.the_sync, sendable) depth 60, tt)),
              ),
            ),
          )

module _ (L R : RattleType) (o : origin.Ghosts L.Denot) (l : ledger.Ghosts L.Denot) (n : naming.Ghosts L.Denot)
    (send-R : IsSend R) (sync-R : IsSync R) where
  seat_send : IsSend (seat_row.the_row L o l n)
  seat_send = search (seat.the_send, sendable) depth 60

  gate_send : IsSend gate.the_row
  gate_send = search (no_gate.the_send, sendable) depth 60

  gate_sync : IsSync gate.the_row
  gate_sync = search (no_gate.the_sync, sendable) depth 60

  clock_send : IsSend (clock_row.the_row R)
  clock_send = search (clock.the_send, send-R, sendable) depth 60

  clock_sync : IsSync (clock_row.the_row R)
  clock_sync = search (clock.the_sync, sync-R, sendable) depth 60

  forwarder_send : IsSend (forwarder_row.the_row R)
  forwarder_send = search (forwarder.the_send, send-R, sendable) depth 60

  forwarder_sync : IsSync (forwarder_row.the_row R)
  forwarder_sync = search (forwarder.the_sync, sync-R, sendable) depth 60

  renderer_send : IsSend (renderer_row.the_row R)
  renderer_send = search (renderer.the_send, send-R, sendable) depth 60

  renderer_sync : IsSync (renderer_row.the_row R)
  renderer_sync = search (renderer.the_sync, sync-R, sendable) depth 60

  -- what the connections are served by
  abbrev A : RattleType
  A =
      site_answers.the_row L gate.the_row (clock_row.the_row R) (forwarder_row.the_row R) (renderer_row.the_row R)
      (server_log.the_row L o l n) o l n

  send-A : IsSend A
  send-A =
      answers_send L o l n gate.the_row (clock_row.the_row R) gate_send gate_sync clock_send clock_sync
      (forwarder_row.the_row R) (renderer_row.the_row R) (server_log.the_row L o l n) forwarder_send forwarder_sync
      renderer_send renderer_sync (log_send L o l n) (log_sync L o l n)

  sync-A : IsSync A
  sync-A =
      answers_sync L o l n gate.the_row (clock_row.the_row R) gate_send gate_sync clock_send clock_sync
      (forwarder_row.the_row R) (renderer_row.the_row R) (server_log.the_row L o l n) forwarder_send forwarder_sync
      renderer_send renderer_sync (log_send L o l n) (log_sync L o l n)

  server_send : (X Y Z : RattleType) → IsSend (server_row.the_row A (seat_row.the_row L o l n) X Y Z)
  server_send X Y Z = server.the_send A (seat_row.the_row L o l n) X Y Z send-A seat_send sync-A

  server_sync : (X Y Z : RattleType) → IsSync (server_row.the_row A (seat_row.the_row L o l n) X Y Z)
  server_sync X Y Z = server.the_sync A (seat_row.the_row L o l n) X Y Z send-A seat_send sync-A

  pub job_sync : IsSync (server_job.the_row L R o l n)
  job_sync =
      declared_sync (server_job.the_type L R o l n)
      (search (server_send, server_sync, crosses, sendable) depth 60, tt)
