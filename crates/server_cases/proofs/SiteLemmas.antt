-- A site may be lent to another thread, where its pause point and its clock may: of its book, and of the router of its
-- admin calls, the toolchain's own search gives up.
use denote.RattleType.{RattleType}
use denote.Param.Send.{IsSync, sendable}
use denote.Param.SendFields.{declared_sync}
use Rattle.std.proofs.Crossing.{crosses}
use Rattle.std.proofs.alloc.Global.TheSendSync as global
use Rattle.std.proofs.option.Option.TheSendSync as option
use Rattle.std.proofs.vec.Vec.TheSendSync as vec
use Rattle.admin_routes.proofs.place.Place.TheSendSync as place
use Rattle.admin_routes.specs.contracts.router.AdminRoutes as routes
use Rattle.answering.specs.contracts.site.Site as site
use Rattle.bytes.proofs.shared.Bytes.TheSendSync as bytes
use Rattle.matchit.proofs.route.Route.TheSendSync as route
use Rattle.matchit.proofs.tree.Node.TheLaws.TheKnot as node
use Rattle.shared_book.proofs.SendLemmas.{shared_book_sync}
use Rattle.shared_book.specs.declared.origin.Origin as origin
use Rattle.shared_history.specs.declared.naming.Naming as naming
use Rattle.slab.proofs.Slab.TheSendSync as slab
use Rattle.std.specs.declared.sync.ledger.Ledger as ledger
use Rattle.stub_response.proofs.limits.Limits.TheSendSync as limits
use Rattle.template_tree.proofs.escape.Escape.TheSendSync as escape

routes_sync : IsSync routes.the_row
routes_sync =
    search (
      option.the_field_sync,
      option.the_sync,
      place.the_sync,
      route.the_sync,
      slab.the_sync,
      vec.the_send,
      vec.the_sync,
      global.the_field_sync,
      global.the_sync,
      crosses,
      node.crosses,
      sendable,
    ) depth 60 fits 20000

pub site_sync : (L G C : RattleType) (o : origin.Ghosts L.Denot) (l : ledger.Ghosts L.Denot)
    (n : naming.Ghosts L.Denot) → IsSync G → IsSync C → IsSync (site.the_row L G C o l n)
site_sync L G C o l n gate clock =
    declared_sync (site.the_type L G C o l n) (
      shared_book_sync L o l n,
      (
        search (limits.the_sync, sendable) depth 60,
        (
          search (escape.the_sync, sendable) depth 60,
          (
            search (gate, sendable) depth 60,
            (
              search (clock, sendable) depth 60,
              (
                search (sendable) depth 60,
                (
                  routes_sync,
                  (
                    search (
                      option.the_sync,
                      bytes.the_sync,
                      global.the_send,
                      global.the_sync,
                      crosses,
                      sendable,
                    ) depth 60,
                    tt,
                  ),
                ),
              ),
            ),
          ),
        ),
      ),
    )
