use Rattle.std.proofs.Common.{[], ◌∷◌, sym, subst}
use Rattle.shared_book.proofs.ScriptLemmas.{plays_applied, plays_served}
use Rattle.shared_book.specs.Script.{Plays}
use Rattle.shared_book.specs.declared.script.Call.{Call}
use Rattle.shared_book.proofs.script.play_call.Goals as goal

pub returns-in-Apply : goal.returns-in-Apply
returns-in-Apply g c =
    subst (λ (call : Call). Plays g.L.Origin.origin c.args.seat.now c.apply.follows.lender-at-none (call ∷ []))
    (sym c.in-Apply.is)
    (plays_applied g.L.Origin.origin g.L.Naming.book c.args.seat.now c.apply.follows.lender-at-none c.in-Apply.input
    c.apply.result
    c.apply.follows.holds-at-none)

pub returns-in-Ok : goal.returns-in-Ok
returns-in-Ok g c =
    subst (λ (call : Call). Plays g.L.Origin.origin c.args.seat.now c.serve.follows.lender-at-none (call ∷ []))
    (sym c.in-Serve.is)
    (plays_served g.L.Origin.origin g.L.Naming.book c.args.seat.now c.serve.follows.lender-at-none c.in-Serve.request
    c.serve.result
    c.serve.follows.holds-at-none)

pub returns-in_default : goal.returns-in_default
returns-in_default g c =
    subst (λ (call : Call). Plays g.L.Origin.origin c.args.seat.now c.serve.follows.lender-at-none (call ∷ []))
    (sym c.in-Serve.is)
    (plays_served g.L.Origin.origin g.L.Naming.book c.args.seat.now c.serve.follows.lender-at-none c.in-Serve.request
    c.serve.result c.serve.follows.holds-at-none)
