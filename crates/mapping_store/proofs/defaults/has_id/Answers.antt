use Rattle.std.proofs.Common.{sym, ◌∙◌, arith}
use Rattle.std.proofs.lemmas.Bool.{false≢true}
use Rattle.mapping_store.proofs.DefaultLemmas.{has_id_here, has_id_later}
use Rattle.mapping_store.proofs.defaults.has_id.Goals as goal

pub returns-then-same : goal.returns-then-same
returns-then-same c =
    let m = c.index-mappings-i.result in
    sym (c.loop-i.invariant
    ∙ has_id_here c.args.mappings.now c.loop-i.i m c.args.id (omega arith) c.index-mappings-i.is
    (sym c.id.ensures ∙ c.same.ensures.0 c.if-same.true))

pub loop-i-preserved : goal.loop-i-preserved
loop-i-preserved c =
    let m = c.index-mappings-i.result in
    c.loop-i.invariant
    ∙ has_id_later c.args.mappings.now c.loop-i.i m c.args.id (omega arith) c.index-mappings-i.is
    (λ is. false≢true (sym c.if-same.false ∙ c.same.ensures.1 (c.id.ensures ∙ is)))
