use Rattle.std.proofs.Common.{rules, of_calls, sym}
use Rattle.std.proofs.lemmas.Fn.{always_returns_same}
use Rattle.data_tree.proofs.Names.{order, name_of, under_found, under_absent}
use Rattle.data_tree.proofs.look_up.under.Goals as goal

pub returns-in-Ok : goal.returns-in-Ok
returns-in-Ok c =
    let name = c.args.name.now in
    let ended = c.in-Ok.ensures.position (λ f. order (name_of f) name)
    (always_returns_same _ _ _ (λ a r f k. search (rules, of_calls))) in
    let field = c.index-fields-index.result in
    sym (under_found name c.args.fields.now c.in-Ok.index field c.requires c.in-Ok.ensures.bound (ended field))

pub returns-in-Err : goal.returns-in-Err
returns-in-Err c =
    let name = c.args.name.now in
    let ended = c.in-Err.ensures.position (λ f. order (name_of f) name)
    (always_returns_same _ _ _ (λ a r f k. search (rules, of_calls))) in
    sym (under_absent name c.args.fields.now c.in-Err.field-0 c.requires ended)
