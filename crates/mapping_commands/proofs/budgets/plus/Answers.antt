use Rattle.std.proofs.Common.{◌+◌, sym, subst, arith}
use Rattle.std.proofs.lemmas.Result.{IfOk-weaker}
use Rattle.mapping_commands.specs.Inner.Totals.{IsWithin}
use Rattle.mapping_commands.proofs.Totals.{plus-within}
use Rattle.mapping_commands.proofs.budgets.plus.Goals as goal

pub returns-clause-grows : goal.returns-clause-grows
returns-clause-grows c =
    IfOk-weaker c.sum.result _ _ (λ made is. λ count within. subst (IsWithin (count + 1)) (sym is)
    (plus-within count c.args.total.now c.args.list.now within
    (λ k. omega (arith, c.type_inv.list k)))) c.sum.ensures
