use Rattle.std.proofs.Common.{refl}
use Rattle.matchit.proofs.OnLiterals.{matchit_on_literals}
use Rattle.admin_routes.proofs.table.router.Goals as goal

pub fill-requires : goal.fill-requires
unfolding matchit_on_literals
fill-requires c = refl

pub returns : goal.returns
unfolding matchit_on_literals
returns c = c.fill.ensures
