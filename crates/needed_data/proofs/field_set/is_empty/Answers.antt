use Rattle.std.proofs.Common.{◌==◌, ap}
use Rattle.std.proofs.lemmas.Bool.{eqb-true}
use Rattle.needed_data.proofs.FieldSets.{none_of_zero, zero_of_none}
use Rattle.needed_data.proofs.field_set.is_empty.Goals as goal

pub returns : goal.returns
returns c =
    let set = c.args.set in
    ((λ is. none_of_zero set (eqb-true _ 0 is)), (λ none. ap (λ n. n == 0) (zero_of_none set none)))
