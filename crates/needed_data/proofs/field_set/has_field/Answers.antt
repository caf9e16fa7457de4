use Rattle.std.proofs.Common.{◌==◌, ap, sym, ◌∙◌}
use Rattle.std.specs.Int.{bit_at}
use Rattle.std.proofs.lemmas.Nat.Bits.{shr_and_one}
use Rattle.needed_data.proofs.FieldSets.{has_name_of}
use Rattle.needed_data.proofs.field_set.has_field.Goals as goal

pub returns : goal.returns
returns c =
    let set = c.args.set in
    ap (λ n. n == 1) (shr_and_one set c.index.result ∙ ap (bit_at set) c.index.ensures.index)
    ∙ sym (has_name_of set c.args.field)
