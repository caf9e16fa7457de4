use Rattle.std.proofs.Common.{All, arith, subst}
use Rattle.std.proofs.lemmas.List.{take_all}
use Rattle.needed_data.specs.Needed.{json_field_path, Covers}
use Rattle.needed_data.proofs.NeededFacts.{fields_more}
use Rattle.needed_data.proofs.needed.Needed.add_json_fields.Goals as goal

pub loop-name-preserved : goal.loop-name-preserved
loop-name-preserved c =
    let more = c.add_json_field.ensures.more in
    let before = c.loop-name.invariant in (
      λ r r' alike. before.0 r r' (more r r' alike),
      fields_more c.loop-name.self c.add_json_field.new.self c.args.names.now c.loop-name.name-index
          c.name-item.result c.as_str.result.now (omega arith) c.name-item.is c.as_str.ensures more before.1
          c.add_json_field.ensures.field,
    )

pub returns-clause-fields : goal.returns-clause-fields
returns-clause-fields c =
    subst (All (λ name. Covers c.loop-name.self (json_field_path name)))
    (take_all c.loop-name.name-index c.args.names.now (omega arith)) c.loop-name.invariant.1
