use Rattle.std.proofs.Common.{sym, ◌∙◌}
use Rattle.std.specs.Str.{bytes_eq}
use Rattle.json_reading.proofs.Names.{list_any-map}
use Rattle.json_reading.proofs.fields.is_one_of.Goals as goal

pub returns : goal.returns
returns c =
    c.contains.ensures.value
    ∙ sym (list_any-map (λ known. bytes_eq known c.args.name.now) (λ known. known.now) c.args.names.now)
