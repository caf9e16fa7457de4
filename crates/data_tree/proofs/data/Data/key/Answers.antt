use Rattle.std.proofs.Common.{option_map, ap, ◌∙◌, sym}
use Rattle.std.proofs.lemmas.Option.{slice_get-map}
use Rattle.data_tree.proofs.Views.{Field, keys-Fields}
use Rattle.data_tree.proofs.data.Data.key.Goals as goal

pub returns : goal.returns
returns c =
    let name_of = λ (f : Field). f.0 in
    rw (c.in-Fields.is, keys-Fields c.in-Fields.fields, c.as_str.ensures)
    (ap (option_map name_of) (c.in_ok-name.ensures ∙ rw c.as_slice.ensures.value)
    ∙ sym (slice_get-map name_of c.in-Fields.fields.items c.args.index))

pub returns-in_err-name : goal.returns-in_err-name
returns-in_err-name c =
    let name_of = λ (f : Field). f.0 in
    rw (c.from_residual.ensures, c.in-Fields.is, keys-Fields c.in-Fields.fields)
    (ap (option_map name_of) (c.in_err-name.ensures ∙ rw c.as_slice.ensures.value)
    ∙ sym (slice_get-map name_of c.in-Fields.fields.items c.args.index))
