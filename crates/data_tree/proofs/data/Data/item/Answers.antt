use Rattle.std.proofs.Common.{option_map, refl, ap, ◌∙◌, sym}
use Rattle.std.proofs.lemmas.Option.{slice_get-map}
use Rattle.data_tree.specs.Tree.{view}
use Rattle.data_tree.proofs.Views.{Field, items-List, items-Named, items-Values, items-Fields, view_of_element}
use Rattle.data_tree.proofs.Formed.{formed_item, formed_element}
use Rattle.data_tree.proofs.data.Data.item.Goals as goal

pub returns-in-List-clause-found : goal.returns-in-List-clause-found
returns-in-List-clause-found c =
    rw (c.in-List.is, items-List c.in-List.items)
    (view_of_element c.item_at.result c.in-List.items.items c.args.index
    (c.item_at.ensures ∙ rw c.as_slice.ensures.value))

pub returns-in-Named-clause-found : goal.returns-in-Named-clause-found
returns-in-Named-clause-found c =
    rw (c.in-Named.is, items-Named c.in-Named.parts)
    (view_of_element c.item_at-in-Named.result c.in-Named.parts.value.1.items c.args.index
    (c.item_at-in-Named.ensures ∙ rw (c.as_slice-in-Named.ensures.value, c.deref.ensures) refl))

pub returns-in-Values-clause-found : goal.returns-in-Values-clause-found
returns-in-Values-clause-found c =
    rw (c.in-Values.is, items-Values c.in-Values.items)
    (view_of_element c.item_at-in-Values.result c.in-Values.items.items c.args.index
    (c.item_at-in-Values.ensures ∙ rw c.as_slice-in-Values.ensures.value))

pub returns-in_ok-_name-in-Fields-clause-found : goal.returns-in_ok-_name-in-Fields-clause-found
returns-in_ok-_name-in-Fields-clause-found c =
    let value_of = λ (f : Field). view f.1 in
    rw (c.in-Fields.is, items-Fields c.in-Fields.fields)
    (ap (option_map value_of) (c.in_ok-_name-in-Fields.ensures ∙ rw c.as_slice-in-Fields.ensures.value)
    ∙ sym (slice_get-map value_of c.in-Fields.fields.items c.args.index))

pub returns-in_err-_name-in-Fields-clause-found : goal.returns-in_err-_name-in-Fields-clause-found
returns-in_err-_name-in-Fields-clause-found c =
    let value_of = λ (f : Field). view f.1 in
    rw (c.from_residual.ensures, c.in-Fields.is, items-Fields c.in-Fields.fields)
    (ap (option_map value_of) (c.in_err-_name-in-Fields.ensures ∙ rw c.as_slice-in-Fields.ensures.value)
    ∙ sym (slice_get-map value_of c.in-Fields.fields.items c.args.index))

pub returns-in-List-clause-well_formed : goal.returns-in-List-clause-well_formed
returns-in-List-clause-well_formed c = formed_element _ _ _ (returns-in-List-clause-found c)

pub returns-in-Named-clause-well_formed : goal.returns-in-Named-clause-well_formed
returns-in-Named-clause-well_formed c = formed_element _ _ _ (returns-in-Named-clause-found c)

pub returns-in-Values-clause-well_formed : goal.returns-in-Values-clause-well_formed
returns-in-Values-clause-well_formed c = formed_element _ _ _ (returns-in-Values-clause-found c)

pub returns-in_ok-_name-in-Fields-clause-well_formed : goal.returns-in_ok-_name-in-Fields-clause-well_formed
returns-in_ok-_name-in-Fields-clause-well_formed c =
    formed_item _ _ _ (sym (returns-in_ok-_name-in-Fields-clause-found c))
