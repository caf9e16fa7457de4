use Rattle.std.proofs.Common.{refl, sym, ap, ◌∙◌}
use Rattle.data_tree.specs.LookUp.{after}
use Rattle.data_tree.specs.declared.step.Step.TheVariants.{Name, Index}
use Rattle.data_tree.proofs.Views.{view-List, view-Fields, view-Named, view-Values, nth_of_element}
use Rattle.data_tree.proofs.look_up.after.Goals as goal

pub returns-in-Fields : goal.returns-in-Fields
returns-in-Fields c =
    rw (c.in-Name.is, c.in-Fields.is, c.under.ensures, c.as_str.ensures, c.as_slice.ensures.value)
    (sym (ap (after (Name c.in-Name.name)) (view-Fields c.in-Fields.fields)))

pub returns-in-Named : goal.returns-in-Named
returns-in-Named c =
    rw (c.in-Name.is, c.in-Named.is, c.under-in-Named.ensures, c.as_str-in-Named.ensures)
    (rw (c.as_slice-in-Named.ensures.value, c.deref.ensures)
    (sym (ap (after (Name c.in-Name.name)) (view-Named c.in-Named.parts))))

pub returns-in-List : goal.returns-in-List
returns-in-List c =
    let k = c.in-Index.index in
    let items = c.in-List.items in
    rw (c.in-Index.is, c.in-List.is)
    (nth_of_element c.item_at.result items.items k (c.item_at.ensures ∙ rw c.as_slice-in-List.ensures.value refl)
    ∙ sym (ap (after (Index k)) (view-List items)))

pub returns-in-Named-value : goal.returns-in-Named-value
returns-in-Named-value c =
    let k = c.in-Index.index in
    let parts = c.in-Named-value.parts in
    rw (c.in-Index.is, c.in-Named-value.is)
    (nth_of_element c.item_at-in-Named-value.result parts.value.1.items k
    (c.item_at-in-Named-value.ensures
    ∙ rw (c.as_slice-in-Named-value.ensures.value, c.deref-in-Named-value.ensures) refl)
    ∙ sym (ap (after (Index k)) (view-Named parts)))

pub returns-in-Values : goal.returns-in-Values
returns-in-Values c =
    let k = c.in-Index.index in
    let items = c.in-Values.items in
    rw (c.in-Index.is, c.in-Values.is)
    (nth_of_element c.item_at-in-Values.result items.items k
    (c.item_at-in-Values.ensures ∙ rw c.as_slice-in-Values.ensures.value refl)
    ∙ sym (ap (after (Index k)) (view-Values items)))
