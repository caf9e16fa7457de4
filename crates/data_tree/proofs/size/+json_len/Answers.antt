use Rattle.std.proofs.Common.{◌≡◌, length, ap, sym, ◌∙◌, rules}
use Rattle.data_tree.specs.Tree.{view, items_view, members_view, fields, list, named}
use Rattle.data_tree.specs.Json.{json}
use Rattle.data_tree.specs.Capped.{capped}
use Rattle.data_tree.proofs.Views.{view-List, view-Fields, view-Named, view-Values}
use Rattle.data_tree.proofs.Lengths.{list_length, fields_length, named_length, values_length}
use Rattle.data_tree.proofs.size.+json_len.Goals as goal

pub json_len-returns-in-List : goal.json_len-returns-in-List
json_len-returns-in-List t c =
    rw (c.in-List.is, view-List c.in-List.items, c.bracketed_len.ensures, c.len.ensures, c.items_len.ensures)
    (list_length c.in-List.items.items _ (search rules))

pub json_len-returns-in-Fields : goal.json_len-returns-in-Fields
json_len-returns-in-Fields t c =
    rw (c.in-Fields.is, view-Fields c.in-Fields.fields)
    (rw (c.bracketed_len-in-Fields.ensures, c.len-in-Fields.ensures, c.members_len.ensures)
    (fields_length c.in-Fields.fields.items _ (search rules)))

pub json_len-returns-in-Named : goal.json_len-returns-in-Named
json_len-returns-in-Named t c =
    let parts = c.deref.result.now in
    let seen : view c.args.value.now
    ≡ named (parts.0) (items_view parts.1.items) (members_view parts.2.items) =
    ap view c.in-Named.is ∙ view-Named c.in-Named.parts
    ∙ ap (λ p. named (p.0) (items_view p.1.items) (members_view p.2.items)) (sym c.deref.ensures) in
    let ms = members_view parts.2.items in
    let ts = items_view parts.1.items in
    let f : c.bracketed_len-in-Named.result ≡ capped (length (json (fields ms))) =
    c.bracketed_len-in-Named.ensures ∙ rw (c.len-in-Named.ensures, c.members_len-in-Named.ensures)
    (fields_length parts.2.items _ (search rules)) in
    let i : c.bracketed_len-in-Named-2.result ≡ capped (length (json (list ts))) =
    c.bracketed_len-in-Named-2.ensures ∙ rw (c.len-in-Named-2.ensures, c.items_len-in-Named.ensures)
    (list_length parts.1.items _ (search rules)) in
    rw seen
    (rw (c.saturating_add-in-Named-2.ensures, c.saturating_add-in-Named.ensures, c.saturating_add.ensures)
    (rw (f, i, c.quoted_len-in-Named.ensures, c.as_str-in-Named.ensures) (named_length _ ts ms)))

pub json_len-returns-in-Values : goal.json_len-returns-in-Values
json_len-returns-in-Values t c =
    let items = c.in-Values.items in
    let ts = items_view items.items in
    let i : c.bracketed_len-in-Values.result ≡ capped (length (json (list ts))) =
    c.bracketed_len-in-Values.ensures ∙ rw (c.len-in-Values.ensures, c.items_len-in-Values.ensures)
    (list_length items.items _ (search rules)) in
    rw (c.in-Values.is, view-Values items)
    (rw (c.saturating_add-in-Values-2.ensures, c.saturating_add-in-Values.ensures)
    (rw (i, c.quoted_len-in-Values.ensures, c.first_text.ensures, c.as_slice.ensures.value) (values_length _ ts)))
