use Rattle.std.proofs.Common.{map, string_bytes, ap, ◌∙◌}
use Rattle.std.specs.Map.{keys_of}
use Rattle.admin_json.proofs.NameLemmas.{names_of-insert_entry}
use Rattle.request_data.specs.Grouped.{with_name}
use Rattle.admin_json.proofs.names.add.Goals as goal

pub returns : goal.returns
returns c =
    let old = c.args.names.now.entries in
    ap (λ es. map string_bytes (keys_of es)) c.in_ok-insert.ensures.entries
    ∙ names_of-insert_entry old c.in_ok-name.name _
    ∙ ap (λ name. with_name name (map string_bytes (keys_of old))) (c.in_ok-name.ensures.ok ∙ c.as_str.ensures)
