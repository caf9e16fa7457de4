use Rattle.std.proofs.Common.{◌<◌, ◌^◌, ◌++◌, ◌∙◌, sym, ap, arith, codes, false, map, string_bytes}
use Rattle.std.proofs.lemmas.List.Elements.{recursion_from_All}
use Rattle.std.proofs.lemmas.Result.{IfOk-weaker}
use Rattle.admin_json.specs.Recordings.{json_of_recorded}
use Rattle.admin_json.specs.WholeNumbers.{HasWholeNumbers}
use Rattle.admin_json.proofs.MappingLemmas.{recorded_regular}
use Rattle.admin_json.proofs.Regular.{reads_back}
use Rattle.admin_answers.specs.Inner.Joined.{joined}
use Rattle.admin_answers.specs.Inner.Mapped.{text_of_mapping}
use Rattle.admin_answers.proofs.JoinedLemmas.{recorded_text}
use Rattle.serde_json.specs.Read.{read}
use Rattle.admin_answers.proofs.listing.Listing.of_recorded.Goals as goal

pub returns-clause-text : goal.returns-clause-text
returns-clause-text c =
    let ms = c.args.mappings.now in
    IfOk-weaker c.mapping_listing.result _ _
    (λ listing made. made
    ∙ ap (λ ts. codes "{\"mappings\":[" ++ joined (codes "]" ++ string_bytes c.in_ok-end.end) false ts)
    c.in_ok-texts.ensures
    ∙ ap (λ end. codes "{\"mappings\":[" ++ joined (codes "]" ++ end) false (map text_of_mapping ms))
    c.in_ok-end.ensures
    ∙ sym (recorded_text ms c.args.skipped))
    c.mapping_listing.ensures

pub returns-clause-reads_back : goal.returns-clause-reads_back
returns-clause-reads_back c =
    let ms = c.args.mappings.now in
    let fits : c.args.skipped < 2 ^ 64 = omega arith in
    let skipped = c.args.skipped in
    let regular =
    recorded_regular ms skipped fits (recursion_from_All HasWholeNumbers ms c.law_each_is_whole.ensures) in
    IfOk-weaker c.mapping_listing.result _ _
    (λ listing made shallow. ap read made ∙ reads_back (json_of_recorded ms skipped) regular shallow)
    (returns-clause-text c)
