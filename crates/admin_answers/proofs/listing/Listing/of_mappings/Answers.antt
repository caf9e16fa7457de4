use Rattle.std.proofs.Common.{◌<◌, ◌^◌, ◌++◌, ◌∙◌, sym, ap, arith, codes, false, length, map, string_bytes}
use Rattle.std.proofs.lemmas.List.Elements.{recursion_from_All}
use Rattle.std.proofs.lemmas.Result.{IfOk-weaker}
use Rattle.admin_json.specs.Mappings.{json_of_mappings}
use Rattle.admin_json.specs.WholeNumbers.{HasWholeNumbers}
use Rattle.admin_json.proofs.MappingLemmas.{mappings_regular}
use Rattle.admin_json.proofs.Regular.{reads_back}
use Rattle.admin_answers.specs.Inner.Joined.{joined}
use Rattle.admin_answers.specs.Inner.Mapped.{text_of_mapping}
use Rattle.admin_answers.proofs.JoinedLemmas.{mappings_text}
use Rattle.serde_json.specs.Read.{read}
use Rattle.admin_answers.proofs.listing.Listing.of_mappings.Goals as goal

pub returns-clause-text : goal.returns-clause-text
returns-clause-text c =
    let ms = c.args.mappings.now in
    IfOk-weaker c.mapping_listing.result _ _
    (λ listing made. made
    ∙ ap (λ ts. codes "{\"mappings\":[" ++ joined (codes "]" ++ string_bytes c.in_ok-end.end) false ts)
    c.in_ok-texts.ensures
    ∙ ap (λ end. codes "{\"mappings\":[" ++ joined (codes "]" ++ end) false (map text_of_mapping ms))
    c.in_ok-end.ensures
    ∙ sym (mappings_text ms))
    c.mapping_listing.ensures

pub returns-clause-reads_back : goal.returns-clause-reads_back
returns-clause-reads_back c =
    let ms = c.args.mappings.now in
    let fits : length ms < 2 ^ 64 = omega arith in
    let regular = mappings_regular ms fits (recursion_from_All HasWholeNumbers ms c.law_each_is_whole.ensures) in
    IfOk-weaker c.mapping_listing.result _ _
    (λ listing made shallow. ap read made ∙ reads_back (json_of_mappings ms) regular shallow)
    (returns-clause-text c)
