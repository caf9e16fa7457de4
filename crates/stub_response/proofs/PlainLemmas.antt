-- Header lines without templates.
use Rattle.std.proofs.Common.{◌≡◌, ℕ, List, [], ◌∷◌, ◌++◌, map, refl, ap, ◌∙◌}
use Rattle.std.specs.List.{AllZip}
use Rattle.std.proofs.lemmas.List.{map-append}
use Rattle.std.proofs.lemmas.List.Sums.{fold-append}
use Rattle.mapping_model.specs.declared.header_lines.HeaderLine.{HeaderLine}
use Rattle.stub_response.specs.Inner.Plain.{plain_header}
use Rattle.stub_response.specs.Headers.{headers_of, with_header}
use Rattle.stub_response.specs.Response.{IsLine, Itself}

pub headers_push : (lines : List (HeaderLine (List ℕ))) (line : HeaderLine (List ℕ))
    → headers_of (map plain_header (lines ++ line ∷ []))
    ≡ with_header (headers_of (map plain_header lines)) (plain_header line)
headers_push lines line =
    ap headers_of (map-append plain_header lines (line ∷ []))
    ∙ fold-append with_header [] (map plain_header lines) (plain_header line ∷ [])

pub plain_lines : (lines : List (HeaderLine (List ℕ))) → AllZip (IsLine Itself) lines (map plain_header lines)
plain_lines [] = tt
plain_lines (line ∷ lines) =
    (record { text = line.value; given = refl; name = refl; value = refl }, plain_lines lines)
