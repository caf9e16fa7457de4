-- What one more header adds to the hash of a key.
use Rattle.std.proofs.Common.{◌≡◌, ℕ, ◌+◌, ◌<◌, List, [], ◌∷◌, ◌++◌, Bor, length, get_or}
use Rattle.std.proofs.Common.{take, append-nil, sym, ap, ◌∙◌}
use Rattle.std.specs.Prelude.{fold}
use Rattle.std.specs.List.{flat_map}
use Rattle.std.proofs.lemmas.Grind.{flat_map-append}
use Rattle.std.proofs.lemmas.List.{map_more}
use Rattle.std.proofs.lemmas.List.Sums.{fold-append}
use Rattle.mock_request.specs.Request.{Header}
use Rattle.recorder.specs.Key.{fields_of}
use Rattle.recorder.specs.Inner.Keys.{bytes_writes, header_writes}

abbrev Field : Type 0
Field = Bor (List ℕ) × Bor (List ℕ)

abbrev field_header : Field → Header
field_header field = record { name = field.0.now; value = field.1.now }

pub header_written
    : {S : Type 0} (write : S → List ℕ → S) (start before named after : S) (fields : List Field)
    (i : ℕ) (field : Field) → i < length fields → field ≡ get_or fields i field
    → before ≡ fold write start (flat_map header_writes (fields_of (take i fields)))
    → named ≡ fold write before (bytes_writes field.0.now)
    → after ≡ fold write named (bytes_writes field.1.now)
    → after ≡ fold write start (flat_map header_writes (fields_of (take (i + 1) fields)))
header_written write start before named after fields i field within here so_far name value =
    let header : Header = field_header field in
    let front : List Header = fields_of (take i fields) in
    let more : fields_of (take (i + 1) fields) ≡ front ++ header ∷ [] =
    map_more field_header fields i field within ∙ ap (λ f. front ++ field_header f ∷ []) (sym here) in
    value
    ∙ ap (λ s. fold write s (bytes_writes header.value)) name
    ∙ sym (fold-append write before (bytes_writes header.name) (bytes_writes header.value))
    ∙ ap (λ s. fold write s (header_writes header)) so_far
    ∙ sym (fold-append write start (flat_map header_writes front) (header_writes header))
    ∙ ap (λ ws. fold write start (flat_map header_writes front ++ ws)) (sym (append-nil (header_writes header)))
    ∙ ap (fold write start) (sym (flat_map-append header_writes front (header ∷ [])))
    ∙ ap (λ hs. fold write start (flat_map header_writes hs)) (sym more)
