-- What the hash of a key writes, and the laws of the comparison of keys.
use Rattle.std.specs.Prelude.{ℕ, List, [], ◌∷◌, ◌++◌, length}
use Rattle.std.specs.Cmp.{IsEquivalence, and_equiv, on_equiv}
use Rattle.std.specs.Cmp.Lexicographic.{bytes_decides, lists_equiv, on_texts_equal}
use Rattle.std.specs.Hash as fed
use Rattle.std.specs.Hash.{HashWrites, Alike, and-Alike, items_Alike, on_Alike, same_Alike}
use Rattle.std.specs.Str.{bytes_eq}
use Rattle.mock_request.specs.Request.{Header}
use Rattle.recorder.specs.Key.{KeyParts, same_header, same_key}

-- the length, and then the bytes in one write
abbrev pub bytes_writes : List ℕ → HashWrites
bytes_writes bytes = fed.usize (length bytes) ++ bytes ∷ []

abbrev pub header_writes : Header → HashWrites
header_writes header = bytes_writes header.name ++ bytes_writes header.value

abbrev pub key_writes : KeyParts → HashWrites
key_writes key =
    ((bytes_writes key.method ++ bytes_writes key.url) ++ fed.slice header_writes key.headers)
    ++ bytes_writes key.body

-- ---- laws

same_header_laws : IsEquivalence same_header
same_header_laws =
    and_equiv (on_texts_equal (λ (header : Header). header.name)) (on_texts_equal (λ (header : Header). header.value))

pub same_key_laws : IsEquivalence same_key
same_key_laws =
    and_equiv
    (and_equiv
    (and_equiv (on_texts_equal (λ (key : KeyParts). key.method)) (on_texts_equal (λ (key : KeyParts). key.url)))
    (on_equiv (λ (key : KeyParts). key.headers) (lists_equiv same_header_laws)))
    (on_texts_equal (λ (key : KeyParts). key.body))

bytes_Alike : Alike bytes_eq bytes_writes
bytes_Alike = same_Alike bytes_writes bytes_decides

header_Alike : Alike same_header header_writes
header_Alike =
    and-Alike (on_Alike (λ (header : Header). header.name) bytes_Alike)
    (on_Alike (λ (header : Header). header.value) bytes_Alike)

-- equal keys are hashed alike
pub key_Alike : Alike same_key key_writes
key_Alike =
    and-Alike
    (and-Alike
    (and-Alike (on_Alike (λ (key : KeyParts). key.method) bytes_Alike)
    (on_Alike (λ (key : KeyParts). key.url) bytes_Alike))
    (on_Alike (λ (key : KeyParts). key.headers) (items_Alike header_Alike)))
    (on_Alike (λ (key : KeyParts). key.body) bytes_Alike)
