-- Names with values, and hosts, that the definitions read as the standards and the documents say.
use Rattle.std.proofs.Common.{◌≡◌, [], ◌∷◌, refl, codes}
use Rattle.std.specs.Str.{is_utf8, chars}
use Rattle.std.specs.Str.Lossy.{utf8_lossy, utf8_valid_len}
use Rattle.std.proofs.Math.Utf8.{encode}
use Rattle.data_tree.specs.Tree.{text, fields, named, no_items, item, no_members, member}
use Rattle.request_data.specs.Grouped.{names_in, grouped}
use Rattle.request_data.specs.Authority.{authority_of}

-- ---- names with values

-- byte order, and not the order of lengths or of the alphabet
names_in_byte_order
    : names_in
    ((codes "b", []) ∷ (codes "a", []) ∷ (codes "b", []) ∷ (codes "aa", []) ∷ (codes "B", [])
    ∷ ([], []) ∷ [])
    ≡ [] ∷ codes "B" ∷ codes "a" ∷ codes "aa" ∷ codes "b" ∷ []
names_in_byte_order = refl

a_name_twice : grouped ((codes "q", codes "a") ∷ (codes "p", []) ∷ (codes "q", codes "b") ∷ [])
    ≡ fields (member (codes "p") (named [] (item (text []) no_items) no_members)
    (member (codes "q") (named (codes "a") (item (text (codes "a")) (item (text (codes "b")) no_items)) no_members)
    no_members))
a_name_twice = refl

-- ---- the host header

first_host
    : authority_of
    (record { name = codes "cookie"; value = codes "a=1" } ∷ record { name = codes "host"; value = codes "h:81" }
    ∷ record { name = codes "host"; value = codes "i" } ∷ [])
    ≡ codes "h:81"
unfolding utf8_lossy utf8_valid_len is_utf8 chars encode
first_host = refl

no_host : authority_of [] ≡ []
no_host = refl
