-- The special characters of HTML, as Handlebars escapes them (Handlebars' guide, "HTML escaping").
use Rattle.std.specs.Prelude.{ℕ, ◌==◌, if◌then◌else◌, List, [], ◌∷◌, codes}
use Rattle.std.specs.List.{flat_map}

-- `&`, `<`, `>`, `"`, `'`, the backtick and `=` have a reference each; other bytes stay
abbrev pub html_escaped_byte : ℕ → List ℕ
html_escaped_byte b =
    if b == 38 then codes "&amp;"
    else if b == 60 then codes "&lt;"
    else if b == 62 then codes "&gt;"
    else if b == 34 then codes "&quot;"
    else if b == 39 then codes "&#x27;"
    else if b == 96 then codes "&#x60;"
    else if b == 61 then codes "&#x3D;"
    else b ∷ []

abbrev pub html_escaped : List ℕ → List ℕ
html_escaped s = flat_map html_escaped_byte s
