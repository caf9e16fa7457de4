-- How long an escaped text is at most.
use Rattle.std.proofs.Common.{◌≡◌, ℕ, ◌+◌, ◌*◌, ◌≤◌, Bool, true, false, List, [], ◌∷◌}
use Rattle.std.proofs.Common.{length, codes, cond, ap, ◌∙◌, arith, length-append}
use Rattle.std.proofs.lemmas.List.Concat.{flat_map-cons}
use Rattle.helper_set.specs.Escape.{html_escaped_byte, html_escaped}
use Rattle.template_code.specs.declared.limits.TheConstants.{MAX_ESCAPE_GROWTH}

escaped-by : (a b c d e f g : Bool) (x : ℕ) →
    length (cond a (codes "&amp;") (cond b (codes "&lt;") (cond c (codes "&gt;") (cond d (codes "&quot;")
    (cond e (codes "&#x27;") (cond f (codes "&#x60;") (cond g (codes "&#x3D;") (x ∷ [])))))))) ≤ MAX_ESCAPE_GROWTH
escaped-by true b c d e f g x = omega arith
escaped-by false true c d e f g x = omega arith
escaped-by false false true d e f g x = omega arith
escaped-by false false false true e f g x = omega arith
escaped-by false false false false true f g x = omega arith
escaped-by false false false false false true g x = omega arith
escaped-by false false false false false false true x = omega arith
escaped-by false false false false false false false x = omega arith

escaped-byte : (x : ℕ) → length (html_escaped_byte x) ≤ MAX_ESCAPE_GROWTH
escaped-byte x = search escaped-by

pub escaped-length : (s : List ℕ) → length (html_escaped s) ≤ MAX_ESCAPE_GROWTH * length s
escaped-length [] = omega arith
escaped-length (x ∷ s) =
    let e : length (html_escaped (x ∷ s)) ≡ length (html_escaped_byte x) + length (html_escaped s) =
    ap length (flat_map-cons html_escaped_byte x s) ∙ length-append (html_escaped_byte x) (html_escaped s) in
    omega (arith, e, escaped-byte x, escaped-length s)
