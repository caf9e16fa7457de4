-- The bytes that are escaped are all but the unreserved ones.
use Rattle.std.proofs.Common.{◌≡◌, ℕ, ◌<◌, ◌≤◌, Bool, true, false, not, List, [], ◌∷◌, refl, ap}
use Rattle.std.proofs.Common.{◌∙◌, ⊎_elim, if◌then◌else◌, arith}
use Rattle.std.proofs.lemmas.Bool.{agree_below, agree_below_at}
use Rattle.std.proofs.lemmas.Bool.Decides.{nat_tests, leb_tells}
use Rattle.std.specs.List.{flat_map}
use Rattle.percent_encoding.specs.AsciiSet.{contains, should_percent_encode}
use Rattle.percent_encoding.specs.Percent.{percent_encode, percent_encode_byte, encode_byte}
use Rattle.helper_set.specs.Texts.{is_unreserved, url_encoded_byte, url_encoded}
use Rattle.helper_set.specs.declared.apply.TheConstants.{RESERVED}

-- checked byte by byte
reserved : agree_below (contains RESERVED) (λ b. not (is_unreserved b)) 128 ≡ true
reserved = refl

escaped_low : (b : ℕ) → b < 128 → should_percent_encode RESERVED b ≡ not (is_unreserved b)
unfolding should_percent_encode
escaped_low b low = let e = agree_below_at (contains RESERVED) (λ b. not (is_unreserved b)) 128 b reserved low in
    grind (arith, nat_tests, e)

escaped_high : (b : ℕ) → 128 ≤ b → should_percent_encode RESERVED b ≡ not (is_unreserved b)
unfolding should_percent_encode
escaped_high b high = grind (arith, nat_tests)

escaped : (b : ℕ) → should_percent_encode RESERVED b ≡ not (is_unreserved b)
escaped b = ⊎_elim (λ x. escaped_high b x.1) (λ x. escaped_low b x.1) (leb_tells 128 b)

swapped : (unreserved : Bool) (x y : List ℕ) → (if not unreserved then x else y) ≡ (if unreserved then y else x)
swapped true x y = refl
swapped false x y = refl

byte_is : (b : ℕ) → encode_byte RESERVED b ≡ url_encoded_byte b
byte_is b =
    ap (λ (t : Bool). if t then percent_encode_byte b else b ∷ []) (escaped b)
    ∙ swapped (is_unreserved b) (percent_encode_byte b) (b ∷ [])

bytes_are : (s : List ℕ) → flat_map (encode_byte RESERVED) s ≡ url_encoded s
bytes_are [] = refl
bytes_are (b ∷ bs) = let head = byte_is b in let rest = bytes_are bs in cc

pub percent_encode_is : (s : List ℕ) → percent_encode RESERVED s ≡ url_encoded s
unfolding percent_encode
percent_encode_is s = bytes_are s
