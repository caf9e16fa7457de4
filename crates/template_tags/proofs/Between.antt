-- The words of a tag are what is between breaks.
use Rattle.std.proofs.Common.{◌≡◌, ℕ, Bool, true, false, ◌&&◌, ◌||◌, List, [], ◌∷◌, ◌++◌, refl, ap, ◌∙◌}
use Rattle.std.proofs.lemmas.Bool.{true≢false}
use Rattle.template_words.specs.Modes.{mode_after, mode_after_bytes, mode_of_byte, is_outside}
use Rattle.template_words.specs.Words.{is_break, has_break}
use Rattle.template_words.specs.declared.mode.Mode.{Mode}
use Rattle.template_tags.specs.Items.{break_before, word_before, byte_before, cut, items_after}
use Rattle.template_tags.proofs.Cuts.{mode_is}

neither : (a b : Bool) → (a || b) ≡ false → (a ≡ false) × (b ≡ false)
neither true b e = absurd (true≢false e)
neither false b e = (refl, e)

cut_between : (mode : Mode) (w rest : List ℕ) (b : ℕ) → has_break mode w ≡ false
    → is_outside (mode_after_bytes mode w) ≡ true → is_break b ≡ true
    → cut mode (w ++ b ∷ rest) ≡ (w, break_before b (items_after (mode_of_byte b) rest))
cut_between mode [] rest b unbroken outside is =
    let both : (is_outside mode && is_break b) ≡ true = rw outside is in
    ap (λ t. byte_before t b (cut (mode_after mode b) rest)) both
    ∙ ap (λ m. ([], break_before b (items_after m rest))) (mode_is mode b both)
cut_between mode (c ∷ w) rest b unbroken outside is =
    let n = neither (is_outside mode && is_break c) (has_break (mode_after mode c) w) unbroken in
    ap (λ t. byte_before t c (cut (mode_after mode c) (w ++ b ∷ rest))) n.0
    ∙ ap (byte_before false c) (cut_between (mode_after mode c) w rest b n.1 outside is)

cut_last : (mode : Mode) (w : List ℕ) → has_break mode w ≡ false → cut mode w ≡ (w, [])
cut_last mode [] unbroken = refl
cut_last mode (c ∷ w) unbroken =
    let n = neither (is_outside mode && is_break c) (has_break (mode_after mode c) w) unbroken in
    ap (λ t. byte_before t c (cut (mode_after mode c) w)) n.0
    ∙ ap (byte_before false c) (cut_last (mode_after mode c) w n.1)

pub word_between : (mode : Mode) (w rest : List ℕ) (b : ℕ) → has_break mode w ≡ false
    → is_outside (mode_after_bytes mode w) ≡ true → is_break b ≡ true
    → items_after mode (w ++ b ∷ rest) ≡ word_before w (break_before b (items_after (mode_of_byte b) rest))
word_between mode w rest b unbroken outside is =
    ap (λ c. word_before c.0 c.1) (cut_between mode w rest b unbroken outside is)

pub word_last : (mode : Mode) (w : List ℕ) → has_break mode w ≡ false → items_after mode w ≡ word_before w []
word_last mode w unbroken = ap (λ c. word_before c.0 c.1) (cut_last mode w unbroken)
