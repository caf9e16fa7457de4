-- What is left of a value without the blanks at its ends: bytes of the value, and all of it where none is taken away.
use Rattle.std.proofs.Common.{◌≡◌, ℕ, ◌≤◌, Bool, true, false, if◌then◌else◌, List, [], ◌∷◌}
use Rattle.std.proofs.Common.{length, reverse, All, refl, sym, ap, subst, ◌∙◌, arith}
use Rattle.std.proofs.lemmas.List.{reverse-append, reverse-reverse, length-reverse}
use Rattle.std.proofs.lemmas.List.Elements.{All-head, All-tail, All-push}
use Rattle.http_messages.specs.Wire.{is_blank, without_blanks, without_end_blanks, without_front_blanks}

-- ---- lengths

front_step : (t : Bool) (b : ℕ) (bs : List ℕ) → length (without_front_blanks bs) ≤ length bs
    → length (if t then without_front_blanks bs else b ∷ bs) ≤ length (b ∷ bs)
front_step true b bs short = omega (arith, short)
front_step false b bs short = omega arith

front_short : (bs : List ℕ) → length (without_front_blanks bs) ≤ length bs
front_short [] = omega arith
front_short (b ∷ bs) = front_step (is_blank b) b bs (front_short bs)

same_step : (t : Bool) (b : ℕ) (bs : List ℕ)
    → length (if t then without_front_blanks bs else b ∷ bs) ≡ length (b ∷ bs)
    → (if t then without_front_blanks bs else b ∷ bs) ≡ b ∷ bs
same_step true b bs e = absurd (omega (arith, e, front_short bs))
same_step false b bs e = refl

front_same : (bs : List ℕ) → length (without_front_blanks bs) ≡ length bs → without_front_blanks bs ≡ bs
front_same [] e = refl
front_same (b ∷ bs) e = same_step (is_blank b) b bs e

end_length : (bs : List ℕ) → length (without_end_blanks bs) ≡ length (without_front_blanks (reverse bs))
end_length bs = length-reverse (without_front_blanks (reverse bs))

end_short : (bs : List ℕ) → length (without_end_blanks bs) ≤ length bs
end_short bs = omega (arith, end_length bs, front_short (reverse bs), length-reverse bs)

end_same : (bs : List ℕ) → length (without_end_blanks bs) ≡ length bs → without_end_blanks bs ≡ bs
end_same bs e =
    let same = front_same (reverse bs) (sym (end_length bs) ∙ e ∙ sym (length-reverse bs)) in
    ap reverse same ∙ reverse-reverse bs

pub nothing_taken : (bs : List ℕ) → length (without_blanks bs) ≡ length bs → without_blanks bs ≡ bs
nothing_taken bs e =
    let front = front_same bs (omega (arith, e, front_short bs, end_short (without_front_blanks bs))) in
    end_same (without_front_blanks bs) (omega (arith, e, ap length front)) ∙ front

-- ---- bytes

all_front_step : (P : ℕ → Type 0) (t : Bool) (b : ℕ) (bs : List ℕ) → All P (b ∷ bs)
    → All P (without_front_blanks bs) → All P (if t then without_front_blanks bs else b ∷ bs)
all_front_step P true b bs all rest = rest
all_front_step P false b bs all rest = all

all_front : (P : ℕ → Type 0) (bs : List ℕ) → All P bs → All P (without_front_blanks bs)
all_front P [] all = all
all_front P (b ∷ bs) all = all_front_step P (is_blank b) b bs all (all_front P bs (All-tail P b bs all))

all_reverse : (P : ℕ → Type 0) (bs : List ℕ) → All P bs → All P (reverse bs)
all_reverse P [] all = all
all_reverse P (b ∷ bs) all =
    subst (All P) (sym (reverse-append (b ∷ []) bs))
    (All-push P (reverse bs) b (all_reverse P bs (All-tail P b bs all)) (All-head P b bs all))

pub all_left : (P : ℕ → Type 0) (bs : List ℕ) → All P bs → All P (without_blanks bs)
all_left P bs all =
    let front = without_front_blanks bs in
    all_reverse P (without_front_blanks (reverse front))
    (all_front P (reverse front) (all_reverse P front (all_front P bs all)))
