-- How the code's trimming and its cuts meet the definition of cookies.
use Rattle.std.proofs.Common.{eqb, ◌≡◌, ◌≢◌, ℕ, ◌-◌, true, false, List, [], ◌∷◌, ◌++◌}
use Rattle.std.proofs.Common.{◌⊎◌, None, Some, Bor, map, reverse, String, string_bytes, length, take, drop, sym}
use Rattle.std.proofs.Common.{refl, ap, ◌∙◌, inl, inr, append_assoc, append-nil, arith}
use Rattle.std.proofs.Math.Utf8.{encode}
use Rattle.std.specs.declared.alloc.Global.{Global}
use Rattle.std.specs.List.{filter_map, cons_option}
use Rattle.std.specs.Str.Pattern.{FindsCharPrefix, FindsCharSuffix, CutsPrefixes, CutsSuffixes, IsFullyTrimmed}
use Rattle.std.specs.Str.Pattern.{IsTrimStartMatches, IsTrimEndMatches}
use Rattle.std.proofs.lemmas.Bool.Decides.{eqb_tells}
use Rattle.std.proofs.lemmas.List.{reverse-append, reverse-reverse, map-append, drop_all, take-append-drop}
use Rattle.std.proofs.lemmas.List.Elements.{filter_map-append}
use Rattle.std.proofs.lemmas.Str.Pattern.{drop_at_char}
use Rattle.mock_request.specs.Cookies.{space, without_leading_spaces, without_spaces_around, cookie_in}
use Rattle.mock_request.specs.Values.{pair_of, pairs_of}

-- ---- spaces at the start

space_off : (bs : List ℕ) → without_leading_spaces (space ∷ bs) ≡ without_leading_spaces bs
space_off bs = refl

front_cut
    : (s r : List ℕ) (ns : List ℕ) → CutsPrefixes (FindsCharPrefix space) s ns r
    → without_leading_spaces s ≡ without_leading_spaces r
front_cut s r [] e = ap without_leading_spaces (sym e)
front_cut s r (n ∷ ns) (m, before, at, left) =
    let here : m ≡ space ∷ drop n m = drop_at_char space m 0 n at (omega arith) in
    front_cut s m ns before ∙ ap without_leading_spaces here ∙ ap without_leading_spaces (sym left)

stays : (bs : List ℕ) → ((rest : List ℕ) → bs ≢ space ∷ rest) → without_leading_spaces bs ≡ bs
stays [] other = refl
stays (b ∷ bs) other = by (eqb_tells b space)
  where
    by : ((eqb b space ≡ true) × (b ≡ space)) ⊎ ((eqb b space ≡ false) × (b ≢ space))
        → without_leading_spaces (b ∷ bs) ≡ b ∷ bs
    by (inl e) = absurd (other bs (ap (λ c. c ∷ bs) e.1))
    by (inr e) = rw e.0 refl

front_trimmed : (r : List ℕ) → IsFullyTrimmed (FindsCharPrefix space) r → without_leading_spaces r ≡ r
unfolding encode
front_trimmed r (None, none, end) = stays r none
front_trimmed r (Some n, at, end) = absurd (omega (arith, at.ends, end))

pub spaces_cut_at_start : (s r : List ℕ) → IsTrimStartMatches (FindsCharPrefix space) s r
    → without_leading_spaces s ≡ r
spaces_cut_at_start s r (cut, end) = front_cut s r cut.0 cut.1 ∙ front_trimmed r end

-- ---- spaces at the end

back_cut
    : (s r : List ℕ) (ns : List ℕ) → CutsSuffixes (FindsCharSuffix space) s ns r
    → without_leading_spaces (reverse s) ≡ without_leading_spaces (reverse r)
back_cut s r [] e = ap (λ bs. without_leading_spaces (reverse bs)) (sym e)
back_cut s r (n ∷ ns) (m, before, at, left) =
    let last : drop (length m - n) m ≡ space ∷ drop (length m) m =
    drop_at_char space m (length m - n) (length m) at.1 (omega arith) in
    let none : drop (length m) m ≡ [] = drop_all (length m) m (omega arith) in
    let whole : m ≡ r ++ space ∷ [] =
    sym (take-append-drop (length m - n) m)
    ∙ ap (λ bs. take (length m - n) m ++ bs) (last ∙ ap (λ bs. space ∷ bs) none)
    ∙ ap (λ bs. bs ++ space ∷ []) (sym left) in
    let turned : reverse m ≡ space ∷ reverse r = ap reverse whole ∙ reverse-append r (space ∷ []) in
    back_cut s m ns before ∙ ap without_leading_spaces turned

back_trimmed : (r : List ℕ) → IsFullyTrimmed (FindsCharSuffix space) r
    → without_leading_spaces (reverse r) ≡ reverse r
unfolding encode
back_trimmed r (None, none, end) =
    stays (reverse r)
    (λ rest e. none (reverse rest) (sym (reverse-reverse r) ∙ ap reverse e ∙ reverse-append (space ∷ []) rest))
back_trimmed r (Some n, at, end) = absurd (omega (arith, at.0, end))

pub spaces_cut_at_end
    : (s r : List ℕ) → IsTrimEndMatches (FindsCharSuffix space) s r
    → reverse (without_leading_spaces (reverse s)) ≡ r
spaces_cut_at_end s r (cut, end) = ap reverse (back_cut s r cut.0 cut.1 ∙ back_trimmed r end) ∙ reverse-reverse r

pub spaces_cut
    : (s m r : List ℕ) → IsTrimStartMatches (FindsCharPrefix space) s m
    → IsTrimEndMatches (FindsCharSuffix space) m r → r ≡ without_spaces_around s
spaces_cut s m r front back =
    sym (spaces_cut_at_end m r back)
    ∙ ap (λ bs. reverse (without_leading_spaces (reverse bs))) (sym (spaces_cut_at_start s m front))

-- ---- one more piece

-- the cookies of the pieces so far
abbrev pub cookies_of : List (Bor (List ℕ)) → List (List ℕ × List ℕ)
cookies_of pieces = filter_map (λ piece. cookie_in (without_spaces_around piece)) (map (λ piece. piece.now) pieces)

pub cookies_of_more
    : (pieces : List (Bor (List ℕ))) (piece : Bor (List ℕ))
    → cookies_of (pieces ++ piece ∷ [])
    ≡ cookies_of pieces ++ cons_option (cookie_in (without_spaces_around piece.now)) []
cookies_of_more pieces piece =
    ap (filter_map (λ piece. cookie_in (without_spaces_around piece)))
    (map-append (λ piece. piece.now) pieces (piece ∷ []))
    ∙ filter_map-append (λ piece. cookie_in (without_spaces_around piece))
    (map (λ piece. piece.now) pieces) (piece.now ∷ [])

pub cookie_pushed
    : (old new : List (String Global × String Global)) (start : List (List ℕ × List ℕ))
    (pieces : List (Bor (List ℕ))) (piece : Bor (List ℕ))
    (pair : String Global × String Global) (name value : List ℕ)
    → pairs_of old ≡ start ++ cookies_of pieces → new ≡ old ++ pair ∷ [] → string_bytes pair.0 ≡ name
    → string_bytes pair.1 ≡ value → Some (name, value) ≡ cookie_in (without_spaces_around piece.now)
    → pairs_of new ≡ start ++ cookies_of (pieces ++ piece ∷ [])
cookie_pushed old new start pieces piece pair name value so_far pushed named valued is =
    let this : pair_of pair ≡ (name, value) =
    ap (λ n. (n, string_bytes pair.1)) named ∙ ap (λ v. (name, v)) valued in
    ap pairs_of pushed
    ∙ map-append pair_of old (pair ∷ [])
    ∙ ap (λ p. pairs_of old ++ p ∷ []) this
    ∙ ap (λ ps. ps ++ (name, value) ∷ []) so_far
    ∙ append_assoc start (cookies_of pieces) ((name, value) ∷ [])
    ∙ ap (λ o. start ++ (cookies_of pieces ++ cons_option o [])) is
    ∙ ap (λ ps. start ++ ps) (sym (cookies_of_more pieces piece))

pub no_cookie_pushed
    : (old : List (String Global × String Global)) (start : List (List ℕ × List ℕ))
    (pieces : List (Bor (List ℕ))) (piece : Bor (List ℕ))
    → pairs_of old ≡ start ++ cookies_of pieces → None ≡ cookie_in (without_spaces_around piece.now)
    → pairs_of old ≡ start ++ cookies_of (pieces ++ piece ∷ [])
no_cookie_pushed old start pieces piece so_far none =
    so_far
    ∙ ap (λ ps. start ++ ps) (sym (append-nil (cookies_of pieces)))
    ∙ ap (λ o. start ++ (cookies_of pieces ++ cons_option o [])) none
    ∙ ap (λ ps. start ++ ps) (sym (cookies_of_more pieces piece))
