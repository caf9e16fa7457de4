-- What the parameter of a route takes of a path that fits it, where it is the only one and a whole segment.
use Rattle.std.proofs.Common.{◌≡◌, ◌⊎◌, inl, inr, ℕ, suc, ◌≤◌, ◌+◌, ◌-◌, List, [], ◌∷◌, ◌++◌, length, get_or}
use Rattle.std.proofs.Common.{drop, take, Bool, true, false, cond, ◌==◌, ltb, leb, ◌&&◌, refl, sym, ap, ◌∙◌, arith, subst}
use Rattle.std.proofs.Common.{length-append, append-nil, append_assoc}
use Rattle.std.proofs.Math.Seq.{get_or-append_seam, take-append_seam}
use Rattle.std.proofs.lemmas.Bool.Decides.{nat_tests}
use Rattle.std.proofs.lemmas.Str.{IsUtf8-drop, IsCharBoundary-after_ascii, IsCharBoundary-before_ascii, IsUtf8-take}
use Rattle.std.specs.Str.{IsUtf8}
use Rattle.matchit.specs.Level.{IsText}
use Rattle.matchit.specs.Params.{walk, wild_from, wild_stop, part_of}
use Rattle.matchit.specs.Rows.{param_token}
use Rattle.matchit.specs.Seek.{segment, has_slash}
use Rattle.route_search.specs.Segment.{slash, IsSegment}
use Rattle.route_search.proofs.Fits.{Fits, EndsSegment}
use Rattle.route_search.proofs.Literals.{Follows, follows}
use Rattle.route_search.proofs.Segments.{has_no_slash, cut_at}

drop_front : (front back : List ℕ) → drop (length front) (front ++ back) ≡ back
drop_front [] back = refl
drop_front (b ∷ front) back = drop_front front back

-- what is after a parameter: nothing, or a slash
abbrev pub GoesOn : List ℕ → List ℕ → Type 0
GoesOn pattern rest =
    ((pattern ≡ []) × (rest ≡ []))
    ⊎ ((p : List ℕ) × (r : List ℕ) × (pattern ≡ slash ∷ p) × (rest ≡ slash ∷ r))

pub goes_on : (pattern rest : List ℕ) → EndsSegment pattern → Fits pattern rest → GoesOn pattern rest
goes_on [] rest ends fits = inl (refl, fits)
goes_on (token ∷ pattern) rest ends (r, inl (byte, same), fits) =
    inr (pattern, r, ap (λ t. t ∷ pattern) ends, same ∙ ap (λ t. t ∷ r) ends)
goes_on (token ∷ pattern) rest ends (r, inr (param, other), fits) = absurd (omega (arith, ends, param))

-- ---- where the parameter begins

begins_at
    : (before after : List ℕ) (len token at : ℕ) → IsText before → at + length before ≤ len
    → wild_from (before ++ param_token ∷ after) len token at ≡ (token + length before, at + length before)
begins_at [] after len token at text fits =
    let a : token + 0 ≡ token = omega arith in
    let b : at + 0 ≡ at = omega arith in
    rw (a, b) refl
begins_at (x ∷ before) after len token at text fits =
    let byte : ltb x param_token ≡ true = let less = text.0 in grind (arith, nat_tests) in
    let within : ltb at len ≡ true = grind (arith, nat_tests) in
    let a : token + suc (length before) ≡ (token + 1) + length before = omega arith in
    let b : at + suc (length before) ≡ (at + 1) + length before = omega arith in
    rw (byte, within, a, b) (begins_at before after len (token + 1) (at + 1) text.1 (omega arith))

-- ---- where it ends

no_more : (v w : Bool) (x y : ℕ) → cond ((v && w) && false) x y ≡ y
no_more true true x y = refl
no_more true false x y = refl
no_more false w x y = refl

last_stop
    : (pattern path : List ℕ) (token at : ℕ) → ltb (token + 1) (length pattern) ≡ false
    → wild_stop pattern token path at ≡ length path
last_stop pattern path token at last =
    let taken : ℕ = at + length (segment (drop at path)) - length (segment (drop (token + 1) pattern)) in
    rw last (no_more (ltb token (length pattern)) (get_or pattern token 0 == param_token) taken (length path))

after_token : (before : List ℕ) (token : ℕ) (after : List ℕ) → drop (length before + 1) (before ++ token ∷ after) ≡ after
after_token [] token after = refl
after_token (b ∷ before) token after =
    let n : suc (length before) + 1 ≡ suc (length before + 1) = omega arith in
    rw n (after_token before token after)

stops_at_end
    : (before value : List ℕ)
    → wild_stop (before ++ param_token ∷ []) (length before) (before ++ value) (length before)
    ≡ length before + length value
stops_at_end before value =
    let pattern : List ℕ = before ++ param_token ∷ [] in
    let long : length pattern ≡ length before + 1 = length-append before (param_token ∷ []) in
    let last : ltb (length before + 1) (length pattern) ≡ false = grind (arith, nat_tests) in
    let whole : length (before ++ value) ≡ length before + length value = length-append before value in
    last_stop pattern (before ++ value) (length before) (length before) last ∙ whole

stops_at_slash
    : (before after value rest : List ℕ) → has_slash value ≡ false
    → wild_stop (before ++ param_token ∷ slash ∷ after) (length before) (before ++ (value ++ slash ∷ rest)) (length before)
    ≡ length before + length value
stops_at_slash before after value rest none =
    let pattern : List ℕ = before ++ param_token ∷ slash ∷ after in
    let long : length pattern ≡ length before + suc (suc (length after)) =
    length-append before (param_token ∷ slash ∷ after) in
    let here : ltb (length before) (length pattern) ≡ true = grind (arith, nat_tests) in
    let next : ltb (length before + 1) (length pattern) ≡ true = grind (arith, nat_tests) in
    let token : get_or pattern (length before) 0 ≡ param_token =
    get_or-append_seam before param_token (slash ∷ after) 0 in
    let left : drop (length before) (before ++ (value ++ slash ∷ rest)) ≡ value ++ slash ∷ rest =
    drop_front before (value ++ slash ∷ rest) in
    let more : drop (length before + 1) pattern ≡ slash ∷ after = after_token before param_token (slash ∷ after) in
    let seg : length (segment (value ++ slash ∷ rest)) ≡ length value + 1 =
    ap length (cut_at value rest none).first ∙ length-append value (slash ∷ []) in
    let sum : length before + (length value + 1) - 1 ≡ length before + length value = omega arith in
    rw (here, next, token, left, more, seg) sum

stops_at
    : (before after value rest : List ℕ) → GoesOn after rest → has_slash value ≡ false
    → wild_stop (before ++ param_token ∷ after) (length before) (before ++ (value ++ rest)) (length before)
    ≡ length before + length value
stops_at before after value rest (inl (ends, nothing)) none =
    rw (ends, nothing, append-nil value) (stops_at_end before value)
stops_at before after value rest (inr (p, r, more, left)) none =
    rw (more, left) (stops_at_slash before p value r none)

-- ---- what it takes

part_at
    : (before value rest : List ℕ)
    → part_of (before ++ (value ++ rest)) (length before) (length before + length value) ≡ value
part_at before value rest =
    let whole : length (before ++ (value ++ rest)) ≡ length before + (length value + length rest) =
    length-append before (value ++ rest) ∙ ap (λ n. length before + n) (length-append value rest) in
    let ordered : leb (length before) (length before + length value) ≡ true = grind (arith, nat_tests) in
    let within : leb (length before + length value) (length (before ++ (value ++ rest))) ≡ true =
    grind (arith, nat_tests) in
    let long : length before + length value - length before ≡ length value = omega arith in
    rw (ordered, within, long, drop_front before (value ++ rest)) (take-append_seam value rest)

-- the only parameter of a pattern takes its segment of a path
pub takes_segment
    : (before after value rest text : List ℕ) (name : ℕ × ℕ) → IsText before → GoesOn after rest → IsSegment value
    → walk (before ++ param_token ∷ after) text (before ++ (value ++ rest)) (name ∷ []) 0 0
    ≡ (part_of text name.0 name.1, value) ∷ []
takes_segment before after value rest text name bytes goes is =
    let path : List ℕ = before ++ (value ++ rest) in
    let long : length path ≡ length before + length (value ++ rest) = length-append before (value ++ rest) in
    let zero : 0 + length before ≡ length before = omega arith in
    let begins : wild_from (before ++ param_token ∷ after) (length path) 0 0 ≡ (length before, length before) =
    subst (λ n. wild_from (before ++ param_token ∷ after) (length path) 0 0 ≡ (n, n)) zero
    (begins_at before after (length path) 0 0 bytes (omega arith)) in
    let stops = stops_at before after value rest goes (has_no_slash value is.no_slash) in
    rw (begins, stops) (ap (λ part. (part_of text name.0 name.1, part) ∷ []) (part_at before value rest))

-- where a part between slashes, or at the end, is cut from a text, it is one
pub segment_is_text
    : (front value after rest : List ℕ) → IsUtf8 ((front ++ slash ∷ []) ++ (value ++ rest)) → GoesOn after rest
    → IsUtf8 value
segment_is_text front value after rest text goes = subst IsUtf8 (take-append_seam value rest) (by goes)
  where
    path : List ℕ
    path = (front ++ slash ∷ []) ++ (value ++ rest)

    at : length (front ++ slash ∷ []) ≡ length front + 1
    at = length-append front (slash ∷ [])

    later : IsUtf8 (value ++ rest)
    later =
        let whole : length path ≡ length (front ++ slash ∷ []) + length (value ++ rest) =
        length-append (front ++ slash ∷ []) (value ++ rest) in
        let here : get_or path (length front) 0 ≡ slash =
        ap (λ p. get_or p (length front) 0) (append_assoc front (slash ∷ []) (value ++ rest))
        ∙ get_or-append_seam front slash (value ++ rest) 0 in
        let cut = IsCharBoundary-after_ascii path (length front) text (omega (arith, at)) (omega arith) in
        subst IsUtf8 (ap (λ n. drop n path) (sym at) ∙ drop_front (front ++ slash ∷ []) (value ++ rest))
        (IsUtf8-drop path (length front + 1) text cut)

    by : GoesOn after rest → IsUtf8 (take (length value) (value ++ rest))
    by (inl (ends, nothing)) =
        subst IsUtf8 (sym (take-append_seam value rest)) (subst IsUtf8 (ap (λ r. value ++ r) nothing ∙ append-nil value) later)
    by (inr (p, r, more, left)) =
        let text : IsUtf8 (value ++ slash ∷ r) = subst (λ r. IsUtf8 (value ++ r)) left later in
        let whole : length (value ++ slash ∷ r) ≡ length value + suc (length r) = length-append value (slash ∷ r) in
        let here : get_or (value ++ slash ∷ r) (length value) 0 ≡ slash = get_or-append_seam value slash r 0 in
        let cut = IsCharBoundary-before_ascii (value ++ slash ∷ r) (length value) (omega arith) (omega arith) in
        subst (λ r. IsUtf8 (take (length value) (value ++ r))) (sym left)
        (IsUtf8-take (value ++ slash ∷ r) (length value) text cut)

-- ---- a pattern with one parameter, after a slash

-- the path is the front of the pattern, a segment, and what fits the rest of the pattern
pub record IsAround (front after path value rest : List ℕ) : Type 0 where
  pub whole : path ≡ (front ++ slash ∷ []) ++ (value ++ rest)
  pub segment : IsSegment value
  pub left : Fits after rest

pub around
    : (front after path : List ℕ) → IsText (front ++ slash ∷ [])
    → Fits ((front ++ slash ∷ []) ++ param_token ∷ after) path
    → (value : List ℕ) × (rest : List ℕ) × IsAround front after path value rest
around front after path bytes fits = by (follows (front ++ slash ∷ []) (param_token ∷ after) path bytes fits)
  where
    by : Follows (front ++ slash ∷ []) (param_token ∷ after) path
        → (value : List ℕ) × (rest : List ℕ) × IsAround front after path value rest
    by later = at later.left
      where
        at : Fits (param_token ∷ after) later.rest
            → (value : List ℕ) × (rest : List ℕ) × IsAround front after path value rest
        at (rest, inl (byte, same), fits) = absurd (omega (arith, byte))
        at (rest, inr (param, (value, segment, same)), fits) = (
          value,
          rest,
          record {
            whole = later.whole ∙ ap (λ x. (front ++ slash ∷ []) ++ x) same;
            segment = segment;
            left = fits;
          },
        )

-- what the only name took of it is that segment, and a text
pub around_takes
    : (front after path value rest text : List ℕ) (name : ℕ × ℕ) → IsText (front ++ slash ∷ [])
    → EndsSegment after → IsAround front after path value rest → IsUtf8 path
    → (walk ((front ++ slash ∷ []) ++ param_token ∷ after) text path (name ∷ []) 0 0
    ≡ (part_of text name.0 name.1, value) ∷ []) × IsUtf8 value
around_takes front after path value rest text name bytes ends is utf8 =
    let before : List ℕ = front ++ slash ∷ [] in
    let goes = goes_on after rest ends is.left in (
      ap (λ p. walk (before ++ param_token ∷ after) text p (name ∷ []) 0 0) is.whole
          ∙ takes_segment before after value rest text name bytes goes is.segment,
      segment_is_text front value after rest (subst IsUtf8 is.whole utf8) goes,
    )
