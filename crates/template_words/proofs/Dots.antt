-- The parts of a text between the dots outside of brackets, found one by one.
use Rattle.std.proofs.Common.{◌≡◌, ℕ, ◌+◌, ◌-◌, ◌<◌, ◌≤◌, Bool, true, false, List, []}
use Rattle.std.proofs.Common.{◌∷◌, ◌++◌, length, take, drop, get_or, slice_index, refl, sym, ap, subst}
use Rattle.std.proofs.Common.{◌∙◌, arith, length-append, length-drop, append_assoc, IsUtf8, IsCharBoundary}
use Rattle.std.proofs.lemmas.List.{append-nil, take_at, take_all, drop_at, get_or_at, get_or-drop}
use Rattle.std.proofs.lemmas.Str.{IsUtf8-drop, IsCharBoundary-before_ascii, IsCharBoundary-after_ascii}
use Rattle.std.proofs.lemmas.Bool.{eqb-true, false≢true}
use Rattle.template_words.specs.Bytes.{dot}
use Rattle.template_words.specs.Paths.{onto_first, next_in_bracket, is_separator, dotted_parts}

-- bytes before the first part
abbrev pub glue : List ℕ → List (List ℕ) → List (List ℕ)
glue [] parts = parts
glue (b ∷ bs) parts = onto_first b (glue bs parts)

pub glue_push : (xs : List ℕ) (b : ℕ) (parts : List (List ℕ))
    → glue (xs ++ b ∷ []) parts ≡ glue xs (onto_first b parts)
glue_push [] b parts = refl
glue_push (x ∷ xs) b parts = ap (onto_first x) (glue_push xs b parts)

pub glue_head : (xs part : List ℕ) (parts : List (List ℕ)) → glue xs (part ∷ parts) ≡ (xs ++ part) ∷ parts
glue_head [] part parts = refl
glue_head (x ∷ xs) part parts = ap (onto_first x) (glue_head xs part parts)

-- the first dot outside of brackets, by its offset
pub record DotAt (text : List ℕ) (n : ℕ) : Type 0 where
  pub inside : n < length text
  pub is_dot : slice_index text n ≡ dot
  pub parts : dotted_parts false text ≡ take n text ∷ dotted_parts false (drop (n + 1) text)

-- what is known before a rest that no dot has come before
pub record Seen (text : List ℕ) (at : ℕ) (inside : Bool) (rest : List ℕ) : Type 0 where
  pub front : List ℕ
  pub whole : text ≡ front ++ rest
  pub counted : length front ≡ at
  pub ahead : dotted_parts false text ≡ glue front (dotted_parts inside rest)

pub seen_more : (text : List ℕ) (at : ℕ) (inside : Bool) (b : ℕ) (after : List ℕ)
    → Seen text at inside (b ∷ after)
    → is_separator inside b ≡ false → Seen text (at + 1) (next_in_bracket inside b) after
seen_more text at inside b after s no_dot =
    let opened : dotted_parts inside (b ∷ after) ≡ onto_first b (dotted_parts (next_in_bracket inside b) after) =
    rw no_dot refl in
    record {
      front = s.front ++ b ∷ [];
      whole = s.whole ∙ sym (append_assoc s.front (b ∷ []) after);
      counted = omega (arith, length-append s.front (b ∷ []), s.counted);
      ahead =
          s.ahead ∙ (ap (glue s.front) opened ∙ sym
          (glue_push s.front b (dotted_parts (next_in_bracket inside b) after)));
    }

pub seen_end : (text : List ℕ) (at : ℕ) (inside : Bool) → Seen text at inside []
    → dotted_parts false text ≡ text ∷ []
seen_end text at inside s =
    s.ahead ∙ (glue_head s.front [] [] ∙ ap (λ x. x ∷ []) (sym s.whole))

pub seen_dot : (text : List ℕ) (at : ℕ) (after : List ℕ) → Seen text at false (dot ∷ after) → DotAt text at
seen_dot text at after s =
    let front : take at text ≡ s.front = ap (take at) s.whole ∙ take_at s.front (dot ∷ after) at s.counted in
    let regrouped : text ≡ (s.front ++ dot ∷ []) ++ after =
    s.whole ∙ sym (append_assoc s.front (dot ∷ []) after) in
    let back : drop (at + 1) text ≡ after =
    ap (drop (at + 1)) regrouped ∙ drop_at (s.front ++ dot ∷ []) after (at + 1)
    (omega (arith, length-append s.front (dot ∷ []), s.counted)) in
    let head : glue s.front (dotted_parts false (dot ∷ after)) ≡ (s.front ++ []) ∷ dotted_parts false after =
    glue_head s.front [] (dotted_parts false after) in
    record {
      inside = omega (arith, ap length s.whole, length-append s.front (dot ∷ after), s.counted);
      is_dot = ap (λ x. slice_index x at) s.whole ∙ get_or_at s.front dot after 0 at s.counted;
      parts =
          s.ahead ∙ (head ∙
          (ap (λ x. x ∷ dotted_parts false after) (append-nil s.front ∙ sym front) ∙ ap
          (λ x. take at text ∷ dotted_parts false x) (sym back)));
    }

-- a rest that the code takes apart
pub seen_step : (text : List ℕ) (at : ℕ) (inside : Bool) (rest : List ℕ) → 1 ≤ length rest
    → Seen text at inside rest → is_separator inside (get_or rest 0 0) ≡ false
    → Seen text (at + 1) (next_in_bracket inside (get_or rest 0 0)) (take (length rest - 1) (drop 1 rest))
seen_step text at inside [] some s no_dot = absurd (omega arith)
seen_step text at inside (b ∷ bs) some s no_dot =
    let P : List ℕ → Type 0 = λ r. Seen text (at + 1) (next_in_bracket inside b) r in
    subst P (sym (take_all (length (b ∷ bs) - 1) bs (omega arith))) (seen_more text at inside b bs s no_dot)

pub seen_all : (text : List ℕ) (at : ℕ) (inside : Bool) (rest : List ℕ) → length rest < 1
    → Seen text at inside rest → dotted_parts false text ≡ text ∷ []
seen_all text at inside [] few s = seen_end text at inside s
seen_all text at inside (b ∷ bs) few s = absurd (omega arith)

pub seen_cut : (text : List ℕ) (at : ℕ) (inside : Bool) (rest : List ℕ) → 1 ≤ length rest
    → Seen text at inside rest → is_separator inside (get_or rest 0 0) ≡ true → DotAt text at
seen_cut text at inside [] some s e = absurd (omega arith)
seen_cut text at true (b ∷ bs) some s e = absurd (false≢true e)
seen_cut text at false (b ∷ bs) some s e =
    let P : ℕ → Type 0 = λ x. Seen text at false (x ∷ bs) in
    seen_dot text at bs (subst P (eqb-true b dot e) s)

pub after_dot : (s : List ℕ) (n : ℕ) → IsUtf8 s → n < length s → slice_index s n ≡ dot
    → IsCharBoundary (drop n s) 1
after_dot s n utf8 inside e =
    let back : IsUtf8 (drop n s) = IsUtf8-drop s n utf8 (IsCharBoundary-before_ascii s n inside (omega (arith, e))) in
    let first : get_or (drop n s) 0 0 ≡ get_or s (n + 0) 0 = get_or-drop n s 0 0 in
    let same : get_or s (n + 0) 0 ≡ get_or s n 0 = ap (λ k. get_or s k 0) (omega arith) in
    IsCharBoundary-after_ascii (drop n s) 0 back (omega (arith, length-drop n s, inside))
    (omega (arith, first, same, e))
