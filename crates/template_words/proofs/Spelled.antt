-- A word is read as the path that it spells.
use Rattle.std.proofs.Common.{◌≡◌, ◌⊎◌, inl, inr, ℕ, zero, suc, ◌+◌, ◌^◌, ◌<◌, ◌==◌, ◌&&◌, not, Bool, true, false}
use Rattle.std.proofs.Common.{List, [], ◌∷◌, ◌++◌, length, take, drop, Option, Some, None, option_map, Result, Ok, Err}
use Rattle.std.proofs.Common.{decimal, codes, refl, sym, ap, subst, ◌∙◌, ◌↔◌, arith, append_assoc, append-nil}
use Rattle.std.specs.Prelude.{if◌then◌else◌}
use Rattle.std.specs.Str.{bytes_eq}
use Rattle.std.specs.Str.Parse.{digits_value}
use Rattle.std.specs.List.{list_all}
use Rattle.std.proofs.lemmas.Bool.{cases_Bool, and_parts, and_from, eqb-true, eqb-false, ne_eqb, eq-eqb, false≢true}
use Rattle.std.proofs.lemmas.Option.{none-some, same_Some}
use Rattle.std.proofs.lemmas.Slice.Eq.{bytes_eq-Decides}
use Rattle.data_tree.specs.Digits.{is_index, index_of}
use Rattle.data_tree.specs.declared.step.Step.{Step}
use Rattle.data_tree.specs.declared.step.Step.TheVariants.{Name, Index}
use Rattle.data_tree.proofs.Indexes.{index_below, index_decimal, decimal_index, decimal_value, index_of_index}
use Rattle.template_words.specs.declared.error.TagError.{TagError}
use Rattle.template_words.specs.declared.error.TagError.TheVariants.{BadPath, UnsupportedTag}
use Rattle.template_words.specs.declared.reference.Reference.{Reference}
use Rattle.template_words.specs.Bytes.{dot, open_bracket, close_bracket}
use Rattle.template_words.specs.Marks.{begins, offset_of}
use Rattle.template_words.specs.Paths.{is_name_byte, is_name, step_of_index, step_named, onto_first, next_in_bracket}
use Rattle.template_words.specs.Paths.{is_separator, dotted_parts, is_reserved, reference_at, unreserved}
use Rattle.template_words.specs.PathReads.{bracketed_step, step_of, all_steps, reference_below, reference_from}
use Rattle.template_words.specs.PathReads.{reference_of}
use Rattle.template_words.specs.Reading.{◌>>=◌}
use Rattle.template_words.specs.Words.{enclosed, closed_at_end}
use Rattle.template_words.specs.Shown.Spelled.{IsWritten, SpellsStep, SpellsSteps, climbs, SpellsPath, IsReadOf}
use Rattle.template_words.proofs.Climbs.{climb_yes, climb_no}
use Rattle.template_words.proofs.Dots.{glue, glue_head}
use Rattle.template_words.proofs.Finding.{begins_split}

-- ---- what brackets enclose

abbrev no_close : ℕ → Bool
no_close b = not (b == close_bracket)

abbrev closed : List ℕ → Option (List ℕ)
closed body = closed_at_end (codes "]") body (offset_of (codes "]") body)

one_more : (b : ℕ) (body : List ℕ) (o : Option ℕ)
    → closed_at_end (codes "]") (b ∷ body) (option_map suc o)
    ≡ option_map (λ inner. b ∷ inner) (closed_at_end (codes "]") body o)
one_more b body None = refl
one_more b body (Some n) =
    ap (λ c. if c then Some (b ∷ take n body) else None) (same_test n (length body)) ∙ by_end (n + 1 == length body)
  where
    same_test : (k m : ℕ) → (suc k + 1 == suc m) ≡ (k + 1 == m)
    same_test k m = elim (cases_Bool (k + 1 == m)) [
      | inl t ↦ eq-eqb (suc k + 1) (suc m) (omega (arith, eqb-true (k + 1) m t)) ∙ sym t
      | inr f ↦ ne_eqb (suc k + 1) (suc m) (λ e. eqb-false (k + 1) m f (omega (arith, e))) ∙ sym f
    ]

    by_end : (c : Bool) → (if c then Some (b ∷ take n body) else None)
        ≡ option_map (λ inner. b ∷ inner) (if c then Some (take n body) else None)
    by_end true = refl
    by_end false = refl

closed_here : (b : ℕ) (body : List ℕ) → begins (codes "]") (b ∷ body) ≡ true
    → closed (b ∷ body) ≡ closed_at_end (codes "]") (b ∷ body) (Some 0)
closed_here b body h = rw h refl

closed_later : (b : ℕ) (body : List ℕ) → begins (codes "]") (b ∷ body) ≡ false
    → closed (b ∷ body) ≡ option_map (λ inner. b ∷ inner) (closed body)
closed_later b body h = rw h (one_more b body (offset_of (codes "]") body))

begins_byte : (a b : ℕ) (body : List ℕ) → begins (a ∷ []) (b ∷ body) ≡ (a == b)
begins_byte a b body = and_true (a == b)
  where
    and_true : (c : Bool) → (c && true) ≡ c
    and_true true = refl
    and_true false = refl

mapped : (b : ℕ) (o : Option (List ℕ)) (inner : List ℕ) → option_map (λ i. b ∷ i) o ≡ Some inner
    → (later : List ℕ) × (o ≡ Some later) × (inner ≡ b ∷ later)
mapped b None inner e = absurd (none-some inner e)
mapped b (Some later) inner e = (later, refl, sym (same_Some (b ∷ later) inner e))

closed_is : (body inner : List ℕ) → closed body ≡ Some inner
    → (body ≡ inner ++ close_bracket ∷ []) × (list_all no_close inner ≡ true)
closed_is [] inner e = absurd (none-some inner e)
closed_is (b ∷ body) inner e = elim (cases_Bool (begins (codes "]") (b ∷ body))) [
  | inl t ↦
      at_front body (sym (closed_here b body t) ∙ e)
      (eqb-true close_bracket b (sym (begins_byte close_bracket b body) ∙ t))
  | inr f ↦
      let m = mapped b (closed body) inner (sym (closed_later b body f) ∙ e) in
      let later = closed_is body m.0 m.1 in
      let other : no_close b ≡ true =
      ap not (ne_eqb b close_bracket
      (λ is. eqb-false close_bracket b (sym (begins_byte close_bracket b body) ∙ f) (sym is))) in (
        ap (λ bs. b ∷ bs) later.0 ∙ ap (λ bs. bs ++ close_bracket ∷ []) (sym m.2),
        ap (list_all no_close) m.2 ∙ and_from (no_close b) (list_all no_close m.0) other later.1,
      )
]
  where
    at_front : (bs : List ℕ) → closed_at_end (codes "]") (b ∷ bs) (Some 0) ≡ Some inner → close_bracket ≡ b
        → (b ∷ bs ≡ inner ++ close_bracket ∷ []) × (list_all no_close inner ≡ true)
    at_front [] h is =
        let empty : [] ≡ inner = same_Some [] inner h in (
          ap (λ c. c ∷ []) (sym is) ∙ ap (λ i. i ++ close_bracket ∷ []) empty,
          ap (list_all no_close) (sym empty),
        )
    at_front (c ∷ bs) h is =
        absurd (none-some inner (sym (ap (λ t. if t then Some [] else None) (far (length bs))) ∙ h))
      where
        far : (n : ℕ) → (0 + 1 == suc (suc n)) ≡ false
        far n = ne_eqb (0 + 1) (suc (suc n)) (λ e. omega (arith, e))

is_closed : (inner : List ℕ) → list_all no_close inner ≡ true → closed (inner ++ close_bracket ∷ []) ≡ Some inner
is_closed [] h = refl
is_closed (b ∷ inner) h =
    let p = and_parts (no_close b) (list_all no_close inner) h in
    let other : begins (codes "]") (b ∷ (inner ++ close_bracket ∷ [])) ≡ false =
    begins_byte close_bracket b (inner ++ close_bracket ∷ [])
    ∙ ne_eqb close_bracket b (λ is. false≢true (ap not (sym (eq-eqb b close_bracket (sym is))) ∙ p.0)) in
    closed_later b (inner ++ close_bracket ∷ []) other ∙ ap (option_map (λ i. b ∷ i)) (is_closed inner p.1)

-- ---- one step

same_ok : {A : Type 0} (x y : A) → ◌≡◌ {A = Result A TagError} (Ok x) (Ok y) → x ≡ y
same_ok x y e = cc

no_ok : {A : Type 0} (f : TagError) (x : A) → ◌≡◌ {A = Result A TagError} (Err f) (Ok x) → ⊥
no_ok f x e = cc

no_index : (s : List ℕ) → is_index s ≡ false → index_of s ≡ None
no_index s h = rw h refl

-- the step of a name
index_named : (name : List ℕ) → is_index name ≡ true → step_named name ≡ Index (digits_value 10 name)
index_named name h = ap (λ o. step_of_index o name) (index_of_index name h)

name_named : (name : List ℕ) → is_index name ≡ false → step_named name ≡ Name name
name_named name h = ap (λ o. step_of_index o name) (no_index name h)

decimal_named : (n : ℕ) → n < 10 ^ 9 → step_named (decimal n) ≡ Index n
decimal_named n below = index_named (decimal n) (decimal_index n below) ∙ ap Index (decimal_value n below)

written_spells : (name text : List ℕ) → IsWritten name text → SpellsStep text (step_named name)
written_spells name text written = elim (cases_Bool (is_index name)) [
  | inl t ↦
      subst (SpellsStep text) (sym (index_named name t))
      (subst (λ x. IsWritten x text) (sym (index_decimal name t)) written, index_below name t)
  | inr f ↦
      subst (SpellsStep text) (sym (name_named name f))
      (written, λ n below is. false≢true (sym f ∙ ap is_index is ∙ decimal_index n below))
]

spells_written : (text : List ℕ) (step : Step) → SpellsStep text step
    → (name : List ℕ) × IsWritten name text × (step_named name ≡ step)
spells_written text (Index n) h = (decimal n, h.0, decimal_named n h.1)
spells_written text (Name name) h = elim (cases_Bool (is_index name)) [
  | inl t ↦ absurd (h.1 (digits_value 10 name) (index_below name t) (sym (index_decimal name t)))
  | inr f ↦ (name, h.0, name_named name f)
]

-- bytes of names are no dots and no brackets
name_byte_other : (a b : ℕ) → is_name_byte a ≡ false → is_name_byte b ≡ true → (a == b) ≡ false
name_byte_other a b bar h = ne_eqb a b (λ is. false≢true (sym bar ∙ ap is_name_byte is ∙ h))

name_begins : (name : List ℕ) → is_name name ≡ true → begins (codes "[") name ≡ false
name_begins [] h = refl
name_begins (b ∷ name) h =
    begins_byte open_bracket b name
    ∙ name_byte_other open_bracket b refl (and_parts (is_name_byte b) (list_all is_name_byte name) h).0

written_read : (name text : List ℕ) → IsWritten name text → step_of text ≡ Ok (step_named name)
unfolding step_of
written_read name text (inl w) = rw w.0 (rw (name_begins name w.1, w.1) refl)
written_read name text (inr w) =
    rw w.0 (ap (bracketed_step (open_bracket ∷ (name ++ close_bracket ∷ []))) (is_closed name w.1))

pub spelled_step : (text : List ℕ) (step : Step) → SpellsStep text step → step_of text ≡ Ok step
spelled_step text step h = let w = spells_written text step h in written_read w.0 text w.1 ∙ ap Ok w.2

bracketed : (text inner : List ℕ) → enclosed (codes "[") (codes "]") text ≡ Some inner → IsWritten inner text
bracketed text inner e = elim (cases_Bool (begins (codes "[") text)) [
  | inl t ↦
      let c = closed_is (drop 1 text) inner (sym (opened text t) ∙ e) in
      inr (begins_split (codes "[") text t ∙ ap (λ body. open_bracket ∷ body) c.0, c.1)
  | inr f ↦ absurd (none-some inner (sym (unopened text f) ∙ e))
]
  where
    opened : (s : List ℕ) → begins (codes "[") s ≡ true → enclosed (codes "[") (codes "]") s ≡ closed (drop 1 s)
    opened s t = rw t refl

    unopened : (s : List ℕ) → begins (codes "[") s ≡ false → enclosed (codes "[") (codes "]") s ≡ None
    unopened s f = rw f refl

pub read_step : (text : List ℕ) (step : Step) → step_of text ≡ Ok step → SpellsStep text step
unfolding step_of
read_step text step e = by_brackets (enclosed (codes "[") (codes "]") text) refl e
  where
    by_name : (b : Bool) → is_name text ≡ b → (if b then Ok (step_named text) else Err BadPath) ≡ Ok step
        → SpellsStep text step
    by_name true is h =
        subst (SpellsStep text) (same_ok (step_named text) step h) (written_spells text text (inl (refl, is)))
    by_name false is h = absurd (no_ok BadPath step h)

    by_brackets : (o : Option (List ℕ)) → enclosed (codes "[") (codes "]") text ≡ o
        → bracketed_step text o ≡ Ok step → SpellsStep text step
    by_brackets None is h = by_name (is_name text) refl h
    by_brackets (Some inner) is h =
        subst (SpellsStep text) (same_ok (step_named inner) step h)
        (written_spells inner text (bracketed text inner is))

-- ---- the parts of a text

-- what a text is where these are its parts
abbrev Whole : List ℕ → List (List ℕ) → Type 0
Whole text [] = ⊥
Whole text (part ∷ []) = text ≡ part
Whole text (part ∷ next ∷ parts) =
    (rest : List ℕ) × (text ≡ part ++ dot ∷ rest) × (dotted_parts false rest ≡ next ∷ parts)

whole_byte : (b : ℕ) (text : List ℕ) (parts : List (List ℕ)) → Whole text parts
    → Whole (b ∷ text) (onto_first b parts)
whole_byte b text [] w = absurd w
whole_byte b text (part ∷ []) w = ap (λ x. b ∷ x) w
whole_byte b text (part ∷ next ∷ parts) w = (w.0, ap (λ x. b ∷ x) w.1, w.2)

whole_dot : (text : List ℕ) (parts : List (List ℕ)) → dotted_parts false text ≡ parts → Whole text parts
    → Whole (dot ∷ text) ([] ∷ parts)
whole_dot text [] e w = absurd w
whole_dot text (part ∷ parts) e w = (text, refl, e)

separator_is : (inside : Bool) (b : ℕ) → is_separator inside b ≡ true → b ≡ dot
separator_is true b h = absurd (false≢true h)
separator_is false b h = eqb-true b dot h

whole : (inside : Bool) (text : List ℕ) → Whole text (dotted_parts inside text)
whole inside [] = refl
whole inside (b ∷ text) = elim (cases_Bool (is_separator inside b)) [
  | inl t ↦
      rw t (subst (λ x. Whole (x ∷ text) ([] ∷ dotted_parts false text)) (sym (separator_is inside b t))
      (whole_dot text (dotted_parts false text) refl (whole false text)))
  | inr f ↦ rw f (whole_byte b text (dotted_parts (next_in_bracket inside b) text) (whole (next_in_bracket inside b) text))
]

-- no byte of a name separates
name_parts : (name tail : List ℕ) → list_all is_name_byte name ≡ true
    → dotted_parts false (name ++ tail) ≡ glue name (dotted_parts false tail)
name_parts [] tail h = refl
name_parts (b ∷ name) tail h =
    let p = and_parts (is_name_byte b) (list_all is_name_byte name) h in
    let no_dot : (b == dot) ≡ false =
    ne_eqb b dot (λ is. false≢true (ap is_name_byte (sym is) ∙ p.0)) in
    let no_open : (b == open_bracket) ≡ false =
    ne_eqb b open_bracket (λ is. false≢true (ap is_name_byte (sym is) ∙ p.0)) in
    rw (no_dot, no_open) (ap (onto_first b) (name_parts name tail p.1))

inner_parts : (inner tail : List ℕ) → list_all no_close inner ≡ true
    → dotted_parts true (inner ++ close_bracket ∷ tail) ≡ glue inner (onto_first close_bracket (dotted_parts false tail))
inner_parts [] tail h = refl
inner_parts (b ∷ inner) tail h =
    let p = and_parts (no_close b) (list_all no_close inner) h in
    rw p.0 (ap (onto_first b) (inner_parts inner tail p.1))

-- what is written of a step is one part
first_part : (name first tail : List ℕ) (parts : List (List ℕ)) → IsWritten name first
    → dotted_parts false tail ≡ [] ∷ parts → dotted_parts false (first ++ tail) ≡ first ∷ parts
first_part name first tail parts (inl w) e =
    let named : list_all is_name_byte name ≡ true = all_bytes name w.1 in
    ap (λ x. dotted_parts false (x ++ tail)) w.0 ∙ name_parts name tail named ∙ ap (glue name) e
    ∙ glue_head name [] parts ∙ ap (λ x. x ∷ parts) (append-nil name ∙ sym w.0)
  where
    all_bytes : (s : List ℕ) → is_name s ≡ true → list_all is_name_byte s ≡ true
    all_bytes [] h = refl
    all_bytes (b ∷ s) h = h
first_part name first tail parts (inr w) e =
    let text : first ++ tail ≡ open_bracket ∷ (name ++ close_bracket ∷ tail) =
    ap (λ x. x ++ tail) w.0 ∙ ap (λ x. open_bracket ∷ x) (append_assoc name (close_bracket ∷ []) tail) in
    ap (dotted_parts false) text ∙ ap (onto_first open_bracket) (inner_parts name tail w.1)
    ∙ ap (λ ps. onto_first open_bracket (glue name (onto_first close_bracket ps))) e
    ∙ ap (onto_first open_bracket) (glue_head name (close_bracket ∷ []) parts)
    ∙ ap (λ x. x ∷ parts) (sym w.0)

-- ---- steps

bound : {A B : Type 0} (read : Result A TagError) (f : A → Result B TagError) (y : B) → (read >>= f) ≡ Ok y
    → (x : A) × (read ≡ Ok x) × (f x ≡ Ok y)
bound (Ok x) f y e = (x, refl, e)
bound (Err d) f y e = absurd (no_ok d y e)

read_parts : (parts : List (List ℕ)) (text : List ℕ) (steps : List Step) → Whole text parts
    → all_steps parts ≡ Ok steps → SpellsSteps text steps
read_parts [] text steps w e = absurd w
read_parts (part ∷ []) text steps w e =
    let s = bound (step_of part) (λ step. Ok (step ∷ [])) steps e in
    subst (SpellsSteps text) (same_ok (s.0 ∷ []) steps s.2)
    (subst (λ x. SpellsStep x s.0) (sym w) (read_step part s.0 s.1))
read_parts (part ∷ next ∷ parts) text steps w e =
    let s = bound (step_of part) (λ step. all_steps (next ∷ parts) >>= λ more. Ok (step ∷ more)) steps e in
    let m = bound (all_steps (next ∷ parts)) (λ more. Ok (s.0 ∷ more)) steps s.2 in
    let rest =
    read_parts (next ∷ parts) w.0 m.0 (subst (Whole w.0) w.2 (whole false w.0)) m.1 in
    subst (SpellsSteps text) (same_ok (s.0 ∷ m.0) steps m.2)
    (more_steps part text w.0 s.0 m.0 w.1 (read_step part s.0 s.1) rest)
  where
    more_steps : (first text rest : List ℕ) (step : Step) (more : List Step) → text ≡ first ++ dot ∷ rest
        → SpellsStep first step → SpellsSteps rest more → SpellsSteps text (step ∷ more)
    more_steps first text rest step [] split s r = absurd r
    more_steps first text rest step (x ∷ more) split s r = (first, rest, split, s, r)

pub read_steps : (text : List ℕ) (steps : List Step) → all_steps (dotted_parts false text) ≡ Ok steps
    → SpellsSteps text steps
read_steps text steps e = read_parts (dotted_parts false text) text steps (whole false text) e

pub spelled_steps : (text : List ℕ) (steps : List Step) → SpellsSteps text steps
    → all_steps (dotted_parts false text) ≡ Ok steps
spelled_steps text [] h = absurd h
spelled_steps text (step ∷ []) h =
    let w = spells_written text step h in
    let one : dotted_parts false text ≡ text ∷ [] =
    ap (dotted_parts false) (sym (append-nil text)) ∙ first_part w.0 text [] [] w.1 refl in
    ap all_steps one ∙ ap (λ read. read >>= λ s. Ok (s ∷ [])) (spelled_step text step h)
spelled_steps text (step ∷ next ∷ steps) (first, rest, split, s, r) =
    let w = spells_written first step s in
    let more : dotted_parts false text ≡ first ∷ dotted_parts false rest =
    ap (dotted_parts false) split ∙ first_part w.0 first (dot ∷ rest) (dotted_parts false rest) w.1 refl in
    ap all_steps more
    ∙ ap (λ read. read >>= λ x. all_steps (dotted_parts false rest) >>= λ xs. Ok (x ∷ xs)) (spelled_step first step s)
    ∙ ap (λ read. read >>= λ xs. Ok (step ∷ xs)) (spelled_steps rest (next ∷ steps) r)

-- ---- references

-- a text whose first part is empty spells no steps
no_step : (parts : List (List ℕ)) (steps : List Step) → all_steps ([] ∷ parts) ≡ Ok steps → ⊥
unfolding step_of
no_step parts steps e = no_ok BadPath steps e

bad_step : (text : List ℕ) (e : TagError) → step_of text ≡ Err e → e ≡ BadPath
unfolding step_of
bad_step text e h = by_brackets (enclosed (codes "[") (codes "]") text) h
  where
    by_name : (b : Bool) → (if b then Ok (step_named text) else Err BadPath) ≡ Err e → e ≡ BadPath
    by_name true is = cc
    by_name false is = cc

    by_brackets : (o : Option (List ℕ)) → bracketed_step text o ≡ Err e → e ≡ BadPath
    by_brackets None is = by_name (is_name text) is
    by_brackets (Some inner) is = cc

bad_parts : (parts : List (List ℕ)) (e : TagError) → all_steps parts ≡ Err e → e ≡ BadPath
bad_parts [] e h = cc
bad_parts (part ∷ parts) e h = by_step (step_of part) refl (all_steps parts) refl (bad_parts parts) h
  where
    by_step : (read : Result Step TagError) → step_of part ≡ read
        → (more : Result (List Step) TagError) → all_steps parts ≡ more
        → ((d : TagError) → all_steps parts ≡ Err d → d ≡ BadPath)
        → (read >>= λ step. more >>= λ steps. Ok (step ∷ steps)) ≡ Err e → e ≡ BadPath
    by_step (Err d) is more also later h = let b = bad_step part d is in cc
    by_step (Ok step) is (Err d) also later h = let b = later d also in cc
    by_step (Ok step) is (Ok steps) also later h = cc

-- what is read of a word that spells steps, or none
abbrev StepsRead : List ℕ → Type 0
StepsRead text =
    ((steps : List Step) × SpellsSteps text steps × (all_steps (dotted_parts false text) ≡ Ok steps))
    ⊎ (all_steps (dotted_parts false text) ≡ Err BadPath)

steps_read : (text : List ℕ) → StepsRead text
steps_read text = by_read (all_steps (dotted_parts false text)) refl
  where
    by_read : (read : Result (List Step) TagError) → all_steps (dotted_parts false text) ≡ read → StepsRead text
    by_read (Ok steps) is = inl (steps, read_steps text steps is, is)
    by_read (Err e) is = inr (is ∙ ap Err (bad_parts (dotted_parts false text) e is))

-- steps aren't `.` or `..`
no_dots : (text : List ℕ) (steps : List Step) → SpellsSteps text steps
    → (bytes_eq text (codes ".") ≡ false) × (bytes_eq text (codes "..") ≡ false)
no_dots text steps spelled = (
  other (codes ".") (λ e. no_step (([]) ∷ []) steps e),
  other (codes "..") (λ e. no_step (([]) ∷ ([]) ∷ []) steps e),
)
  where
    other : (dots : List ℕ) → (all_steps (dotted_parts false dots) ≡ Ok steps → ⊥) → bytes_eq text dots ≡ false
    other dots bar = elim (cases_Bool (bytes_eq text dots)) [
      | inl t ↦
          absurd (bar (sym (ap (λ x. all_steps (dotted_parts false x)) ((bytes_eq-Decides text dots).0 t))
          ∙ spelled_steps text steps spelled))
      | inr f ↦ f
    ]

-- what a word spells below climbs: `.`, `..` or steps
abbrev SpellsBelow : List ℕ → ℕ → List Step → Type 0
SpellsBelow text more steps =
    ((text ≡ codes ".") × (more ≡ 0) × (steps ≡ []))
    ⊎ ((text ≡ codes "..") × (more ≡ 1) × (steps ≡ []))
    ⊎ ((more ≡ 0) × SpellsSteps text steps × (begins (codes "[") text ≡ false))

abbrev BelowRead : ℕ → List ℕ → Type 0
BelowRead depth text =
    ((more : ℕ) × (steps : List Step) × SpellsBelow text more steps
    × (reference_below depth text ≡ unreserved (depth + more) steps))
    ⊎ (reference_below depth text ≡ Err BadPath)

below_read : (depth : ℕ) (text : List ℕ) → BelowRead depth text
below_read depth text =
    by_tests (bytes_eq text (codes ".")) (bytes_eq text (codes "..")) (begins (codes "[") text) refl refl refl
  where
    no_more : depth ≡ depth + 0
    no_more = omega arith

    by_steps : bytes_eq text (codes ".") ≡ false → bytes_eq text (codes "..") ≡ false
        → begins (codes "[") text ≡ false → StepsRead text → BelowRead depth text
    by_steps is also bar (inl (steps, spelled, read)) = inl (
      0,
      steps,
      inr (inr (refl, spelled, bar)),
      rw (is, also, bar, read) (ap (λ d. unreserved d steps) no_more),
    )
    by_steps is also bar (inr bad) = inr (rw (is, also, bar, bad) refl)

    by_tests : (one two bracket : Bool) → bytes_eq text (codes ".") ≡ one → bytes_eq text (codes "..") ≡ two
        → begins (codes "[") text ≡ bracket → BelowRead depth text
    by_tests true two bracket is also bar = inl (
      0,
      [],
      inl ((bytes_eq-Decides text (codes ".")).0 is, refl, refl),
      rw is (ap (λ d. unreserved d []) no_more),
    )
    by_tests false true bracket is also bar =
        inl (1, [], inr (inl ((bytes_eq-Decides text (codes "..")).0 also, refl, refl)), rw (is, also) refl)
    by_tests false false true is also bar = inr (rw (is, also, bar) refl)
    by_tests false false false is also bar = by_steps is also bar (steps_read text)

-- ---- climbs

after_and : (b c : Bool) → c ≡ false → (b && c) ≡ false
after_and true c e = e
after_and false c e = refl

short_one : (a : ℕ) → begins (codes "../") (a ∷ []) ≡ false
short_one a = after_and (dot == a) false refl

short_two : (a b : ℕ) → begins (codes "../") (a ∷ b ∷ []) ≡ false
short_two a b = after_and (dot == a) ((dot == b) && false) (after_and (dot == b) false refl)

-- what is left after the climbs begins with no climb
below_ends : (text : List ℕ) (more : ℕ) (steps : List Step) → SpellsBelow text more steps
    → begins (codes "../") text ≡ false
below_ends text more steps (inl h) = ap (begins (codes "../")) h.0
below_ends text more steps (inr (inl h)) = ap (begins (codes "../")) h.0
below_ends text more steps (inr (inr h)) = elim (cases_Bool (begins (codes "../") text)) [
  | inl t ↦
      absurd (no_step (dotted_parts false (drop 1 text)) steps
      (sym (ap all_steps (dots_parts text t)) ∙ spelled_steps text steps h.1))
  | inr f ↦ f
]
  where
    dots_parts : (s : List ℕ) → begins (codes "../") s ≡ true → dotted_parts false s ≡ [] ∷ dotted_parts false (drop 1 s)
    dots_parts s t = ap (dotted_parts false) (begins_split (codes "../") s t)
        ∙ ap (λ x. [] ∷ dotted_parts false (drop 1 x)) (sym (begins_split (codes "../") s t))

-- one path at most below climbs, and what is read of it
below_is : (depth : ℕ) (text : List ℕ) (more : ℕ) (steps : List Step) → SpellsBelow text more steps
    → reference_below depth text ≡ unreserved (depth + more) steps
below_is depth text more steps (inl (is, none, bar)) =
    ap (reference_below depth) is ∙ sym (ap (λ n. unreserved (depth + n) steps) none
    ∙ ap (λ xs. unreserved (depth + 0) xs) bar ∙ ap (λ d. unreserved d []) (sum depth))
  where
    sum : (d : ℕ) → d + 0 ≡ d
    sum d = omega arith
below_is depth text more steps (inr (inl (is, one, bar))) =
    ap (reference_below depth) is ∙ sym (ap (λ n. unreserved (depth + n) steps) one
    ∙ ap (λ xs. unreserved (depth + 1) xs) bar)
below_is depth text more steps (inr (inr (none, spelled, bracket))) =
    let dots = no_dots text steps spelled in
    rw (dots.0, dots.1, bracket, spelled_steps text steps spelled)
    (sym (ap (λ n. unreserved (depth + n) steps) none ∙ ap (λ d. unreserved d steps) (sum depth)))
  where
    sum : (d : ℕ) → d + 0 ≡ d
    sum d = omega arith

abbrev SpellsFrom : List ℕ → ℕ → ℕ → List Step → Type 0
SpellsFrom text n more steps = (rest : List ℕ) × (text ≡ climbs n ++ rest) × SpellsBelow rest more steps

from_is : (depth n : ℕ) (text : List ℕ) (more : ℕ) (steps : List Step) → SpellsFrom text n more steps
    → reference_from depth text ≡ unreserved (depth + n + more) steps
from_is depth zero text more steps (rest, split, h) =
    ap (reference_from depth) split ∙ climb_no depth rest (below_ends rest more steps h)
    ∙ below_is depth rest more steps h ∙ ap (λ d. unreserved d steps) (sum depth more)
  where
    sum : (d m : ℕ) → d + m ≡ d + 0 + m
    sum d m = omega arith
from_is depth (suc n) text more steps (rest, split, h) =
    ap (reference_from depth) split ∙ climb_yes depth (climbs (suc n) ++ rest) refl
    ∙ from_is (depth + 1) n (climbs n ++ rest) more steps (rest, refl, h)
    ∙ ap (λ d. unreserved d steps) (sum depth n more)
  where
    sum : (d k m : ℕ) → d + 1 + k + m ≡ d + suc k + m
    sum d k m = omega arith

abbrev FromRead : ℕ → List ℕ → Type 0
FromRead depth text =
    ((n more : ℕ) × (steps : List Step) × SpellsFrom text n more steps) ⊎ (reference_from depth text ≡ Err BadPath)

at_end : (depth : ℕ) (text : List ℕ) → reference_from depth text ≡ reference_below depth text
    → BelowRead depth text → FromRead depth text
at_end depth text is (inl (more, steps, h, read)) = inl (0, more, steps, (text, refl, h))
at_end depth text is (inr bad) = inr (is ∙ bad)

higher : (depth : ℕ) (text rest : List ℕ) → text ≡ codes "../" ++ rest
    → reference_from depth text ≡ reference_from (depth + 1) rest → FromRead (depth + 1) rest → FromRead depth text
higher depth text rest split is (inl (n, more, steps, (left, entire, h))) =
    inl (suc n, more, steps, (left, split ∙ ap (λ x. codes "../" ++ x) entire, h))
higher depth text rest split is (inr bad) = inr (is ∙ bad)

from_read : (depth : ℕ) (text : List ℕ) → FromRead depth text
from_read depth [] = at_end depth [] (climb_no depth [] refl) (below_read depth [])
from_read depth (a ∷ []) = at_end depth (a ∷ []) (climb_no depth (a ∷ []) (short_one a)) (below_read depth (a ∷ []))
from_read depth (a ∷ b ∷ []) =
    at_end depth (a ∷ b ∷ []) (climb_no depth (a ∷ b ∷ []) (short_two a b)) (below_read depth (a ∷ b ∷ []))
from_read depth (a ∷ b ∷ c ∷ text) = elim (cases_Bool (begins (codes "../") (a ∷ b ∷ c ∷ text))) [
  | inl t ↦
      higher depth (a ∷ b ∷ c ∷ text) text (begins_split (codes "../") (a ∷ b ∷ c ∷ text) t)
      (climb_yes depth (a ∷ b ∷ c ∷ text) t) (from_read (depth + 1) text)
  | inr f ↦
      at_end depth (a ∷ b ∷ c ∷ text) (climb_no depth (a ∷ b ∷ c ∷ text) f) (below_read depth (a ∷ b ∷ c ∷ text))
]

-- ---- the law

path_below : (text rest : List ℕ) (n more : ℕ) (steps : List Step) → text ≡ climbs n ++ rest
    → SpellsBelow rest more steps → SpellsPath text (n + more) steps
path_below text rest n more steps split (inl (is, none, bar)) =
    inl (split ∙ ap (λ x. climbs n ++ x) is ∙ ap (λ k. climbs k ++ codes ".") (sum n more none), bar)
  where
    sum : (k m : ℕ) → m ≡ 0 → k ≡ k + m
    sum k m e = omega (arith, e)
path_below text rest n more steps split (inr (inl (is, one, bar))) =
    inr (inl (n, split ∙ ap (λ x. climbs n ++ x) is, sum n more one, bar))
  where
    sum : (k m : ℕ) → m ≡ 1 → k + m ≡ suc k
    sum k m e = omega (arith, e)
path_below text rest n more steps split (inr (inr (none, spelled, bracket))) =
    inr (inr (rest, split ∙ ap (λ k. climbs k ++ rest) (sum n more none), spelled, bracket))
  where
    sum : (k m : ℕ) → m ≡ 0 → k ≡ k + m
    sum k m e = omega (arith, e)

path_is : (text : List ℕ) (depth : ℕ) (steps : List Step) → SpellsPath text depth steps
    → reference_of text ≡ unreserved depth steps
path_is text depth steps (inl (split, bar)) =
    from_is 0 depth text 0 steps (codes ".", split, inl (refl, refl, bar)) ∙ ap (λ d. unreserved d steps) (sum depth)
  where
    sum : (d : ℕ) → 0 + d + 0 ≡ d
    sum d = omega arith
path_is text depth steps (inr (inl (n, split, is, bar))) =
    from_is 0 n text 1 steps (codes "..", split, inr (inl (refl, refl, bar)))
    ∙ ap (λ d. unreserved d steps) (sum n ∙ sym is)
  where
    sum : (d : ℕ) → 0 + d + 1 ≡ suc d
    sum d = omega arith
path_is text depth steps (inr (inr (rest, split, spelled, bracket))) =
    from_is 0 depth text 0 steps (rest, split, inr (inr (refl, spelled, bracket)))
    ∙ ap (λ d. unreserved d steps) (sum depth)
  where
    sum : (d : ℕ) → 0 + d + 0 ≡ d
    sum d = omega arith

-- a path that is read isn't malformed
read_good : (depth : ℕ) (steps : List Step) → unreserved depth steps ≡ Err BadPath → ⊥
read_good depth steps e = by_reserved (is_reserved steps) e
  where
    by_reserved : (b : Bool) → (if b then Err UnsupportedTag else Ok (reference_at depth steps)) ≡ Err BadPath → ⊥
    by_reserved true h = cc
    by_reserved false h = cc

pub word_is_read : (text : List ℕ) (read : Result Reference TagError)
    → (reference_of text ≡ read) ↔ IsReadOf text read
word_is_read text read = (λ e. forth e (from_read 0 text), back)
  where
    forth : reference_of text ≡ read → FromRead 0 text → IsReadOf text read
    forth e (inl (n, more, steps, (rest, split, h))) =
        let path = path_below text rest n more steps split h in
        inl (n + more, steps, path, sym e ∙ path_is text (n + more) steps path)
    forth e (inr bad) =
        inr (λ depth steps path. read_good depth steps (sym (path_is text depth steps path) ∙ bad), sym e ∙ bad)

    back : IsReadOf text read → reference_of text ≡ read
    back (inl (depth, steps, path, is)) = path_is text depth steps path ∙ sym is
    back (inr (none, is)) = elim (from_read 0 text) [
      | inl found ↦
          absurd (none (found.0 + found.1) found.2
          (path_below text found.3.0 found.0 found.1 found.2 found.3.1 found.3.2))
      | inr bad ↦ bad ∙ sym is
    ]
