-- The items of a tag are found from break to break.
use Rattle.std.proofs.Common.{◌≡◌, ℕ, suc, ◌+◌, ◌<◌, ◌==◌, true, false, ◌&&◌, List, []}
use Rattle.std.proofs.Common.{◌∷◌, ◌++◌, length, take, drop, get_or, Option, Some, None, IfSome, option_map}
use Rattle.std.proofs.Common.{inl, inr, refl, sym, ap, ◌∙◌, arith, append_assoc, IsUtf8, IsCharBoundary}
use Rattle.std.proofs.lemmas.Bool.{cases_Bool, cond_both, and_parts, false≢true}
use Rattle.std.proofs.lemmas.Bool.Decides.{nat_tests}
use Rattle.std.proofs.lemmas.List.{get_or-drop, length-drop}
use Rattle.std.proofs.lemmas.Str.{IsCharBoundary-after_ascii, IsCharBoundary-before_ascii, IsUtf8-drop}
use Rattle.template_words.proofs.Finding.{some_suc}
use Rattle.template_words.specs.Modes.{mode_after, mode_of_byte, is_outside, is_quote}
use Rattle.template_words.specs.Words.{is_break}
use Rattle.template_words.specs.declared.mode.Mode.{Mode}
use Rattle.template_words.specs.declared.mode.Mode.TheVariants.{Start, Word, Bracket, Literal}
use Rattle.template_tags.specs.Inner.Scan.{break_at, split_around, around_break}
use Rattle.template_tags.specs.Items.{Item, break_before, word_before, byte_before, cut, items_after}

-- ---- breaks

break_ascii : (b : ℕ) → is_break b ≡ true → b < 128
break_ascii b h = grind (arith, nat_tests)

no_quote : (b : ℕ) → is_break b ≡ true → is_quote b ≡ false
no_quote b h = grind (arith, nat_tests)

pub break_found : (mode : Mode) (s : List ℕ)
    → IfSome (break_at mode s) (λ n. (n < length s) × (get_or s n 0 < 128))
break_found mode [] = tt
break_found mode (b ∷ s) =
    cond_both (is_outside mode && is_break b) (Some 0) (option_map suc (break_at (mode_after mode b) s))
    (λ o. IfSome o (λ n. (n < length (b ∷ s)) × (get_or (b ∷ s) n 0 < 128)))
    (λ t. (omega arith, break_ascii b (and_parts (is_outside mode) (is_break b) t).1))
    (λ f. some_suc (λ n. (n < length s) × (get_or s n 0 < 128))
    (λ n. (n < length (b ∷ s)) × (get_or (b ∷ s) n 0 < 128)) (break_at (mode_after mode b) s)
    (λ n h. (omega (arith, h.0), h.1)) (break_found (mode_after mode b) s))

-- a character begins after an ASCII byte
pub after_ascii : (s : List ℕ) (n : ℕ) → IsUtf8 s → n < length s → get_or s n 0 < 128
    → IsCharBoundary (drop n s) 1
after_ascii s n utf8 inside below =
    let back : IsUtf8 (drop n s) = IsUtf8-drop s n utf8 (IsCharBoundary-before_ascii s n inside below) in
    let first : get_or (drop n s) 0 0 ≡ get_or s (n + 0) 0 = get_or-drop n s 0 0 in
    let same : get_or s (n + 0) 0 ≡ get_or s n 0 = ap (λ k. get_or s k 0) (omega arith) in
    IsCharBoundary-after_ascii (drop n s) 0 back (omega (arith, length-drop n s, inside))
    (omega (arith, first, same, below))

-- ---- words up to breaks

pub mode_is : (mode : Mode) (b : ℕ) → (is_outside mode && is_break b) ≡ true
    → mode_after mode b ≡ mode_of_byte b
mode_is Start b h = rw (no_quote b h) refl
mode_is Word b h = refl
mode_is Bracket b h = absurd (false≢true h)
mode_is (Literal quote) b h = absurd (false≢true h)

abbrev cut_parts : List ℕ → Option ℕ → List ℕ × List Item
cut_parts s None = (s, [])
cut_parts s (Some n) =
    (take n s, break_before (get_or s n 0) (items_after (mode_of_byte (get_or s n 0)) (drop (suc n) s)))

parts_suc : (b : ℕ) (s : List ℕ) (o : Option ℕ)
    → byte_before false b (cut_parts s o) ≡ cut_parts (b ∷ s) (option_map suc o)
parts_suc b s None = refl
parts_suc b s (Some n) = refl

cut_is : (mode : Mode) (s : List ℕ) → cut mode s ≡ cut_parts s (break_at mode s)
cut_is mode [] = refl
cut_is mode (b ∷ s) = elim (cases_Bool (is_outside mode && is_break b)) [
  | inl t ↦
      let same = mode_is mode b t in
      rw t (ap (λ m. ([], break_before b (items_after m s))) same)
  | inr f ↦
      let later = cut_is (mode_after mode b) s in
      rw f (ap (byte_before false b) later ∙ parts_suc b s (break_at (mode_after mode b) s))
]

-- ---- items

abbrev pub items_parts : List ℕ → Option (List ℕ × ℕ × List ℕ) → List Item
items_parts s None = word_before s []
items_parts s (Some x) = word_before x.0 (break_before x.1 (items_after (mode_of_byte x.1) x.2))

cut_items : (s : List ℕ) (o : Option ℕ)
    → word_before (cut_parts s o).0 (cut_parts s o).1 ≡ items_parts s (split_around s o)
cut_items s None = refl
cut_items s (Some n) = refl

pub items_are : (mode : Mode) (s : List ℕ) → items_after mode s ≡ items_parts s (around_break mode s)
items_are mode s = ap (λ c. word_before c.0 c.1) (cut_is mode s) ∙ cut_items s (break_at mode s)

word_append : (w : List ℕ) (items : List Item) → word_before w items ≡ word_before w [] ++ items
word_append [] items = refl
word_append (b ∷ bs) items = refl

break_append : (b : ℕ) (items : List Item) → break_before b items ≡ break_before b [] ++ items
break_append b items = elim (cases_Bool (b == 40)) [
  | inl t ↦ rw t refl
  | inr f ↦ elim (cases_Bool (b == 41)) [ inl u ↦ rw (f, u) refl | inr g ↦ rw (f, g) refl ]
]

pub pushed : (items : List Item) (w : List ℕ) (b : ℕ) (rest : List Item)
    → items ++ word_before w (break_before b rest) ≡ ((items ++ word_before w []) ++ break_before b []) ++ rest
pushed items w b rest =
    ap (λ r. items ++ r) (word_append w (break_before b rest)
    ∙ ap (λ r. word_before w [] ++ r) (break_append b rest)
    ∙ sym (append_assoc (word_before w []) (break_before b []) rest))
    ∙ sym (append_assoc items (word_before w [] ++ break_before b []) rest)
    ∙ ap (λ r. r ++ rest) (sym (append_assoc items (word_before w []) (break_before b [])))
