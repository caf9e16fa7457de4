-- No word of a tag is longer than the tag's content.
use Rattle.std.proofs.Common.{ℕ, suc, ◌≤◌, ◌==◌, ◌&&◌, Bool, true, false, List, [], ◌∷◌, length}
use Rattle.std.proofs.Common.{Option, Some, None, arith}
use Rattle.std.specs.Prelude.{unwrap_or}
use Rattle.std.proofs.lemmas.Bool.{cond_both}
use Rattle.template_words.specs.Modes.{mode_after, is_outside}
use Rattle.template_words.specs.Words.{is_break}
use Rattle.template_words.specs.declared.mode.Mode.{Mode}
use Rattle.template_words.specs.declared.mode.Mode.TheVariants.{Start}
use Rattle.template_tags.specs.Blocks.{LoopItems, parameter_in, last_two, loop_item, loop_items}
use Rattle.template_tags.specs.Items.{Item, word, left_parenthesis, right_parenthesis, break_before, word_before}
use Rattle.template_tags.specs.Items.{byte_before, cut, items_of}
use Rattle.template_tags.specs.Terms.{Term, single, group, Terms, no_terms, first_term, grouped_before, grouped}
use Rattle.template_tags.specs.Terms.{only_list, terms_of, words_of, terms_in}

abbrev pub ShortItem : ℕ → Item → Type 0
ShortItem limit (word text) = length text ≤ limit
ShortItem limit left_parenthesis = Unit {0}
ShortItem limit right_parenthesis = Unit {0}

abbrev pub ShortItems : ℕ → List Item → Type 0
ShortItems limit [] = Unit {0}
ShortItems limit (item ∷ items) = ShortItem limit item × ShortItems limit items

abbrev mutual
  pub ShortTerm : ℕ → Term → Type 0
  ShortTerm limit (single text) = length text ≤ limit
  ShortTerm limit (group ts) = ShortTerms limit ts

  pub ShortTerms : ℕ → Terms → Type 0
  ShortTerms limit no_terms = Unit {0}
  ShortTerms limit (first_term t ts) = ShortTerm limit t × ShortTerms limit ts

abbrev pub ShortLater : ℕ → List Terms → Type 0
ShortLater limit [] = Unit {0}
ShortLater limit (ts ∷ later) = ShortTerms limit ts × ShortLater limit later

-- ---- items

word_short : (limit : ℕ) (w : List ℕ) (items : List Item) → length w ≤ limit → ShortItems limit items
    → ShortItems limit (word_before w items)
word_short limit [] items w s = s
word_short limit (b ∷ bs) items w s = (w, s)

break_short : (limit b : ℕ) (items : List Item) → ShortItems limit items → ShortItems limit (break_before b items)
break_short limit b items s =
    cond_both (b == 40) (left_parenthesis ∷ items) _ (ShortItems limit) (λ t. (tt, s))
    (λ f. cond_both (b == 41) (right_parenthesis ∷ items) items (ShortItems limit) (λ t. (tt, s)) (λ g. s))

abbrev ShortCut : ℕ → ℕ → List ℕ × List Item → Type 0
ShortCut limit n c = (length c.0 ≤ n) × ShortItems limit c.1

byte_short : (limit n : ℕ) (t : Bool) (b : ℕ) (c : List ℕ × List Item) → n ≤ limit → ShortCut limit n c
    → ShortCut limit (suc n) (byte_before t b c)
byte_short limit n true b c le s = (
  omega arith,
  break_short limit b (word_before c.0 c.1)
      (word_short limit c.0 c.1 (omega (arith, le, s.0)) s.1),
)
byte_short limit n false b c le s = (omega (arith, s.0), s.1)

cut_short : (limit : ℕ) (mode : Mode) (s : List ℕ) → length s ≤ limit → ShortCut limit (length s) (cut mode s)
cut_short limit mode [] le = (omega arith, tt)
cut_short limit mode (b ∷ s) le =
    byte_short limit (length s) (is_outside mode && is_break b) b (cut (mode_after mode b) s) (omega (arith, le))
    (cut_short limit (mode_after mode b) s (omega (arith, le)))

pub short_items_of : (content : List ℕ) → ShortItems (length content) (items_of content)
short_items_of content =
    let c = cut_short (length content) Start content (omega arith) in
    word_short (length content) (cut Start content).0 (cut Start content).1 c.0 c.1

onto_short : (limit : ℕ) (item : Item) (loop : LoopItems) → ShortItem limit item → ShortItems limit loop.items
    → ShortItems limit (loop_item item loop).items
onto_short limit item loop s later = (s, later)

two_short : (limit : ℕ) (a b : Item) (o : Option (List ℕ)) → ShortItems limit (a ∷ b ∷ [])
    → ShortItems limit (last_two a b o).items
two_short limit a b None s = s
two_short limit a b (Some name) s = tt

pub short_loop_items : (limit : ℕ) (items : List Item) → ShortItems limit items
    → ShortItems limit (loop_items items).items
short_loop_items limit [] s = tt
short_loop_items limit (a ∷ []) s = s
short_loop_items limit (a ∷ b ∷ []) s = two_short limit a b (parameter_in a b) s
short_loop_items limit (a ∷ b ∷ c ∷ items) s =
    onto_short limit a (loop_items (b ∷ c ∷ items)) s.0 (short_loop_items limit (b ∷ c ∷ items) s.1)

-- ---- terms

abbrev ShortAll : ℕ → Option (List Terms) → Type 0
ShortAll limit None = Unit {0}
ShortAll limit (Some later) = ShortLater limit later

abbrev ShortFound : ℕ → Option Terms → Type 0
ShortFound limit None = Unit {0}
ShortFound limit (Some ts) = ShortTerms limit ts

before_short : (limit : ℕ) (item : Item) (found : Option (List Terms)) → ShortItem limit item → ShortAll limit found
    → ShortAll limit (grouped_before item found)
before_short limit (word text) None s all = tt
before_short limit (word text) (Some []) s all = tt
before_short limit (word text) (Some (ts ∷ later)) s all = ((s, all.0), all.1)
before_short limit right_parenthesis None s all = tt
before_short limit right_parenthesis (Some later) s all = (tt, all)
before_short limit left_parenthesis None s all = tt
before_short limit left_parenthesis (Some []) s all = tt
before_short limit left_parenthesis (Some (ts ∷ [])) s all = tt
before_short limit left_parenthesis (Some (ts ∷ outer ∷ later)) s all = ((all.0, all.1.0), all.1.1)

all_short : (limit : ℕ) (items : List Item) → ShortItems limit items → ShortAll limit (grouped items)
all_short limit [] s = (tt, tt)
all_short limit (item ∷ items) s = before_short limit item (grouped items) s.0 (all_short limit items s.1)

only_short : (limit : ℕ) (found : Option (List Terms)) → ShortAll limit found → ShortFound limit (only_list found)
only_short limit None s = tt
only_short limit (Some []) s = tt
only_short limit (Some (ts ∷ [])) s = s.0
only_short limit (Some (ts ∷ us ∷ later)) s = tt

words_short : (limit : ℕ) (items : List Item) → ShortItems limit items → ShortTerms limit (words_of items)
words_short limit [] s = tt
words_short limit (word text ∷ items) s = (s.0, words_short limit items s.1)
words_short limit (left_parenthesis ∷ items) s = words_short limit items s.1
words_short limit (right_parenthesis ∷ items) s = words_short limit items s.1

found_short : (limit : ℕ) (found : Option Terms) (words : Terms) → ShortFound limit found → ShortTerms limit words
    → ShortTerms limit (unwrap_or found words)
found_short limit None words s w = w
found_short limit (Some ts) words s w = s

pub short_terms : (limit : ℕ) (items : List Item) → ShortItems limit items → ShortTerms limit (terms_in items)
short_terms limit items s =
    found_short limit (terms_of items) (words_of items) (only_short limit (grouped items) (all_short limit items s))
    (words_short limit items s)
