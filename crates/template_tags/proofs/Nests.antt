-- The pass over a tag's items reads what their parentheses group.
use Rattle.std.proofs.Common.{◌≡◌, ℕ, suc, min, max, nat_lt, Bool, true, false, List, [], ◌∷◌, ◌++◌, length, map}
use Rattle.std.proofs.Common.{Option, Some, None, option_map, Result, Ok, Err, inl, inr, refl, sym, ap, ◌∙◌, arith}
use Rattle.std.specs.Prelude.{not, is_some, unwrap_or}
use Rattle.std.proofs.Math.Dec.{eqb-suc-zero}
use Rattle.std.proofs.lemmas.Option.{none-some, same_Some}
use Rattle.std.proofs.lemmas.Bool.{cases_Bool, ltb-true, ltb-false, lt-ltb}
use Rattle.helper_set.specs.declared.helper.Helper.{Helper}
use Rattle.template_words.specs.Errors.{joined}
use Rattle.template_words.specs.declared.error.TagError.{TagError}
use Rattle.template_words.specs.declared.error.TagError.TheVariants.{UnknownHelper, UnsupportedTag}
use Rattle.template_tags.specs.Inner.BlockReads.{match_error, only_one, block_argument, extra_error, all_errors}
use Rattle.template_tags.specs.Inner.CallReads.{beside, error_if, error_in, errors_in, limited, argument, arguments}
use Rattle.template_tags.specs.Inner.CallReads.{call_of, call_read, helper_read}
use Rattle.template_tags.specs.Expression.{Expression}
use Rattle.template_tags.specs.Inner.Pieces.{Piece, Parts, word_piece, group_piece, capped, piece_of, pieces_of}
use Rattle.template_tags.specs.Inner.Pieces.{tag_parts, word_pieces, greatest, piece_height, piece_argument}
use Rattle.template_tags.specs.Inner.Pieces.{piece_arguments, piece_helper, piece_call, grouped_pieces, group_of_height}
use Rattle.template_tags.specs.Inner.Pieces.{piece_before, has_piece, extra_parts_error, all_parts_error, block_parts}
use Rattle.template_tags.specs.Inner.Pieces.{value_pieces, print_parts}
use Rattle.template_tags.specs.Items.{Item, word, left_parenthesis, right_parenthesis}
use Rattle.template_tags.specs.Inner.TagReads.{value_said, print_read, print_said}
use Rattle.template_tags.specs.Terms.{Term, single, group, Terms, no_terms, first_term, height, greatest_height}
use Rattle.template_tags.specs.Terms.{grouped_before, grouped, only_list, terms_of, words_of, terms_in, has_term}
use Rattle.template_tags.specs.Terms.{is_matched}
use Rattle.template_tags.specs.declared.expression.TheConstants.{CALL_LIMIT}
use Rattle.template_tags.specs.declared.level.Level.{Level}

abbrev pub stack_pieces : List Level → Option (List Terms) → Option (List (List Piece))
stack_pieces levels stack = option_map (map (pieces_of levels)) stack

abbrev pub pieces_before : List Level → List Item → Option (List (List Piece)) → Option (List (List Piece))
pieces_before levels [] stack = stack
pieces_before levels (item ∷ items) stack = piece_before levels item (pieces_before levels items stack)

-- ---- terms as pieces

argument_is : (levels : List Level) (t : Term) → piece_argument levels (piece_of levels t) ≡ argument levels t
argument_is levels (single text) = refl
argument_is levels (group ts) = refl

pub arguments_are : (levels : List Level) (ts : Terms)
    → piece_arguments levels (pieces_of levels ts) ≡ arguments levels ts
arguments_are levels no_terms = refl
arguments_are levels (first_term t ts) =
    let first = argument_is levels t in
    let later = arguments_are levels ts in
    λ i. first i ∷ later i

too_deep : (h : ℕ) (x : Expression) (b : Bool) → nat_lt CALL_LIMIT h ≡ b
    → beside {A = Helper} (error_in (limited h (Ok x))) (Err UnknownHelper) ≡ Err UnknownHelper
too_deep h x true e = rw e refl
too_deep h x false e = rw e refl

-- the limit doesn't matter where a group is no helper
no_helper : (h : ℕ) (read : Result Expression TagError)
    → beside {A = Helper} (error_in (limited h read)) (Err UnknownHelper)
    ≡ beside (error_in read) (Err UnknownHelper)
no_helper h (Ok x) = too_deep h x (nat_lt CALL_LIMIT h) refl
no_helper h (Err e) = refl

helper_is : (levels : List Level) (t : Term) → piece_helper (piece_of levels t) ≡ helper_read levels t
helper_is levels (single text) = refl
helper_is levels (group ts) = no_helper (suc (greatest_height ts)) (call_read levels ts)

pub call_is : (levels : List Level) (ts : Terms) → piece_call levels (pieces_of levels ts) ≡ call_read levels ts
call_is levels no_terms = refl
call_is levels (first_term t ts) =
    let head = helper_is levels t in
    let later = arguments_are levels ts in
    λ i. call_of (head i) (later i)

-- ---- heights

max_capped : (a b : ℕ) → max (capped a) (capped b) ≡ capped (max a b)
max_capped a b = omega arith

height_is : (levels : List Level) (t : Term) → piece_height (piece_of levels t) ≡ capped (height t)
height_is levels (single text) = refl
height_is levels (group ts) = refl

greatest_is : (levels : List Level) (ts : Terms) → greatest (pieces_of levels ts) ≡ capped (greatest_height ts)
greatest_is levels no_terms = refl
greatest_is levels (first_term t ts) =
    let first = height_is levels t in
    let later = greatest_is levels ts in
    (λ i. max (first i) (later i)) ∙ max_capped (height t) (greatest_height ts)

limited_capped : (h : ℕ) (read : Result Expression TagError) → limited (capped h) read ≡ limited h read
limited_capped h (Ok x) = elim (cases_Bool (nat_lt CALL_LIMIT h)) [
  | inl t ↦
      let tall : nat_lt CALL_LIMIT (capped h) ≡ true =
      lt-ltb CALL_LIMIT (capped h) (omega (arith, ltb-true CALL_LIMIT h t)) in
      rw (t, tall) refl
  | inr f ↦ ap (λ n. limited n (Ok x)) (omega (arith, ltb-false CALL_LIMIT h f))
]
limited_capped h (Err e) = refl

group_is : (levels : List Level) (ts : Terms)
    → grouped_pieces levels (pieces_of levels ts) ≡ piece_of levels (group ts)
group_is levels ts =
    let tall : suc (min (greatest (pieces_of levels ts)) CALL_LIMIT) ≡ capped (suc (greatest_height ts)) =
    omega (arith, greatest_is levels ts) in
    let read = call_is levels ts in
    (λ i. group_of_height (tall i) (read i))
    ∙ ap (λ r. group_piece r (capped (suc (greatest_height ts))))
    (limited_capped (suc (greatest_height ts)) (call_read levels ts))

-- ---- items

before_is : (levels : List Level) (item : Item) (found : Option (List Terms))
    → piece_before levels item (stack_pieces levels found) ≡ stack_pieces levels (grouped_before item found)
before_is levels (word text) None = refl
before_is levels (word text) (Some []) = refl
before_is levels (word text) (Some (ts ∷ later)) = refl
before_is levels right_parenthesis None = refl
before_is levels right_parenthesis (Some later) = refl
before_is levels left_parenthesis None = refl
before_is levels left_parenthesis (Some []) = refl
before_is levels left_parenthesis (Some (ts ∷ [])) = refl
before_is levels left_parenthesis (Some (ts ∷ outer ∷ later)) =
    ap (λ p. Some ((p ∷ pieces_of levels outer) ∷ map (pieces_of levels) later)) (group_is levels ts)

pub nest_is : (levels : List Level) (items : List Item)
    → pieces_before levels items (Some ([] ∷ [])) ≡ stack_pieces levels (grouped items)
nest_is levels [] = refl
nest_is levels (item ∷ items) =
    ap (piece_before levels item) (nest_is levels items) ∙ before_is levels item (grouped items)

pub pieces_before-append :
    (levels : List Level) (xs : List Item) (item : Item) (stack : Option (List (List Piece)))
    → pieces_before levels (xs ++ item ∷ []) stack ≡ pieces_before levels xs (piece_before levels item stack)
pieces_before-append levels [] item stack = refl
pieces_before-append levels (x ∷ xs) item stack = ap (piece_before levels x) (pieces_before-append levels xs item stack)

before_none : (levels : List Level) (item : Item) → piece_before levels item None ≡ None
before_none levels (word text) = refl
before_none levels right_parenthesis = refl
before_none levels left_parenthesis = refl

pub pieces_before_none : (levels : List Level) (items : List Item) → pieces_before levels items None ≡ None
pieces_before_none levels [] = refl
pieces_before_none levels (item ∷ items) =
    ap (piece_before levels item) (pieces_before_none levels items) ∙ before_none levels item

abbrev only_pieces : Option (List (List Piece)) → Option (List Piece)
only_pieces (Some (pieces ∷ [])) = Some pieces
only_pieces found = None

only_is : (levels : List Level) (found : Option (List Terms))
    → only_pieces (stack_pieces levels found) ≡ option_map (pieces_of levels) (only_list found)
only_is levels None = refl
only_is levels (Some []) = refl
only_is levels (Some (ts ∷ [])) = refl
only_is levels (Some (ts ∷ us ∷ later)) = refl

-- the pieces of a stack without more lists are those of the terms, and no terms are there otherwise
pub terms_found : (levels : List Level) (items : List Item) (pieces : List Piece)
    → ◌≡◌ {A = Option (List (List Piece))} (Some (pieces ∷ [])) (stack_pieces levels (grouped items))
    → Some pieces ≡ option_map (pieces_of levels) (terms_of items)
terms_found levels items pieces e = ap only_pieces e ∙ only_is levels (grouped items)

pub no_terms_found : (levels : List Level) (items : List Item) (pieces more : List Piece) (later : List (List Piece))
    → ◌≡◌ {A = Option (List (List Piece))} (Some (pieces ∷ more ∷ later)) (stack_pieces levels (grouped items))
    → None ≡ option_map (pieces_of levels) (terms_of items)
no_terms_found levels items pieces more later e = ap only_pieces e ∙ only_is levels (grouped items)

pub none_found : (levels : List Level) (items : List Item)
    → ◌≡◌ {A = Option (List (List Piece))} None (stack_pieces levels (grouped items))
    → None ≡ option_map (pieces_of levels) (terms_of items)
none_found levels items e = ap only_pieces e ∙ only_is levels (grouped items)

words_are : (levels : List Level) (items : List Item) → pieces_of levels (words_of items) ≡ word_pieces items
words_are levels [] = refl
words_are levels (word text ∷ items) = ap (λ ps. word_piece text ∷ ps) (words_are levels items)
words_are levels (left_parenthesis ∷ items) = words_are levels items
words_are levels (right_parenthesis ∷ items) = words_are levels items

pub word_pieces-append : (xs : List Item) (item : Item)
    → word_pieces (xs ++ item ∷ []) ≡ word_pieces xs ++ word_pieces (item ∷ [])
word_pieces-append [] item = refl
word_pieces-append (word text ∷ xs) item = ap (λ ps. word_piece text ∷ ps) (word_pieces-append xs item)
word_pieces-append (left_parenthesis ∷ xs) item = word_pieces-append xs item
word_pieces-append (right_parenthesis ∷ xs) item = word_pieces-append xs item

matched_is : (levels : List Level) (found : Option Terms) (words : Terms) (pieces : List Piece)
    → Some pieces ≡ option_map (pieces_of levels) found
    → ◌≡◌ {A = Parts} (record { pieces = pieces; matched = true })
    (record { pieces = pieces_of levels (unwrap_or found words); matched = is_some found })
matched_is levels None words pieces e = absurd (none-some pieces (sym e))
matched_is levels (Some ts) words pieces e =
    ap (λ ps. record { pieces = ps; matched = true }) (same_Some pieces (pieces_of levels ts) e)

unmatched_is : (levels : List Level) (found : Option Terms) (words : Terms) (pieces : List Piece)
    → None ≡ option_map (pieces_of levels) found → pieces ≡ pieces_of levels words
    → ◌≡◌ {A = Parts} (record { pieces = pieces; matched = false })
    (record { pieces = pieces_of levels (unwrap_or found words); matched = is_some found })
unmatched_is levels None words pieces e is = ap (λ ps. record { pieces = ps; matched = false }) is
unmatched_is levels (Some ts) words pieces e is = absurd (none-some (pieces_of levels ts) e)

pub matched_parts : (levels : List Level) (items : List Item) (pieces : List Piece)
    → Some pieces ≡ option_map (pieces_of levels) (terms_of items)
    → ◌≡◌ {A = Parts} (record { pieces = pieces; matched = true }) (tag_parts levels items)
matched_parts levels items pieces e = matched_is levels (terms_of items) (words_of items) pieces e

pub unmatched_parts : (levels : List Level) (items : List Item) (pieces : List Piece)
    → None ≡ option_map (pieces_of levels) (terms_of items) → pieces ≡ word_pieces items
    → ◌≡◌ {A = Parts} (record { pieces = pieces; matched = false }) (tag_parts levels items)
unmatched_parts levels items pieces e is =
    unmatched_is levels (terms_of items) (words_of items) pieces e (is ∙ sym (words_are levels items))

-- ---- what tags take

has_piece_is : (levels : List Level) (ts : Terms) → has_piece (pieces_of levels ts) ≡ has_term ts
has_piece_is levels no_terms = refl
has_piece_is levels (first_term t ts) = ap not (eqb-suc-zero (length (pieces_of levels ts)))

pub extra_error_is : (levels : List Level) (items : List Item)
    → extra_parts_error (tag_parts levels items) ≡ extra_error items
extra_error_is levels items =
    ap (λ some. joined (match_error items) (error_if UnsupportedTag some)) (has_piece_is levels (terms_in items))

pub all_errors_are : (levels : List Level) (items : List Item)
    → all_parts_error levels (tag_parts levels items) ≡ all_errors levels items
all_errors_are levels items =
    ap (λ reads. joined (match_error items) (errors_in reads)) (arguments_are levels (terms_in items))

pub block_parts_are : (levels : List Level) (items : List Item)
    → block_parts levels (tag_parts levels items) ≡ block_argument levels items
block_parts_are levels items =
    ap (λ reads. beside (match_error items) (only_one reads)) (arguments_are levels (terms_in items))

value_is : (levels : List Level) (matched : Bool) (ts : Terms)
    → value_pieces levels matched (pieces_of levels ts) ≡ value_said levels matched ts
value_is levels matched no_terms = refl
value_is levels matched (first_term (single text) no_terms) = refl
value_is levels matched (first_term (group ts) no_terms) = refl
value_is levels matched (first_term head (first_term t ts)) = call_is levels (first_term head (first_term t ts))

pub print_parts_are : (levels : List Level) (items : List Item)
    → print_parts levels (tag_parts levels items) ≡ print_said levels items
print_parts_are levels items =
    ap (λ read. print_read (beside (match_error items) read))
    (value_is levels (is_matched items) (terms_in items))
