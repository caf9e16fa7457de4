-- What is read of a tag part by part is what the tag's value and the list of its errors give.
use Rattle.std.proofs.Common.{◌≡◌, ℕ, suc, nat_lt, nat_le, ◌||◌, ◌&&◌, Bool, true, false, List, [], ◌∷◌, ◌++◌, length}
use Rattle.std.proofs.Common.{drop, Option, Some, None, Result, Ok, Err, refl, sym, ap, ◌∙◌, append-nil, append_assoc}
use Rattle.std.specs.Prelude.{not, is_some, codes, if◌then◌else◌}
use Rattle.std.specs.Str.{bytes_eq}
use Rattle.helper_set.specs.declared.helper.Helper.{Helper}
use Rattle.helper_set.specs.declared.helper.Helper.TheVariants.{Upper, Lower, Trim, Size, Eq, Neq, Contains, Not}
use Rattle.helper_set.specs.declared.helper.Helper.TheVariants.{Base64, UrlEncode, DefaultIfEmpty, JsonPath}
use Rattle.json_bridge.specs.PathFound.{path_of}
use Rattle.template_words.specs.Errors.{joined, earlier}
use Rattle.template_words.specs.Marks.{begins}
use Rattle.template_words.specs.Names.{is_hash_argument}
use Rattle.template_words.specs.Reading.{◌>>=◌}
use Rattle.template_words.specs.declared.error.TagError.{TagError}
use Rattle.template_words.specs.declared.error.TagError.TheVariants.{UnclosedTag, UnexpectedClose, UnknownHelper}
use Rattle.template_words.specs.declared.error.TagError.TheVariants.{WrongArguments, TooDeep, BadPath, UnsupportedTag}
use Rattle.template_words.specs.declared.mode.Mode.TheVariants.{Start}
use Rattle.template_tags.specs.Blocks.{LoopItems, loop_items, has_names, has_parameters, is_reserved_name}
use Rattle.template_tags.specs.Blocks.{argument_errors, one_errors, first_value, one_value, test_errors}
use Rattle.template_tags.specs.Blocks.{datum_in, over_errors, loop_errors, each_errors, awaits_else, extra_errors}
use Rattle.template_tags.specs.Blocks.{else_errors, is_innermost, close_errors}
use Rattle.template_tags.specs.Calls.{literal_in, body_value, pair_value, called, helper_in, helper_of, value, values}
use Rattle.template_tags.specs.Calls.{call_value, is_body, path_errors, form_errors, head_word_errors, errors}
use Rattle.template_tags.specs.Calls.{all_errors, call_errors, head_errors}
use Rattle.template_tags.specs.Expression.{Expression, datum, index, key, first, last, text_literal, number, truth}
use Rattle.template_tags.specs.Expression.{call, call_two}
use Rattle.template_tags.specs.Inner.CallReads as reads
use Rattle.template_tags.specs.Inner.CallReads.{beside, error_if, error_in, errors_in, arguments, argument, call_read}
use Rattle.template_tags.specs.Inner.CallReads.{helper_read, limited, body_call}
use Rattle.template_tags.specs.Inner.BlockReads as block_reads
use Rattle.template_tags.specs.Inner.TagReads as tag_reads
use Rattle.template_tags.specs.Inner.TagReads.{tag_read}
use Rattle.template_tags.specs.Inner.WordReads as word_reads
use Rattle.template_tags.specs.Items.{Item, word, left_parenthesis, right_parenthesis, items_of, lacks_space}
use Rattle.template_tags.specs.Levels.{block_named, loops_open}
use Rattle.template_tags.specs.Reported.{has_count, when, first_of, checked, reported}
use Rattle.template_tags.specs.Said.{opening_purpose, purpose_of, unsupported, prints, opens, begins_else, closes}
use Rattle.template_tags.specs.Said.{Purpose, has_foreign_mark, printed_errors, printed, print_errors}
use Rattle.template_tags.specs.Said.{tag_value, purpose_errors, tag_said}
use Rattle.template_tags.specs.Tags.{Tag, print, open_if, open_each, begin_else, close}
use Rattle.template_tags.specs.Terms.{Term, single, group, Terms, no_terms, first_term, greatest_height}
use Rattle.template_tags.specs.Terms.{terms_in, has_term, is_matched}
use Rattle.template_tags.specs.Words.{Word, text_word, number_word, truth_word, loop_word, helper_word, foreign_word}
use Rattle.template_tags.specs.Words.{path_word, wrong_word, word_of, argument_of, word_value, word_errors, is_literal}
use Rattle.template_tags.specs.declared.expression.TheConstants.{CALL_LIMIT}
use Rattle.template_tags.specs.declared.level.Block.{Block}
use Rattle.template_tags.specs.declared.level.Block.TheVariants.{If, Unless, Each}
use Rattle.template_tags.specs.declared.level.Level.{Level}
use Rattle.template_tags.specs.declared.level.TheConstants.{BLOCK_LIMIT, LOOP_LIMIT}
use Rattle.template_tags.specs.declared.tag.Opening.{Opening}
use Rattle.template_tags.specs.declared.tag.Opening.TheVariants.{Double, Triple}
use Rattle.template_tags.proofs.Joins.{joined_assoc, earlier_assoc, earlier_same, earlier_back}

-- ---- the first of errors

first_append : (xs ys : List TagError) → first_of (xs ++ ys) ≡ joined (first_of xs) (first_of ys)
first_append [] ys = refl
first_append (x ∷ xs) ys =
    ap (joined (Some x)) (first_append xs ys) ∙ sym (joined_assoc (Some x) (first_of xs) (first_of ys))

beside_unless : {A : Type 0} (o p : Option TagError) (x : A) → checked (joined o p) x ≡ beside o (checked p x)
beside_unless None p x = refl
beside_unless (Some e) None x = refl
beside_unless (Some e) (Some d) x = refl

reported_append : {A : Type 0} (xs ys : List TagError) (x : A)
    → reported (xs ++ ys) x ≡ beside (first_of xs) (reported ys x)
reported_append xs ys x = ap (λ o. checked o x) (first_append xs ys) ∙ beside_unless (first_of xs) (first_of ys) x

first_when : (b : Bool) (e : TagError) → first_of (when b e) ≡ error_if e b
first_when true e = refl
first_when false e = refl

reported_when : {A : Type 0} (b : Bool) (e : TagError) (ys : List TagError) (x : A)
    → reported (when b e ++ ys) x ≡ beside (error_if e b) (reported ys x)
reported_when b e ys x =
    reported_append (when b e) ys x ∙ ap (λ o. beside o (reported ys x)) (first_when b e)

first_nil : (xs : List TagError) → first_of (xs ++ []) ≡ first_of xs
first_nil xs = ap first_of (append-nil xs)

error_unless : {A : Type 0} (o : Option TagError) (x : A) → error_in (checked o x) ≡ o
error_unless None x = refl
error_unless (Some e) x = refl

beside_joined : {A : Type 0} (a b : Option TagError) (read : Result A TagError)
    → beside (joined a b) read ≡ beside a (beside b read)
beside_joined None b read = refl
beside_joined (Some d) None read = refl
beside_joined (Some d) (Some e) (Ok x) = refl
beside_joined (Some d) (Some e) (Err f) = ap Err (earlier_assoc d e f)

beside_ok_is : {A : Type 0} (o : Option TagError) (x : A) → beside o (Ok x) ≡ checked o x
beside_ok_is None x = refl
beside_ok_is (Some e) x = refl

-- ---- words

module _ (levels : List Level) where
  word_is : (text : List ℕ) (w : Word)
      → word_reads.word_value levels text w ≡ reported (word_errors w) (word_value levels text w)
  word_is text (text_word literal) = refl
  word_is text (number_word n) = refl
  word_is text (truth_word b) = refl
  word_is text (loop_word w) = refl
  word_is text (helper_word h) = refl
  word_is text foreign_word = refl
  word_is text (path_word reference) = refl
  word_is text (wrong_word e) = refl

  lone_is : (text : List ℕ) (w : Word)
      → word_reads.lone_value levels text w
      ≡ reported (when (is_literal w) UnsupportedTag ++ word_errors w) (word_value levels text w)
  lone_is text (text_word literal) = refl
  lone_is text (number_word n) = refl
  lone_is text (truth_word b) = refl
  lone_is text (loop_word w) = refl
  lone_is text (helper_word h) = refl
  lone_is text foreign_word = refl
  lone_is text (path_word reference) = refl
  lone_is text (wrong_word e) = refl

  hashed_is : (text : List ℕ) (w : Word) (b : Bool)
      → if b then Err UnsupportedTag else word_reads.word_value levels text w
      ≡ reported (word_errors (if b then wrong_word UnsupportedTag else w))
      (word_value levels text (if b then wrong_word UnsupportedTag else w))
  hashed_is text w true = refl
  hashed_is text w false = word_is text w

  -- ---- what isn't read has no literal and no path

  abbrev Plain : Option TagError → Expression → Type 0
  Plain None x = Unit {0}
  Plain (Some e) x = (is_body x ≡ false) × (literal_in x ≡ None)

  plain : (o : Option TagError) (x : Expression) → (is_body x ≡ false) × (literal_in x ≡ None) → Plain o x
  plain None x h = tt
  plain (Some e) x h = h

  word_plain : (text : List ℕ) (w : Word) → Plain (first_of (word_errors w)) (word_value levels text w)
  word_plain text (text_word literal) = tt
  word_plain text (number_word n) = tt
  word_plain text (truth_word b) = tt
  word_plain text (loop_word w) = tt
  word_plain text (helper_word h) = (refl, refl)
  word_plain text foreign_word = (refl, refl)
  word_plain text (path_word reference) = tt
  word_plain text (wrong_word e) = (refl, refl)

  body_plain : (o : Option (List ℕ)) → (is_body (body_value o) ≡ false) × (literal_in (body_value o) ≡ None)
  body_plain None = (refl, refl)
  body_plain (Some text) = (refl, refl)

  pair_plain : (h : Helper) (x y : Expression)
      → (is_body (pair_value h x y) ≡ false) × (literal_in (pair_value h x y) ≡ None)
  pair_plain Upper x y = (refl, refl)
  pair_plain Lower x y = (refl, refl)
  pair_plain Trim x y = (refl, refl)
  pair_plain Size x y = (refl, refl)
  pair_plain Eq x y = (refl, refl)
  pair_plain Neq x y = (refl, refl)
  pair_plain Contains x y = (refl, refl)
  pair_plain Not x y = (refl, refl)
  pair_plain Base64 x y = (refl, refl)
  pair_plain UrlEncode x y = (refl, refl)
  pair_plain DefaultIfEmpty x y = (refl, refl)
  pair_plain JsonPath x y = body_plain (literal_in y)

  called_plain : (h : Option Helper) (xs : List Expression)
      → (is_body (called h xs) ≡ false) × (literal_in (called h xs) ≡ None)
  called_plain None xs = (refl, refl)
  called_plain (Some h) [] = (refl, refl)
  called_plain (Some h) (x ∷ []) = (refl, refl)
  called_plain (Some h) (x ∷ y ∷ []) = pair_plain h x y
  called_plain (Some h) (x ∷ y ∷ z ∷ xs) = (refl, refl)

  group_plain : (ts : Terms) → (is_body (call_value levels ts) ≡ false) × (literal_in (call_value levels ts) ≡ None)
  group_plain no_terms = (refl, refl)
  group_plain (first_term t ts) = called_plain (helper_of t) (values levels ts)

  term_plain : (t : Term) → Plain (first_of (errors levels t)) (value levels t)
  term_plain (single text) = word_plain text (argument_of text)
  term_plain (group ts) = plain (first_of (errors levels (group ts))) (call_value levels ts) (group_plain ts)

  body_same : (o : Option TagError) (x : Expression) → Plain o x → reads.is_body (checked o x) ≡ is_body x
  body_same None x h = refl
  body_same (Some e) x h = sym h.0

  literal_same : (o : Option TagError) (x : Expression) → Plain o x → reads.literal_in (checked o x) ≡ literal_in x
  literal_same None x h = refl
  literal_same (Some e) x h = sym h.1

  -- ---- calls of `jsonPath`

  path_is : (fits p : Bool) (text : List ℕ)
      → (if p then (if fits then Ok (body_value (Some text)) else Err WrongArguments) else Err BadPath)
      ≡ reported (when (not fits) WrongArguments ++ when (not p) BadPath) (body_value (Some text))
  path_is true true text = refl
  path_is false true text = refl
  path_is true false text = refl
  path_is false false text = refl

  body_is : (fits : Bool) (o : Option (List ℕ))
      → body_call fits o ≡ reported (when (not fits) WrongArguments ++ path_errors o) (body_value o)
  body_is true None = refl
  body_is false None = refl
  body_is fits (Some text) = path_is fits (is_some (path_of text)) text

  long_is : (o : Option (List ℕ)) (x : Expression)
      → body_call false o ≡ reported (WrongArguments ∷ path_errors o) x
  long_is None x = refl
  long_is (Some text) x = by_path (is_some (path_of text))
    where
      by_path : (p : Bool)
          → (if p then (if false then Ok (body_value (Some text)) else Err WrongArguments) else Err BadPath)
          ≡ reported (WrongArguments ∷ when (not p) BadPath) x
      by_path true = refl
      by_path false = refl

  -- ---- calls

  one_step : (h : Helper) (e : Option TagError) (o : Option TagError) (x : Expression) → e ≡ o
      → beside e (checked o x >>= λ y. Ok (call h y)) ≡ beside e (Ok (call h x))
  one_step h e None x is = refl
  one_step h e (Some d) x is = rw is (ap Err (earlier_same d))

  two_step : (h : Helper) (e : Option TagError) (o p : Option TagError) (x y : Expression) → e ≡ joined o p
      → beside e (checked o x >>= λ a. checked p y >>= λ b. Ok (call_two h a b)) ≡ beside e (Ok (call_two h x y))
  two_step h e None None x y is = refl
  two_step h e None (Some d) x y is = rw is (ap Err (earlier_same d))
  two_step h e (Some d) None x y is = rw is (ap Err (earlier_same d))
  two_step h e (Some d) (Some f) x y is = rw is (ap Err (earlier_back d f))

  -- one argument, and two
  first_one : (t : Term) → first_of (all_errors levels (first_term t no_terms)) ≡ first_of (errors levels t)
  first_one t = first_nil (errors levels t)

  first_two : (t u : Term) → first_of (all_errors levels (first_term t (first_term u no_terms)))
      ≡ joined (first_of (errors levels t)) (first_of (errors levels u))
  first_two t u =
      first_append (errors levels t) (errors levels u ++ [])
      ∙ ap (joined (first_of (errors levels t))) (first_nil (errors levels u))

  abbrev All : Terms → Option TagError
  All ts = first_of (all_errors levels ts)

  -- an argument is read as its value and its errors give it
  abbrev IsArgument : Term → Type 0
  IsArgument t = argument levels t ≡ reported (errors levels t) (value levels t)

  abbrev IsCall : Terms → Type 0
  IsCall ts = call_read levels ts ≡ reported (call_errors levels ts) (call_value levels ts)

  abbrev AreArguments : Terms → Type 0
  AreArguments no_terms = Unit {0}
  AreArguments (first_term t ts) = IsArgument t × AreArguments ts

  -- what is known of the group that a helper isn't
  abbrev Head : Term → Type 0
  Head (single text) = Unit {0}
  Head (group ts) = IsCall ts

  first_body : (t : Term) → IsArgument t → reads.is_body (argument levels t) ≡ is_body (value levels t)
  first_body t is =
      ap reads.is_body is ∙ body_same (first_of (errors levels t)) (value levels t) (term_plain t)

  second_literal : (t : Term) → IsArgument t → reads.literal_in (argument levels t) ≡ literal_in (value levels t)
  second_literal t is =
      ap reads.literal_in is ∙ literal_same (first_of (errors levels t)) (value levels t) (term_plain t)

  all_are : (ts : Terms) → AreArguments ts → errors_in (arguments levels ts) ≡ All ts
  all_are no_terms each = refl
  all_are (first_term t ts) each =
      ap (λ o. joined o (errors_in (arguments levels ts)))
      (ap error_in each.0 ∙ error_unless (first_of (errors levels t)) (value levels t))
      ∙ ap (joined (first_of (errors levels t))) (all_are ts each.1)
      ∙ sym (first_append (errors levels t) (all_errors levels ts))

  one_called : (h : Helper) (ts : Terms) → AreArguments ts
      → beside (All ts) (reads.one_value h (arguments levels ts))
      ≡ beside (All ts) (reported (when (not (has_count 1 (values levels ts))) WrongArguments)
      (called (Some h) (values levels ts)))
  one_called h no_terms each = refl
  one_called h (first_term t no_terms) each =
      ap (λ read. beside (All (first_term t no_terms)) (read >>= λ x. Ok (call h x))) each.0
      ∙ one_step h (All (first_term t no_terms)) (first_of (errors levels t)) (value levels t) (first_one t)
  one_called h (first_term t (first_term u ts)) each = refl

  two_called : (h : Helper) (ts : Terms) → AreArguments ts → ((x y : Expression) → pair_value h x y ≡ call_two h x y)
      → beside (All ts) (reads.two_values h (arguments levels ts))
      ≡ beside (All ts) (reported (when (not (has_count 2 (values levels ts))) WrongArguments)
      (called (Some h) (values levels ts)))
  two_called h no_terms each same = refl
  two_called h (first_term t no_terms) each same = refl
  two_called h (first_term t (first_term u no_terms)) each same =
      let all = All (first_term t (first_term u no_terms)) in
      ap (λ read. beside all (read >>= λ x. argument levels u >>= λ y. Ok (call_two h x y))) each.0
      ∙ ap (λ read. beside all (reported (errors levels t) (value levels t) >>= λ x. read >>= λ y.
      Ok (call_two h x y))) each.1.0
      ∙ two_step h all (first_of (errors levels t)) (first_of (errors levels u)) (value levels t) (value levels u)
      (first_two t u)
      ∙ ap (λ x. beside all (Ok x)) (sym (same (value levels t) (value levels u)))
  two_called h (first_term t (first_term u (first_term v ts))) each same = refl

  json_called : (ts : Terms) → AreArguments ts
      → beside (All ts) (reads.json_path_call (arguments levels ts))
      ≡ beside (All ts) (reported (form_errors (Some JsonPath) (values levels ts))
      (called (Some JsonPath) (values levels ts)))
  json_called no_terms each = refl
  json_called (first_term t no_terms) each = refl
  json_called (first_term t (first_term u no_terms)) each =
      let all = All (first_term t (first_term u no_terms)) in
      ap (λ fits. beside all (body_call fits (reads.literal_in (argument levels u)))) (first_body t each.0)
      ∙ ap (λ o. beside all (body_call (is_body (value levels t)) o)) (second_literal u each.1.0)
      ∙ ap (beside all) (body_is (is_body (value levels t)) (literal_in (value levels u)))
  json_called (first_term t (first_term u (first_term v ts))) each =
      let all = All (first_term t (first_term u (first_term v ts))) in
      ap (λ o. beside all (body_call false o)) (second_literal u each.1.0)
      ∙ ap (beside all) (long_is (literal_in (value levels u)) (called (Some JsonPath)
      (values levels (first_term t (first_term u (first_term v ts))))))

  called_is : (h : Helper) (ts : Terms) → AreArguments ts
      → beside (All ts) (reads.called h (arguments levels ts))
      ≡ beside (All ts) (reported (form_errors (Some h) (values levels ts)) (called (Some h) (values levels ts)))
  called_is Upper ts each = one_called Upper ts each
  called_is Lower ts each = one_called Lower ts each
  called_is Trim ts each = one_called Trim ts each
  called_is Size ts each = one_called Size ts each
  called_is Eq ts each = two_called Eq ts each (λ x y. refl)
  called_is Neq ts each = two_called Neq ts each (λ x y. refl)
  called_is Contains ts each = two_called Contains ts each (λ x y. refl)
  called_is Not ts each = one_called Not ts each
  called_is Base64 ts each = one_called Base64 ts each
  called_is UrlEncode ts each = one_called UrlEncode ts each
  called_is DefaultIfEmpty ts each = two_called DefaultIfEmpty ts each (λ x y. refl)
  called_is JsonPath ts each = json_called ts each

  head_is : (t : Term) (ts : Terms) → Head t → AreArguments ts
      → beside (All ts) (helper_read levels t >>= λ h. reads.called h (arguments levels ts))
      ≡ beside (All ts) (reported (head_errors levels t ++ form_errors (helper_of t) (values levels ts))
      (called (helper_of t) (values levels ts)))
  head_is (single text) ts head each = by_word (word_of text) (λ h. called_is h ts each)
    where
      by_word : (w : Word)
          → ((h : Helper) → beside (All ts) (reads.called h (arguments levels ts))
          ≡ beside (All ts) (reported (form_errors (Some h) (values levels ts)) (called (Some h) (values levels ts))))
          → beside (All ts) (reads.head_word w >>= λ h. reads.called h (arguments levels ts))
          ≡ beside (All ts) (reported (head_word_errors w ++ form_errors (helper_in w) (values levels ts))
          (called (helper_in w) (values levels ts)))
      by_word (text_word literal) given = refl
      by_word (number_word n) given = refl
      by_word (truth_word b) given = refl
      by_word (loop_word w) given = refl
      by_word (helper_word h) given = given h
      by_word foreign_word given = refl
      by_word (path_word reference) given = refl
      by_word (wrong_word e) given = refl
  head_is (group us) ts head each =
      ap (λ read. beside (All ts) (beside (error_in read) (Err UnknownHelper)
      >>= λ h. reads.called h (arguments levels ts))) head
      ∙ ap (λ o. beside (All ts) (beside o (Err UnknownHelper) >>= λ h. reads.called h (arguments levels ts)))
      (error_unless (first_of (call_errors levels us)) (call_value levels us))
      ∙ ap (beside (All ts)) (by_errors (first_of (call_errors levels us)))
      ∙ ap (λ o. beside (All ts) (checked o (called None (values levels ts)))) (sym all)
    where
      all : first_of ((call_errors levels us ++ UnknownHelper ∷ []) ++ [])
          ≡ joined (first_of (call_errors levels us)) (Some UnknownHelper)
      all =
          first_nil (call_errors levels us ++ UnknownHelper ∷ [])
          ∙ first_append (call_errors levels us) (UnknownHelper ∷ [])

      by_errors : (o : Option TagError)
          → (beside o (Err UnknownHelper) >>= λ h. reads.called h (arguments levels ts))
          ≡ checked (joined o (Some UnknownHelper)) (called None (values levels ts))
      by_errors None = refl
      by_errors (Some e) = refl

  -- a helper and its arguments
  call_step : (t : Term) (ts : Terms) → Head t → AreArguments ts → IsCall (first_term t ts)
  call_step t ts head each =
      ap (λ o. beside o (helper_read levels t >>= λ h. reads.called h (arguments levels ts))) (all_are ts each)
      ∙ head_is t ts head each
      ∙ sym (reported_append (all_errors levels ts)
      (head_errors levels t ++ form_errors (helper_of t) (values levels ts))
      (called (helper_of t) (values levels ts)))
      ∙ ap (λ es. reported es (called (helper_of t) (values levels ts)))
      (sym (append_assoc (all_errors levels ts) (head_errors levels t)
      (form_errors (helper_of t) (values levels ts))))

  group_step : (ts : Terms) → IsCall ts → IsArgument (group ts)
  group_step ts is =
      ap (limited (suc (greatest_height ts))) is
      ∙ limited_is (suc (greatest_height ts)) (first_of (call_errors levels ts)) (call_value levels ts)
      ∙ sym (reported_when (nat_lt CALL_LIMIT (suc (greatest_height ts))) TooDeep (call_errors levels ts)
      (call_value levels ts))
    where
      deepest : (e : TagError) → earlier TooDeep e ≡ e
      deepest UnclosedTag = refl
      deepest UnexpectedClose = refl
      deepest UnknownHelper = refl
      deepest WrongArguments = refl
      deepest TooDeep = refl
      deepest BadPath = refl
      deepest UnsupportedTag = refl

      by_height : (b : Bool) (x : Expression)
          → if b then Err TooDeep else Ok x ≡ beside (error_if TooDeep b) (Ok x)
      by_height true x = refl
      by_height false x = refl

      beside_depth : (b : Bool) (e : TagError)
          → ◌≡◌ {A = Result Expression TagError} (Err e) (beside (error_if TooDeep b) (Err e))
      beside_depth true e = ap Err (sym (deepest e))
      beside_depth false e = refl

      limited_is : (h : ℕ) (o : Option TagError) (x : Expression)
          → limited h (checked o x) ≡ beside (error_if TooDeep (nat_lt CALL_LIMIT h)) (checked o x)
      limited_is h None x = by_height (nat_lt CALL_LIMIT h) x
      limited_is h (Some e) x = beside_depth (nat_lt CALL_LIMIT h) e

  mutual
    pub argument_is : (t : Term) → IsArgument t
    argument_is (single text) = hashed_is text (word_of text) (is_hash_argument text)
    argument_is (group ts) = group_step ts (call_is ts)

    pub are_arguments : (ts : Terms) → AreArguments ts
    are_arguments no_terms = tt
    are_arguments (first_term t ts) = (argument_is t, are_arguments ts)

    pub call_is : (ts : Terms) → IsCall ts
    call_is no_terms = refl
    call_is (first_term (single text) ts) = call_step (single text) ts tt (are_arguments ts)
    call_is (first_term (group us) ts) = call_step (group us) ts (call_is us) (are_arguments ts)

  -- ---- arguments of blocks

  errors_are : (items : List Item) → block_reads.all_errors levels items ≡ first_of (argument_errors levels items)
  errors_are items =
      ap (joined (block_reads.match_error items)) (all_are (terms_in items) (are_arguments (terms_in items)))
      ∙ sym (first_append (when (not (is_matched items)) BadPath) (all_errors levels (terms_in items))
      ∙ ap (λ o. joined o (All (terms_in items))) (first_when (not (is_matched items)) BadPath))

  only_is : (ts : Terms)
      → block_reads.only_one (arguments levels ts)
      ≡ beside (All ts) (reported (when (not (has_count 1 (values levels ts))) WrongArguments)
      (first_value (values levels ts)))
  only_is no_terms = refl
  only_is (first_term t no_terms) =
      argument_is t ∙ sym (beside_ok_is (first_of (errors levels t)) (value levels t))
      ∙ ap (λ o. beside o (Ok (value levels t))) (sym (first_one t))
  only_is (first_term t (first_term u ts)) =
      let all = first_term t (first_term u ts) in
      ap (λ o. beside o (Err WrongArguments)) (all_are all (are_arguments all))

  block_is : (items : List Item)
      → block_reads.block_argument levels items ≡ reported (one_errors levels items) (one_value levels items)
  block_is items =
      let ts = terms_in items in
      let more = when (not (has_count 1 (values levels ts))) WrongArguments in
      ap (beside (block_reads.match_error items)) (only_is ts)
      ∙ sym (beside_joined (block_reads.match_error items) (All ts) (reported more (one_value levels items)))
      ∙ ap (λ o. beside o (reported more (one_value levels items)))
      (ap (joined (block_reads.match_error items)) (sym (all_are ts (are_arguments ts))) ∙ errors_are items)
      ∙ sym (reported_append (argument_errors levels items) more (one_value levels items))

  -- ---- opening tags

  if_is : (unless_test : Bool) (o : Option TagError) (x : Expression)
      → block_reads.if_read unless_test (checked o x) ≡ checked o (open_if unless_test x)
  if_is unless_test None x = refl
  if_is unless_test (Some e) x = refl

  test_is : (unless_test : Bool) (items : List Item)
      → block_reads.test_said levels unless_test items
      ≡ reported (test_errors levels items) (open_if unless_test (one_value levels items))
  test_is unless_test items =
      let tag = open_if unless_test (one_value levels items) in
      let deep = nat_le BLOCK_LIMIT (length levels) in
      ap (λ read. beside (error_if TooDeep deep) (beside (error_if UnsupportedTag (has_parameters items))
      (block_reads.if_read unless_test read))) (block_is items)
      ∙ ap (λ read. beside (error_if TooDeep deep) (beside (error_if UnsupportedTag (has_parameters items)) read))
      (if_is unless_test (first_of (one_errors levels items)) (one_value levels items))
      ∙ ap (beside (error_if TooDeep deep))
      (sym (reported_when (has_parameters items) UnsupportedTag (one_errors levels items) tag))
      ∙ sym (reported_when deep TooDeep (when (has_parameters items) UnsupportedTag ++ one_errors levels items) tag)
      ∙ ap (λ es. reported es tag)
      (sym (append_assoc (when deep TooDeep) (when (has_parameters items) UnsupportedTag) (one_errors levels items)))

  wrong_data : (e : TagError) (o : Option TagError) (x : Expression)
      → block_reads.data_only (checked (joined (Some e) o) x)
      ≡ checked (joined (Some WrongArguments) (joined (Some e) o)) (datum_in x)
  wrong_data e None x = refl
  wrong_data e (Some d) x = refl

  data_is : (es : List TagError) (x : Expression)
      → block_reads.data_only (reported es x) ≡ reported (over_errors es x) (datum_in x)
  data_is [] (datum d) = refl
  data_is [] index = refl
  data_is [] key = refl
  data_is [] first = refl
  data_is [] last = refl
  data_is [] (text_literal text) = refl
  data_is [] (number n) = refl
  data_is [] (truth b) = refl
  data_is [] (call h x) = refl
  data_is [] (call_two h x y) = refl
  data_is (e ∷ es) x = wrong_data e (first_of es) x

  each_read_is : (name : Option (List ℕ)) (es : List TagError) (x : Expression)
      → block_reads.each_read name (reported es (datum_in x)) ≡ reported es (open_each (datum_in x) name)
  each_read_is name es x = by_error (first_of es)
    where
      by_error : (o : Option TagError)
          → block_reads.each_read name (checked o (datum_in x)) ≡ checked o (open_each (datum_in x) name)
      by_error None = refl
      by_error (Some e) = refl

  loop_is : (loop : LoopItems)
      → block_reads.loop_said levels loop
      ≡ reported (loop_errors levels loop) (open_each (datum_in (one_value levels loop.items)) loop.parameter)
  loop_is loop =
      let x = one_value levels loop.items in
      let over = over_errors (one_errors levels loop.items) x in
      let taken = is_reserved_name loop.parameter in
      ap (λ read. beside (error_if UnsupportedTag taken)
      (block_reads.each_read loop.parameter (block_reads.data_only read))) (block_is loop.items)
      ∙ ap (λ read. beside (error_if UnsupportedTag taken) (block_reads.each_read loop.parameter read))
      (data_is (one_errors levels loop.items) x)
      ∙ ap (beside (error_if UnsupportedTag taken)) (each_read_is loop.parameter over x)
      ∙ sym (reported_when taken UnsupportedTag over (open_each (datum_in x) loop.parameter))

  each_is : (items : List Item)
      → block_reads.each_said levels items
      ≡ reported (each_errors levels items)
      (open_each (datum_in (one_value levels (loop_items items).items)) (loop_items items).parameter)
  each_is items =
      let loop = loop_items items in
      let tag = open_each (datum_in (one_value levels loop.items)) loop.parameter in
      let deep = nat_le BLOCK_LIMIT (length levels) || nat_le LOOP_LIMIT (loops_open levels) in
      ap (λ read. beside (error_if TooDeep deep) (beside (error_if UnsupportedTag (has_names items)) read))
      (loop_is loop)
      ∙ ap (beside (error_if TooDeep deep))
      (sym (reported_when (has_names items) UnsupportedTag (loop_errors levels loop) tag))
      ∙ sym (reported_when deep TooDeep (when (has_names items) UnsupportedTag ++ loop_errors levels loop) tag)
      ∙ ap (λ es. reported es tag)
      (sym (append_assoc (when deep TooDeep) (when (has_names items) UnsupportedTag) (loop_errors levels loop)))

  -- what a tag with these items says that has the purpose
  abbrev Reads : List Item → Purpose → Result Tag TagError
  Reads items purpose = reported (purpose_errors purpose levels items) (tag_value purpose levels items)

  opens_is : (block : Block) (item : Item) (items : List Item)
      → block_reads.opening_said levels (Some block) items ≡ Reads (item ∷ items) (opens block)
  opens_is If item items = test_is false items
  opens_is Unless item items = test_is true items
  opens_is Each item items = each_is items

  -- ---- prints

  print_read_is : (o : Option TagError) (x : Expression)
      → tag_reads.print_read (checked o x) ≡ checked o (print x)
  print_read_is None x = refl
  print_read_is (Some e) x = refl

  printed_is : (matched : Bool) (ts : Terms)
      → beside (error_if BadPath (not matched)) (tag_reads.value_said levels matched ts)
      ≡ beside (error_if BadPath (not matched))
      (reported (printed_errors levels matched ts) (printed levels ts))
  printed_is true no_terms = refl
  printed_is false no_terms = refl
  printed_is true (first_term (single text) no_terms) = lone_is text (word_of text)
  printed_is false (first_term (single text) no_terms) = ap (beside (Some BadPath)) (word_is text (word_of text))
  printed_is matched (first_term (group ts) no_terms) = refl
  printed_is matched (first_term (single text) (first_term u ts)) =
      ap (beside (error_if BadPath (not matched))) (call_is (first_term (single text) (first_term u ts)))
  printed_is matched (first_term (group us) (first_term u ts)) =
      ap (beside (error_if BadPath (not matched))) (call_is (first_term (group us) (first_term u ts)))

  print_is : (items : List Item) → tag_reads.print_said levels items ≡ Reads items prints
  print_is items =
      let matched = is_matched items in
      let ts = terms_in items in
      ap tag_reads.print_read (printed_is matched ts
      ∙ sym (reported_when (not matched) BadPath (printed_errors levels matched ts) (printed levels ts)))
      ∙ print_read_is (first_of (print_errors levels items)) (printed levels ts)

-- ---- else and close

extra_is : (items : List Item) → block_reads.extra_error items ≡ first_of (extra_errors items)
extra_is items =
    let bad = when (not (is_matched items)) BadPath in
    let extra = when (has_term (terms_in items)) UnsupportedTag in
    sym (first_append bad extra
    ∙ ap (λ o. joined o (first_of extra)) (first_when (not (is_matched items)) BadPath)
    ∙ ap (joined (block_reads.match_error items)) (first_when (has_term (terms_in items)) UnsupportedTag))

first_else_is : (levels : List Level)
    → block_reads.first_else levels ≡ reported (when (not (awaits_else levels)) UnexpectedClose) begin_else
first_else_is [] = refl
first_else_is (level ∷ levels) = by_else level.in_else
  where
    by_else : (b : Bool) → if b then Err UnexpectedClose else Ok begin_else
        ≡ reported (when (not (not b)) UnexpectedClose) begin_else
    by_else true = refl
    by_else false = refl

else_is : (levels : List Level) (items : List Item)
    → block_reads.else_said levels items ≡ reported (else_errors levels items) begin_else
else_is levels items =
    let here = when (not (awaits_else levels)) UnexpectedClose in
    ap (beside (block_reads.extra_error items)) (first_else_is levels)
    ∙ ap (λ o. beside o (reported here begin_else)) (extra_is items)
    ∙ sym (reported_append (extra_errors items) here begin_else)

close_is : (levels : List Level) (name : List ℕ) (items : List Item)
    → block_reads.closing_said levels name items ≡ reported (close_errors levels name items) close
close_is levels name items = by_name (is_innermost name levels)
  where
    by_name : (b : Bool)
        → if b then beside (block_reads.extra_error items) (Ok close)
        else beside (block_reads.all_errors levels items) (Err UnexpectedClose)
        ≡ reported (if b then extra_errors items
        else argument_errors levels items ++ UnexpectedClose ∷ []) close
    by_name true = beside_ok_is (block_reads.extra_error items) close ∙ ap (λ o. checked o close) (extra_is items)
    by_name false =
        ap (λ o. beside o (Err UnexpectedClose)) (errors_are levels items)
        ∙ sym (reported_append (argument_errors levels items) (UnexpectedClose ∷ []) close)

-- ---- all tags

module _ (levels : List Level) where
  triple_is : (items : List Item) (foreign hash : Bool) (block : Option Block)
      → if foreign || (hash && not (is_some block)) then Err UnsupportedTag else tag_reads.print_said levels items
      ≡ Reads levels items (if foreign then unsupported else if hash then opening_purpose Triple block else prints)
  triple_is items true hash block = refl
  triple_is items false true None = refl
  triple_is items false true (Some block) = print_is levels items
  triple_is items false false block = print_is levels items

  double_is : (text : List ℕ) (items : List Item) (foreign hash slash is_else : Bool) (block : Option Block)
      → if foreign || (hash && not (is_some block)) then Err UnsupportedTag
      else if hash then block_reads.opening_said levels block items
      else if slash then block_reads.closing_said levels (drop 1 text) items
      else if is_else then block_reads.else_said levels items
      else tag_reads.print_said levels (word text ∷ items)
      ≡ Reads levels (word text ∷ items)
      (if foreign then unsupported
      else if hash then opening_purpose Double block
      else if slash then closes (drop 1 text) else if is_else then begins_else else prints)
  double_is text items true hash slash is_else block = refl
  double_is text items false true slash is_else None = refl
  double_is text items false true slash is_else (Some block) = opens_is levels block (word text) items
  double_is text items false false true is_else block = close_is levels (drop 1 text) items
  double_is text items false false false true block = else_is levels items
  double_is text items false false false false block = print_is levels (word text ∷ items)

  items_is : (opening : Opening) (items : List Item)
      → tag_reads.items_said opening levels items ≡ Reads levels items (purpose_of opening items)
  items_is opening [] = refl
  items_is Triple (word text ∷ items) =
      triple_is (word text ∷ items) (has_foreign_mark text) (begins (codes "#") text) (block_named (drop 1 text))
  items_is Double (word text ∷ items) =
      double_is text items (has_foreign_mark text) (begins (codes "#") text) (begins (codes "/") text)
      (bytes_eq text (codes "else")) (block_named (drop 1 text))
  items_is opening (left_parenthesis ∷ items) = print_is levels (left_parenthesis ∷ items)
  items_is opening (right_parenthesis ∷ items) = print_is levels (right_parenthesis ∷ items)

-- what is read is what the definition says
pub tag_is : (opening : Opening) (content : List ℕ) (levels : List Level)
    → tag_read opening content levels ≡ tag_said opening content levels
unfolding tag_said tag_read
tag_is opening content levels =
    let items = items_of content in
    ap (beside (tag_reads.space_error content)) (items_is levels opening items)
    ∙ sym (reported_when (lacks_space Start false content) BadPath
    (purpose_errors (purpose_of opening items) levels items) (tag_value (purpose_of opening items) levels items))
