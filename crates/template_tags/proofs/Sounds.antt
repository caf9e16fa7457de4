-- What arguments and calls name is sound.
use Rattle.std.proofs.Common.{◌≡◌, ℕ, zero, suc, ◌<◌, ◌≤◌, nat_lt, Bool, true, false, List, [], ◌∷◌, length, Option}
use Rattle.std.proofs.Common.{Some, None, IfSome, Result, Ok, Err, IfOk, option_map, w64, refl, arith}
use Rattle.std.specs.Prelude.{is_some, FitsSigned, codes}
use Rattle.std.specs.Option.{option_or, unwrap_or}
use Rattle.std.proofs.lemmas.Bool.{cond_both, ltb-true, ltb-false}
use Rattle.helper_set.specs.declared.helper.Helper.{Helper}
use Rattle.helper_set.specs.declared.helper.Helper.TheVariants.{Upper, Lower, Trim, Size, Eq, Neq, Contains, Not}
use Rattle.helper_set.specs.declared.helper.Helper.TheVariants.{Base64, UrlEncode, DefaultIfEmpty, JsonPath}
use Rattle.json_bridge.specs.PathFound.{path_of}
use Rattle.template_words.specs.Literals.{text_literal, whole_number, truth_literal}
use Rattle.template_words.specs.Marks.{begins}
use Rattle.template_words.specs.Names.{is_hash_argument, first_part}
use Rattle.template_words.specs.PathReads.{reference_of}
use Rattle.template_words.specs.Reading.{◌>>=◌}
use Rattle.template_words.specs.Words.{is_foreign_helper}
use Rattle.template_words.specs.declared.error.TagError.{TagError}
use Rattle.template_words.specs.declared.error.TagError.TheVariants.{UnsupportedTag, WrongArguments, BadPath, TooDeep}
use Rattle.template_words.specs.declared.reference.Reference.{Reference}
use Rattle.template_words.specs.declared.reference.Reference.TheVariants as references
use Rattle.template_words.proofs.Numbers.{number_fits}
use Rattle.template_words.proofs.Literals.{literal_short}
use Rattle.template_tags.specs.Inner.CallReads.{beside, error_if, errors_in, one_value, two_values, literal_in, is_body}
use Rattle.template_tags.specs.Inner.CallReads.{body_call, json_path_call, called, call_of, limited, argument}
use Rattle.template_tags.specs.Inner.CallReads.{arguments, call_read, helper_read}
use Rattle.template_tags.specs.Expression.{Expression, datum, index, key, first, last, number, truth, call, call_two}
use Rattle.template_tags.specs.Expression as expressions
use Rattle.template_tags.specs.Levels.{is_loop, is_parameter, count_loop, loops_open, loop_at, loop_with_parameter}
use Rattle.template_tags.specs.Sound.{IsSoundDatum, IsSoundExpression, takes_one, takes_two, depth_of}
use Rattle.template_tags.specs.Terms.{Term, single, group, Terms, no_terms, first_term, height, greatest_height}
use Rattle.template_tags.specs.Words.{Word, text_word, number_word, truth_word, loop_word, helper_word, foreign_word}
use Rattle.template_tags.specs.Words.{path_word, wrong_word, helper_named, loop_word_of, path_read, other_word}
use Rattle.template_tags.specs.Words.{literal_of, known_word, word_of, found_datum, named_datum, loop_value}
use Rattle.template_tags.specs.Inner.WordReads.{word_value, argument_word, lone_value}
use Rattle.template_tags.specs.declared.expression.TheConstants.{CALL_LIMIT}
use Rattle.template_tags.specs.declared.level.Level.{Level}
use Rattle.template_tags.specs.declared.word.LoopWord.{LoopWord}
use Rattle.template_tags.specs.declared.word.LoopWord.TheVariants.{Index, Key, First, Last}
use Rattle.template_tags.proofs.Shorts.{ShortTerm, ShortTerms}

-- ---- what is read is so

pub beside_ok : {A : Type 0} (P : A → Type 0) (e : Option TagError) (read : Result A TagError) → IfOk read P
    → IfOk (beside e read) P
beside_ok P None read h = h
beside_ok P (Some e) (Ok x) h = tt
beside_ok P (Some e) (Err d) h = tt

-- an error that isn't found
pub beside_none : {A : Type 0} (P : A → Type 0) (e : TagError) (found : Bool) (read : Result A TagError)
    → (found ≡ false → IfOk read P) → IfOk (beside (error_if e found) read) P
beside_none P e true (Ok x) h = tt
beside_none P e true (Err d) h = tt
beside_none P e false read h = h refl

pub bind_ok : {A B : Type 0} (P : A → Type 0) (Q : B → Type 0) (read : Result A TagError)
    (f : A → Result B TagError) → IfOk read P → ((x : A) → P x → IfOk (f x) Q) → IfOk (read >>= f) Q
bind_ok P Q (Ok x) f h later = later x h
bind_ok P Q (Err e) f h later = tt

map_some : {A B : Type 0} (P : A → Type 0) (Q : B → Type 0) (f : A → B) (o : Option A) → IfSome o P
    → ((x : A) → P x → Q (f x)) → IfSome (option_map f o) Q
map_some P Q f None h later = tt
map_some P Q f (Some x) h later = later x h

or_some : {A : Type 0} (P : A → Type 0) (a b : Option A) → IfSome a P → IfSome b P → IfSome (option_or a b) P
or_some P None b h k = k
or_some P (Some x) b h k = h

unwrap_some : {A : Type 0} (P : A → Type 0) (o : Option A) (x : A) → IfSome o P → P x → P (unwrap_or o x)
unwrap_some P None x h k = k
unwrap_some P (Some y) x h k = h

any_some : {A : Type 0} (o : Option A) → IfSome o (λ x. Unit {0})
any_some None = tt
any_some (Some x) = tt

-- ---- words

abbrev FitWord : ℕ → Word → Type 0
FitWord limit (text_word text) = length text ≤ limit
FitWord limit (number_word n) = FitsSigned w64 n
FitWord limit (truth_word b) = Unit {0}
FitWord limit (loop_word w) = Unit {0}
FitWord limit (helper_word h) = Unit {0}
FitWord limit foreign_word = Unit {0}
FitWord limit (path_word reference) = Unit {0}
FitWord limit (wrong_word e) = Unit {0}

path_fits : (limit : ℕ) (read : Result Reference TagError) → FitWord limit (path_read read)
path_fits limit (Ok reference) = tt
path_fits limit (Err e) = tt

other_fits : (limit : ℕ) (text : List ℕ) → FitWord limit (other_word text)
other_fits limit text =
    cond_both (is_foreign_helper text) foreign_word _ (FitWord limit) (λ t. tt)
    (λ f. cond_both (begins (codes "@") text) (wrong_word UnsupportedTag)
    (path_read (reference_of text)) (FitWord limit)
    (λ t. tt) (λ g. path_fits limit (reference_of text)))

literal_fits : (limit : ℕ) (text : List ℕ) → length text ≤ limit → IfSome (literal_of text) (FitWord limit)
literal_fits limit text short =
    or_some (FitWord limit) _ _
    (map_some (λ t. length t ≤ length text) (FitWord limit) text_word (text_literal text) (literal_short text)
    (λ t h. omega (arith, h, short)))
    (or_some (FitWord limit) _ _
    (map_some (FitsSigned w64) (FitWord limit) number_word (whole_number text) (number_fits text) (λ n h. h))
    (map_some (λ b. Unit {0}) (FitWord limit) truth_word (truth_literal text) (any_some (truth_literal text))
    (λ b h. tt)))

known_fits : (limit : ℕ) (text : List ℕ) → length text ≤ limit → IfSome (known_word text) (FitWord limit)
known_fits limit text short =
    or_some (FitWord limit) _ _ (literal_fits limit text short)
    (or_some (FitWord limit) _ _
    (map_some (λ w. Unit {0}) (FitWord limit) loop_word (loop_word_of text)
    (any_some (loop_word_of text)) (λ w h. tt))
    (map_some (λ h. Unit {0}) (FitWord limit) helper_word (helper_named text) (any_some (helper_named text))
    (λ h k. tt)))

pub word_fits : (limit : ℕ) (text : List ℕ) → length text ≤ limit → FitWord limit (word_of text)
unfolding word_of
word_fits limit text short =
    unwrap_some (FitWord limit) (known_word text) (other_word text) (known_fits limit text short)
    (other_fits limit text)

-- ---- loops

count_is : (b : Bool) (n : ℕ) → n ≤ count_loop b n
count_is true n = omega arith
count_is false n = omega arith

loop_at_below : (b named : Bool) (outer : Option ℕ) (n : ℕ) → IfSome outer (λ up. up < n)
    → IfSome (loop_at b named outer) (λ up. up < count_loop b n)
loop_at_below false named outer n h = h
loop_at_below true true outer n h = omega arith
loop_at_below true false None n h = tt
loop_at_below true false (Some up) n h = omega (arith, h)

named_below : (name : List ℕ) (levels : List Level)
    → IfSome (loop_with_parameter name levels) (λ up. up < loops_open levels)
named_below name [] = tt
named_below name (level ∷ levels) =
    loop_at_below (is_loop level) (is_parameter name level.parameter) (loop_with_parameter name levels) (loops_open levels)
    (named_below name levels)

found_sound : (limit loops : ℕ) (reference : Reference) → IsSoundDatum limit loops (found_datum loops reference)
found_sound limit loops (references.Root steps) = tt
found_sound limit loops (references.Item depth steps) =
    cond_both (nat_lt depth loops) _ _ (IsSoundDatum limit loops) (λ t. ltb-true depth loops t) (λ f. tt)

named_sound : (limit loops : ℕ) (reference : Reference) (o : Option ℕ) → IfSome o (λ up. up < loops)
    → IsSoundDatum limit loops (named_datum loops reference o)
named_sound limit loops reference None h = found_sound limit loops reference
named_sound limit loops reference (Some up) h = h

-- ---- values

module _ (limit : ℕ) (levels : List Level) where
  abbrev pub Sound : ℕ → Expression → Type 0
  Sound n x = IsSoundExpression limit (loops_open levels) x × (depth_of x ≤ n)

  abbrev pub SoundRead : ℕ → Result Expression TagError → Type 0
  SoundRead n read = IfOk read (Sound n)

  abbrev pub SoundReads : ℕ → List (Result Expression TagError) → Type 0
  SoundReads n [] = Unit {0}
  SoundReads n (read ∷ reads) = SoundRead n read × SoundReads n reads

  pub higher : (m n : ℕ) (read : Result Expression TagError) → m ≤ n → SoundRead m read → SoundRead n read
  higher m n (Ok x) le h = (h.0, omega (arith, le, h.1))
  higher m n (Err e) le h = tt

  loop_value_sound : (loops : ℕ) (w : LoopWord)
      → IsSoundExpression limit loops (loop_value loops w) × (depth_of (loop_value loops w) ≤ 0)
  loop_value_sound zero w = (tt, omega arith)
  loop_value_sound (suc loops) Index = (omega arith, omega arith)
  loop_value_sound (suc loops) Key = (omega arith, omega arith)
  loop_value_sound (suc loops) First = (omega arith, omega arith)
  loop_value_sound (suc loops) Last = (omega arith, omega arith)

  pub value_sound : (text : List ℕ) (w : Word) → FitWord limit w → SoundRead 0 (word_value levels text w)
  value_sound text (text_word literal) h = (h, omega arith)
  value_sound text (number_word n) h = (h, omega arith)
  value_sound text (truth_word b) h = (tt, omega arith)
  value_sound text (loop_word w) h = loop_value_sound (loops_open levels) w
  value_sound text (helper_word k) h = tt
  value_sound text foreign_word h = tt
  value_sound text (path_word reference) h = (
    named_sound limit (loops_open levels) reference (loop_with_parameter (first_part text) levels)
        (named_below (first_part text) levels),
    omega arith,
  )
  value_sound text (wrong_word e) h = tt

  pub lone_sound : (text : List ℕ) (w : Word) → FitWord limit w → SoundRead 0 (lone_value levels text w)
  lone_sound text (text_word literal) h = tt
  lone_sound text (number_word n) h = tt
  lone_sound text (truth_word b) h = tt
  lone_sound text (loop_word w) h = value_sound text (loop_word w) h
  lone_sound text (helper_word k) h = tt
  lone_sound text foreign_word h = tt
  lone_sound text (path_word reference) h = value_sound text (path_word reference) h
  lone_sound text (wrong_word e) h = tt

  word_sound : (text : List ℕ) → length text ≤ limit → SoundRead 0 (argument_word levels text)
  word_sound text short =
      cond_both (is_hash_argument text) (Err UnsupportedTag) (word_value levels text (word_of text)) (SoundRead 0)
      (λ t. tt) (λ f. value_sound text (word_of text) (word_fits limit text short))

  -- ---- calls

  one_sound : (n : ℕ) (h : Helper) (reads : List (Result Expression TagError)) → takes_one h ≡ true
      → SoundReads n reads → SoundRead (suc n) (one_value h reads)
  one_sound n h [] takes s = tt
  one_sound n h (a ∷ []) takes s =
      bind_ok (Sound n) (Sound (suc n)) a (λ x. Ok (call h x)) s.0 (λ x k. ((takes, k.0), omega (arith, k.1)))
  one_sound n h (a ∷ b ∷ more) takes s = tt

  two_sound : (n : ℕ) (h : Helper) (reads : List (Result Expression TagError)) → takes_two h ≡ true
      → SoundReads n reads → SoundRead (suc n) (two_values h reads)
  two_sound n h [] takes s = tt
  two_sound n h (a ∷ []) takes s = tt
  two_sound n h (a ∷ b ∷ []) takes s =
      bind_ok (Sound n) (Sound (suc n)) a (λ x. b >>= λ y. Ok (call_two h x y)) s.0
      (λ x k. bind_ok (Sound n) (Sound (suc n)) b (λ y. Ok (call_two h x y)) s.1.0
      (λ y l. ((takes, k.0, l.0), omega (arith, k.1, l.1))))
  two_sound n h (a ∷ b ∷ c ∷ more) takes s = tt

  literal_sound : (n : ℕ) (read : Result Expression TagError) → SoundRead n read
      → IfSome (literal_in read) (λ text. length text ≤ limit)
  literal_sound n (Ok (expressions.text_literal text)) s = s.0
  literal_sound n (Ok (datum d)) s = tt
  literal_sound n (Ok index) s = tt
  literal_sound n (Ok key) s = tt
  literal_sound n (Ok first) s = tt
  literal_sound n (Ok last) s = tt
  literal_sound n (Ok (number k)) s = tt
  literal_sound n (Ok (truth b)) s = tt
  literal_sound n (Ok (call h x)) s = tt
  literal_sound n (Ok (call_two h x y)) s = tt
  literal_sound n (Err e) s = tt

  body_sound : (n : ℕ) (fits : Bool) (o : Option (List ℕ)) → IfSome o (λ text. length text ≤ limit)
      → SoundRead n (body_call fits o)
  body_sound n fits None h = tt
  body_sound n fits (Some text) h =
      cond_both (is_some (path_of text)) _ (Err BadPath) (SoundRead n)
      (λ t. cond_both fits _ (Err WrongArguments) (SoundRead n) (λ u. ((h, t), omega arith)) (λ g. tt)) (λ f. tt)

  json_sound : (n m : ℕ) (reads : List (Result Expression TagError)) → SoundReads n reads
      → SoundRead m (json_path_call reads)
  json_sound n m [] s = tt
  json_sound n m (a ∷ []) s = tt
  json_sound n m (a ∷ b ∷ []) s = body_sound m (is_body a) (literal_in b) (literal_sound n b s.1.0)
  json_sound n m (a ∷ b ∷ c ∷ more) s = body_sound m false (literal_in b) (literal_sound n b s.1.0)

  called_sound : (n : ℕ) (h : Helper) (reads : List (Result Expression TagError)) → SoundReads n reads
      → SoundRead (suc n) (called h reads)
  called_sound n Upper reads s = one_sound n Upper reads refl s
  called_sound n Lower reads s = one_sound n Lower reads refl s
  called_sound n Trim reads s = one_sound n Trim reads refl s
  called_sound n Size reads s = one_sound n Size reads refl s
  called_sound n Eq reads s = two_sound n Eq reads refl s
  called_sound n Neq reads s = two_sound n Neq reads refl s
  called_sound n Contains reads s = two_sound n Contains reads refl s
  called_sound n Not reads s = one_sound n Not reads refl s
  called_sound n Base64 reads s = one_sound n Base64 reads refl s
  called_sound n UrlEncode reads s = one_sound n UrlEncode reads refl s
  called_sound n DefaultIfEmpty reads s = two_sound n DefaultIfEmpty reads refl s
  called_sound n JsonPath reads s = json_sound n (suc n) reads s

  any_ok : (head : Result Helper TagError) → IfOk head (λ h. Unit {0})
  any_ok (Ok h) = tt
  any_ok (Err e) = tt

  call_sound : (n : ℕ) (head : Result Helper TagError) (reads : List (Result Expression TagError))
      → SoundReads n reads → SoundRead (suc n) (call_of head reads)
  call_sound n head reads s =
      beside_ok (Sound (suc n)) (errors_in reads) (head >>= λ h. called h reads)
      (bind_ok (λ h. Unit {0}) (Sound (suc n)) head (λ h. called h reads) (any_ok head)
      (λ h k. called_sound n h reads s))

  limited_sound : (n h : ℕ) (read : Result Expression TagError) → SoundRead n read → SoundRead n (limited h read)
  limited_sound n h (Ok x) s = cond_both (nat_lt CALL_LIMIT h) (Err TooDeep) (Ok x) (SoundRead n) (λ t. tt) (λ f. s)
  limited_sound n h (Err e) s = tt

  -- a group that isn't too high
  capped_sound : (h : ℕ) (read : Result Expression TagError) → SoundRead h read
      → SoundRead CALL_LIMIT (limited h read)
  capped_sound h (Ok x) s =
      cond_both (nat_lt CALL_LIMIT h) (Err TooDeep) (Ok x) (SoundRead CALL_LIMIT) (λ t. tt)
      (λ f. (s.0, omega (arith, s.1, ltb-false CALL_LIMIT h f)))
  capped_sound h (Err e) s = tt

  -- ---- terms

  mutual
    term_sound : (t : Term) → ShortTerm limit t → SoundRead (height t) (argument levels t)
    term_sound (single text) short = word_sound text short
    term_sound (group ts) short =
        limited_sound (suc (greatest_height ts)) (suc (greatest_height ts)) (call_read levels ts) (group_sound ts short)

    terms_sound : (ts : Terms) (n : ℕ) → greatest_height ts ≤ n → ShortTerms limit ts
        → SoundReads n (arguments levels ts)
    terms_sound no_terms n le short = tt
    terms_sound (first_term t ts) n le short = (
      higher (height t) n (argument levels t) (omega (arith, le)) (term_sound t short.0),
      terms_sound ts n (omega (arith, le)) short.1,
    )

    group_sound : (ts : Terms) → ShortTerms limit ts → SoundRead (suc (greatest_height ts)) (call_read levels ts)
    group_sound no_terms short = tt
    group_sound (first_term t ts) short =
        let n = greatest_height (first_term t ts) in
        call_sound n (helper_read levels t) (arguments levels ts) (terms_sound ts n (omega arith) short.1)

  pub argument_sound : (t : Term) → ShortTerm limit t → SoundRead CALL_LIMIT (argument levels t)
  argument_sound (single text) short =
      higher 0 CALL_LIMIT (argument_word levels text) (omega arith) (word_sound text short)
  argument_sound (group ts) short = capped_sound (suc (greatest_height ts)) (call_read levels ts) (group_sound ts short)

  pub arguments_sound : (ts : Terms) → ShortTerms limit ts → SoundReads CALL_LIMIT (arguments levels ts)
  arguments_sound no_terms short = tt
  arguments_sound (first_term t ts) short = (argument_sound t short.0, arguments_sound ts short.1)

  pub own_call_sound : (ts : Terms) → ShortTerms limit ts → SoundRead (suc CALL_LIMIT) (call_read levels ts)
  own_call_sound no_terms short = tt
  own_call_sound (first_term t ts) short =
      call_sound CALL_LIMIT (helper_read levels t) (arguments levels ts) (arguments_sound ts short.1)
