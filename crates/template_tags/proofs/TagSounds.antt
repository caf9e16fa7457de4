-- What a tag says is sound.
use Rattle.std.proofs.Common.{◌≡◌, ℕ, suc, ◌<◌, nat_le, ◌||◌, Bool, true, false, List, [], ◌∷◌, length, drop, Option}
use Rattle.std.proofs.Common.{Some, None, Result, Ok, Err, IfOk, refl, subst, ◌∙◌, arith}
use Rattle.std.specs.Prelude.{codes}
use Rattle.std.specs.Str.{bytes_eq}
use Rattle.std.proofs.lemmas.Bool.{cond_both, leb-false, true≢false}
use Rattle.template_words.specs.Marks.{begins}
use Rattle.template_words.specs.declared.error.TagError.{TagError}
use Rattle.template_words.specs.declared.error.TagError.TheVariants.{UnsupportedTag, WrongArguments, TooDeep}
use Rattle.template_words.specs.declared.error.TagError.TheVariants.{UnexpectedClose}
use Rattle.template_tags.specs.Inner.BlockReads.{block_argument, only_one, data_only, test_said, loop_said}
use Rattle.template_tags.specs.Blocks.{is_innermost, LoopItems, loop_items, has_names, has_parameters, is_reserved_name}
use Rattle.template_tags.specs.Inner.BlockReads.{each_said, opening_said, first_else, extra_error, else_said}
use Rattle.template_tags.specs.Inner.BlockReads.{closing_said, all_errors, match_error}
use Rattle.template_tags.specs.Inner.CallReads.{beside, error_if, errors_in, arguments}
use Rattle.template_tags.specs.Expression.{Expression, datum, index, key, first, last, number, truth, call, call_two}
use Rattle.template_tags.specs.Expression as expressions
use Rattle.template_tags.specs.Levels.{loops_open, block_named}
use Rattle.template_tags.specs.Inner.TagReads.{tag_read, value_said, print_said, is_marked, word_said, items_said}
use Rattle.template_tags.specs.Inner.TagReads.{space_error}
use Rattle.template_tags.specs.Said.{tag_said}
use Rattle.template_tags.specs.Items.{Item, word, left_parenthesis, right_parenthesis, items_of}
use Rattle.template_tags.specs.Sound.{IsSoundDatum}
use Rattle.template_tags.specs.Shown.SoundTags.{IsSoundTag}
use Rattle.template_tags.specs.Tags.{Tag, close}
use Rattle.template_tags.specs.Terms.{single, group, Terms, no_terms, first_term, terms_in, is_matched}
use Rattle.template_tags.specs.Words.{word_of}
use Rattle.template_tags.specs.Inner.WordReads.{word_value, lone_value}
use Rattle.template_tags.specs.declared.expression.TheConstants.{CALL_LIMIT}
use Rattle.template_tags.specs.declared.level.TheConstants.{BLOCK_LIMIT, LOOP_LIMIT}
use Rattle.template_tags.specs.declared.level.Block.{Block}
use Rattle.template_tags.specs.declared.level.Block.TheVariants.{If, Unless, Each}
use Rattle.template_tags.specs.declared.level.Level.{Level}
use Rattle.template_tags.specs.declared.tag.Opening.{Opening}
use Rattle.template_tags.specs.declared.tag.Opening.TheVariants.{Double, Triple}
use Rattle.template_tags.proofs.Reported.{tag_is}
use Rattle.template_tags.proofs.Shorts.{ShortTerms, ShortItems, short_terms, short_loop_items, short_items_of}
use Rattle.template_tags.proofs.Sounds.{beside_ok, beside_none, bind_ok, word_fits, Sound, SoundRead, SoundReads}
use Rattle.template_tags.proofs.Sounds.{higher, value_sound, lone_sound, arguments_sound, own_call_sound}

module _ (limit : ℕ) (levels : List Level) where
  abbrev Said : Result Tag TagError → Type 0
  Said said = IfOk said (IsSoundTag limit levels)

  print_value : (matched : Bool) (ts : Terms) → ShortTerms limit ts
      → SoundRead limit levels (suc CALL_LIMIT) (value_said levels matched ts)
  print_value matched no_terms short = tt
  print_value true (first_term (single text) no_terms) short =
      higher limit levels 0 (suc CALL_LIMIT) (lone_value levels text (word_of text)) (omega arith)
      (lone_sound limit levels text (word_of text) (word_fits limit text short.0))
  print_value false (first_term (single text) no_terms) short =
      higher limit levels 0 (suc CALL_LIMIT) (word_value levels text (word_of text)) (omega arith)
      (value_sound limit levels text (word_of text) (word_fits limit text short.0))
  print_value matched (first_term (group ts) no_terms) short = tt
  print_value matched (first_term t (first_term u ts)) short =
      own_call_sound limit levels (first_term t (first_term u ts)) short

  print_sound : (items : List Item) → ShortItems limit items → Said (print_said levels items)
  print_sound items short =
      bind_ok (Sound limit levels (suc CALL_LIMIT)) (IsSoundTag limit levels) _ _
      (beside_ok (Sound limit levels (suc CALL_LIMIT)) (match_error items)
      (value_said levels (is_matched items) (terms_in items))
      (print_value (is_matched items) (terms_in items) (short_terms limit items short)))
      (λ x h. h)

  only_sound : (reads : List (Result Expression TagError)) → SoundReads limit levels CALL_LIMIT reads
      → SoundRead limit levels CALL_LIMIT (only_one reads)
  only_sound [] s = tt
  only_sound (a ∷ []) s = s.0
  only_sound (a ∷ b ∷ more) s =
      beside_ok (Sound limit levels CALL_LIMIT) (errors_in (a ∷ b ∷ more)) (Err WrongArguments) tt

  block_sound : (items : List Item) → ShortItems limit items
      → SoundRead limit levels CALL_LIMIT (block_argument levels items)
  block_sound items short =
      beside_ok (Sound limit levels CALL_LIMIT) (match_error items) (only_one (arguments levels (terms_in items)))
      (only_sound (arguments levels (terms_in items))
      (arguments_sound limit levels (terms_in items) (short_terms limit items short)))

  test_sound : (unless : Bool) (items : List Item) → ShortItems limit items → Said (test_said levels unless items)
  test_sound unless items short =
      beside_none (IsSoundTag limit levels) TooDeep (nat_le BLOCK_LIMIT (length levels)) _
      (λ few. beside_ok (IsSoundTag limit levels) (error_if UnsupportedTag (has_parameters items)) _
      (bind_ok (Sound limit levels CALL_LIMIT) (IsSoundTag limit levels) (block_argument levels items) _
      (block_sound items short)
      (λ x h. ((h.0, omega (arith, h.1)), leb-false BLOCK_LIMIT (length levels) few))))

  data_sound : (read : Result Expression TagError) → SoundRead limit levels CALL_LIMIT read
      → IfOk (data_only read) (IsSoundDatum limit (loops_open levels))
  data_sound (Ok (datum d)) s = s.0
  data_sound (Ok index) s = tt
  data_sound (Ok key) s = tt
  data_sound (Ok first) s = tt
  data_sound (Ok last) s = tt
  data_sound (Ok (expressions.text_literal text)) s = tt
  data_sound (Ok (number k)) s = tt
  data_sound (Ok (truth b)) s = tt
  data_sound (Ok (call h x)) s = tt
  data_sound (Ok (call_two h x y)) s = tt
  data_sound (Err e) s = tt

  loop_sound : (loop : LoopItems) → ShortItems limit loop.items → length levels < BLOCK_LIMIT
      → loops_open levels < LOOP_LIMIT → Said (loop_said levels loop)
  loop_sound loop short few loops =
      beside_ok (IsSoundTag limit levels) (error_if UnsupportedTag (is_reserved_name loop.parameter)) _
      (bind_ok (IsSoundDatum limit (loops_open levels)) (IsSoundTag limit levels)
      (data_only (block_argument levels loop.items)) _
      (data_sound (block_argument levels loop.items) (block_sound loop.items short))
      (λ d h. (h, few, loops)))

  each_sound : (items : List Item) → ShortItems limit items → Said (each_said levels items)
  each_sound items short =
      beside_none (IsSoundTag limit levels) TooDeep
      (nat_le BLOCK_LIMIT (length levels) || nat_le LOOP_LIMIT (loops_open levels)) _
      (λ few. beside_ok (IsSoundTag limit levels) (error_if UnsupportedTag (has_names items)) _
      (loop_sound (loop_items items) (short_loop_items limit items short)
      (leb-false BLOCK_LIMIT (length levels) (neither (nat_le BLOCK_LIMIT (length levels)) _ few).0)
      (leb-false LOOP_LIMIT (loops_open levels) (neither (nat_le BLOCK_LIMIT (length levels)) _ few).1)))
    where
      neither : (a b : Bool) → (a || b) ≡ false → (a ≡ false) × (b ≡ false)
      neither true b e = absurd (true≢false e)
      neither false b e = (refl, e)

  opening_sound : (block : Option Block) (items : List Item) → ShortItems limit items
      → Said (opening_said levels block items)
  opening_sound None items short = tt
  opening_sound (Some If) items short = test_sound false items short
  opening_sound (Some Unless) items short = test_sound true items short
  opening_sound (Some Each) items short = each_sound items short

first_else_sound : (limit : ℕ) (levels : List Level) → IfOk (first_else levels) (IsSoundTag limit levels)
first_else_sound limit [] = tt
first_else_sound limit (level ∷ levels) =
    cond_both level.in_else (Err UnexpectedClose) _ (λ said. IfOk said (IsSoundTag limit (level ∷ levels)))
    (λ t. tt) (λ f. f)

else_sound : (limit : ℕ) (levels : List Level) (items : List Item)
    → IfOk (else_said levels items) (IsSoundTag limit levels)
else_sound limit levels items =
    beside_ok (IsSoundTag limit levels) (extra_error items) (first_else levels) (first_else_sound limit levels)

closing_sound : (limit : ℕ) (name : List ℕ) (levels : List Level) (items : List Item)
    → IfOk (closing_said levels name items) (IsSoundTag limit levels)
closing_sound limit name [] items =
    beside_ok (IsSoundTag limit []) (all_errors [] items) (Err UnexpectedClose) tt
closing_sound limit name (level ∷ levels) items =
    cond_both (is_innermost name (level ∷ levels)) (beside (extra_error items) (Ok close)) _
    (λ said. IfOk said (IsSoundTag limit (level ∷ levels)))
    (λ t. beside_ok (IsSoundTag limit (level ∷ levels)) (extra_error items) (Ok close) (omega arith))
    (λ f. beside_ok (IsSoundTag limit (level ∷ levels)) (all_errors (level ∷ levels) items)
    (Err UnexpectedClose) tt)

-- ---- all tags

word_tag_sound : (limit : ℕ) (opening : Opening) (levels : List Level) (text : List ℕ) (items : List Item)
    → ShortItems limit (word text ∷ items) → IfOk (word_said opening levels text items) (IsSoundTag limit levels)
word_tag_sound limit Triple levels text items short =
    print_sound limit levels (word text ∷ items) short
word_tag_sound limit Double levels text items short =
    cond_both (begins (codes "#") text) (opening_said levels (block_named (drop 1 text)) items) _ (Said limit levels)
    (λ t. opening_sound limit levels (block_named (drop 1 text)) items short.1)
    (λ f. cond_both (begins (codes "/") text) (closing_said levels (drop 1 text) items) _ (Said limit levels)
    (λ t. closing_sound limit (drop 1 text) levels items)
    (λ g. cond_both (bytes_eq text (codes "else")) (else_said levels items) _ (Said limit levels)
    (λ t. else_sound limit levels items)
    (λ h. print_sound limit levels (word text ∷ items) short)))

items_sound : (limit : ℕ) (opening : Opening) (levels : List Level) (items : List Item) → ShortItems limit items
    → IfOk (items_said opening levels items) (IsSoundTag limit levels)
items_sound limit opening levels [] short = tt
items_sound limit opening levels (word text ∷ items) short =
    cond_both (is_marked text) (Err UnsupportedTag) (word_said opening levels text items) (Said limit levels)
    (λ t. tt) (λ f. word_tag_sound limit opening levels text items short)
items_sound limit opening levels (left_parenthesis ∷ items) short =
    print_sound limit levels (left_parenthesis ∷ items) short
items_sound limit opening levels (right_parenthesis ∷ items) short =
    print_sound limit levels (right_parenthesis ∷ items) short

said_sound : (opening : Opening) (content : List ℕ) (levels : List Level)
    → IfOk (tag_read opening content levels) (IsSoundTag (length content) levels)
unfolding tag_read
said_sound opening content levels =
    beside_ok (IsSoundTag (length content) levels) (space_error content) (items_said opening levels (items_of content))
    (items_sound (length content) opening levels (items_of content) (short_items_of content))

pub tag_sound : (opening : Opening) (content : List ℕ) (levels : List Level) (tag : Tag)
    → tag_said opening content levels ≡ Ok tag → IsSoundTag (length content) levels tag
tag_sound opening content levels tag said =
    let P : Result Tag TagError → Type 0 = λ r. IfOk r (IsSoundTag (length content) levels) in
    subst P (tag_is opening content levels ∙ said) (said_sound opening content levels)
