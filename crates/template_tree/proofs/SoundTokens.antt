-- What a token says is sound where the blocks are open that it is read in.
use Rattle.std.proofs.Common.{◌≡◌, ℕ, zero, suc, ◌≤◌, ◌==◌, List, [], ◌∷◌, length, take, drop}
use Rattle.std.proofs.Common.{codes, Option, Some, None, Result, Ok, Err, refl, subst, arith}
use Rattle.std.specs.List.{ends_with}
use Rattle.std.proofs.lemmas.Bool.{cond_both}
use Rattle.std.proofs.lemmas.List.{length-take}
use Rattle.template_words.specs.declared.error.TagError.{TagError}
use Rattle.template_words.specs.Marks.{offset_of}
use Rattle.template_tags.specs.declared.level.Level.{Level}
use Rattle.template_tags.specs.declared.tag.Opening.{Opening}
use Rattle.template_tags.specs.Said.{tag_said}
use Rattle.template_tags.specs.Shown.SoundTags.{IsSoundTag}
use Rattle.template_tags.specs.Tags as said
use Rattle.template_tags.proofs.Raised.{tag_sound_within}
use Rattle.template_tree.specs.declared.parser.TheConstants.{TEXT_LIMIT}
use Rattle.template_tree.specs.Inner.Frames.{AllowsToken}
use Rattle.template_tree.specs.Tags.{TagText, comment, shown, tag_of}
use Rattle.template_tree.specs.Tokens.{Token, text_token, comment_token, tag_token, Next, token, tag_error, ended}
use Rattle.template_tree.specs.Tokens.{said_next, closed_next, tag_next, error_after_backslash}
use Rattle.template_tree.specs.Tokens.{last_text_next, next_at, next_of}
use Rattle.template_tree.proofs.Lengths.{shown_length, TagWithin, tag_short}

abbrev pub SoundToken : List Level → Token → Type 0
SoundToken levels (text_token bytes) = length bytes ≤ TEXT_LIMIT
SoundToken levels comment_token = Unit {0}
SoundToken levels (tag_token opening tag) = IsSoundTag TEXT_LIMIT levels tag

abbrev SoundNext : List Level → Next → Type 0
SoundNext levels (token t more) = SoundToken levels t
SoundNext levels (tag_error f mark) = Unit {0}
SoundNext levels ended = Unit {0}

said-sound : (levels : List Level) (text : List ℕ) (opening : Opening)
    (r : Result said.Tag TagError) (rest : List ℕ)
    → ((tag : said.Tag) → r ≡ Ok tag → IsSoundTag TEXT_LIMIT levels tag)
    → SoundNext levels (said_next text opening r rest)
said-sound levels text opening (Ok tag) rest h = h tag refl
said-sound levels text opening (Err e) rest h = tt

tag-sound : (levels : List Level) (text : List ℕ) (o : Option (TagText × List ℕ)) → TagWithin TEXT_LIMIT o
    → SoundNext levels (tag_next levels text o)
tag-sound levels text None h = tt
tag-sound levels text (Some x) h = by x.0 h.0
  where
    by : (tag : TagText) → shown_length tag ≤ TEXT_LIMIT → SoundNext levels (closed_next levels text tag x.1)
    by comment le = tt
    by (shown opening content) le =
        said-sound levels text opening (tag_said opening content levels) x.1
        (λ tag e. tag_sound_within TEXT_LIMIT opening content levels tag le e)

within : (n m : ℕ) (o : Option (TagText × List ℕ)) → n ≤ m → TagWithin n o → TagWithin m o
within n m None le h = tt
within n m (Some x) le h = (omega (arith, h.0), omega (arith, h.1))

last-sound : (levels : List Level) (text : List ℕ) → length text ≤ TEXT_LIMIT
    → SoundNext levels (last_text_next text)
last-sound levels [] le = tt
last-sound levels (b ∷ bs) le = le

at-sound : (levels : List Level) (text : List ℕ) (index : Option ℕ) → length text ≤ TEXT_LIMIT
    → SoundNext levels (next_at levels text index)
at-sound levels text None le = last-sound levels text le
at-sound levels text (Some zero) le =
    tag-sound levels text (tag_of text) (within (length text) TEXT_LIMIT (tag_of text) le (tag_short text))
at-sound levels text (Some (suc n)) le =
    let front = take (suc n) text in
    let mark = drop (suc n) text in
    cond_both (ends_with ◌==◌ front (codes "\\")) (tag_error (error_after_backslash (tag_of mark)) mark)
    (token (text_token front) mark) (SoundNext levels) (λ t. tt) (λ f. omega (arith, le, length-take (suc n) text))

next-sound : (levels : List Level) (text : List ℕ) → length text ≤ TEXT_LIMIT
    → SoundNext levels (next_of levels text)
unfolding next_of
next-sound levels text le = at-sound levels text (offset_of (codes "{{") text) le

pub token-sound : (levels : List Level) (text more : List ℕ) (t : Token) → length text ≤ TEXT_LIMIT
    → next_of levels text ≡ token t more → SoundToken levels t
token-sound levels text more t le e = subst (SoundNext levels) e (next-sound levels text le)

allowed_by : (levels : List Level) (t : Token) → SoundToken levels t → AllowsToken levels t
allowed_by levels (text_token bytes) s = tt
allowed_by levels comment_token s = tt
allowed_by levels (tag_token opening (said.print e)) s = tt
allowed_by levels (tag_token opening (said.open_if unless test)) s = tt
allowed_by levels (tag_token opening (said.open_each over parameter)) s = tt
allowed_by levels (tag_token opening said.begin_else) s = s
allowed_by [] (tag_token opening said.close) s = absurd (omega (arith, s))
allowed_by (level ∷ levels) (tag_token opening said.close) s = tt

pub allowed_token : (levels : List Level) (text more : List ℕ) (t : Token) → length text ≤ TEXT_LIMIT
    → next_of levels text ≡ token t more → AllowsToken levels t
allowed_token levels text more t le e = allowed_by levels t (token-sound levels text more t le e)
