-- What a text begins with, and the row of tokens that it is made of.
use Rattle.std.proofs.Common.{◌≡◌, ℕ, zero, suc, ◌<◌, ◌≤◌, ◌≢◌, ◌==◌, true, false, List, []}
use Rattle.std.proofs.Common.{◌∷◌, ◌++◌, length, take, drop, codes, Option, Some, None, IfSome, Result, Ok}
use Rattle.std.proofs.Common.{Err, refl, ap, subst, ◌∙◌, arith, length-drop}
use Rattle.std.specs.List.{ends_with}
use Rattle.std.proofs.lemmas.Bool.{cond_both}
use Rattle.template_words.specs.declared.error.TagError.{TagError}
use Rattle.template_words.specs.Marks.{begins, offset_of}
use Rattle.template_words.proofs.Finding.{offset_at}
use Rattle.template_tags.specs.declared.level.Level.{Level}
use Rattle.template_tags.specs.declared.tag.Opening.{Opening}
use Rattle.template_tags.specs.Said.{tag_said}
use Rattle.template_tags.specs.Tags as said
use Rattle.template_tree.specs.Grammar.{Leads, token_levels}
use Rattle.template_tree.specs.Tags.{TagText, comment, shown, tag_of}
use Rattle.template_tree.specs.Tokens.{Token, text_token, Next, token, tag_error, ended, said_next, closed_next}
use Rattle.template_tree.specs.Tokens.{tag_next, error_after_backslash, text_next, last_text_next, next_at, next_of}
use Rattle.template_tree.proofs.Lengths.{TagWithin, tag_short}

-- what comes of a token is shorter, an error's mark is in the text, and only the empty text is at its end
abbrev pub Fits : List ℕ → Next → Type 0
Fits s (token t more) = length more < length s
Fits s (tag_error f mark) = length mark ≤ length s
Fits s ended = s ≡ []

said_fits : (s rest : List ℕ) (opening : Opening) (tag : Result said.Tag TagError) → length rest < length s
    → Fits s (said_next s opening tag rest)
said_fits s rest opening (Ok t) h = h
said_fits s rest opening (Err f) h = omega arith

closed_fits : (levels : List Level) (s rest : List ℕ) (tag : TagText) → length rest < length s
    → Fits s (closed_next levels s tag rest)
closed_fits levels s rest comment h = h
closed_fits levels s rest (shown opening content) h = said_fits s rest opening (tag_said opening content levels) h

tag_fits : (levels : List Level) (s : List ℕ) (o : Option (TagText × List ℕ)) → TagWithin (length s) o
    → Fits s (tag_next levels s o)
tag_fits levels s None h = omega arith
tag_fits levels s (Some x) h = closed_fits levels s x.1 x.0 h.1

last_fits : (s : List ℕ) → Fits s (last_text_next s)
last_fits [] = refl
last_fits (b ∷ bs) = omega arith

at_fits : (levels : List Level) (s : List ℕ) (o : Option ℕ)
    → IfSome o (λ i. (i < length s) × (begins (codes "{{") (drop i s) ≡ true)) → Fits s (next_at levels s o)
at_fits levels s None h = last_fits s
at_fits levels s (Some zero) h = tag_fits levels s (tag_of s) (tag_short s)
at_fits levels s (Some (suc n)) h =
    cond_both (ends_with ◌==◌ (take (suc n) s) (codes "\\"))
    (tag_error (error_after_backslash (tag_of (drop (suc n) s))) (drop (suc n) s))
    (token (text_token (take (suc n) s)) (drop (suc n) s)) (Fits s)
    (λ t. omega (arith, length-drop (suc n) s))
    (λ f. omega (arith, length-drop (suc n) s, h.0))

pub next_fits : (levels : List Level) (s : List ℕ) → Fits s (next_of levels s)
unfolding next_of
next_fits levels s = at_fits levels s (offset_of (codes "{{") s) (offset_at (codes "{{") s)

pub token_shorter : (levels : List Level) (s more : List ℕ) (t : Token) → next_of levels s ≡ token t more
    → length more < length s
token_shorter levels s more t e = let P : Next → Type 0 = Fits s in subst P e (next_fits levels s)

pub mark_fits : (levels : List Level) (s mark : List ℕ) (f : TagError) → next_of levels s ≡ tag_error f mark
    → length mark ≤ length s
mark_fits levels s mark f e = let P : Next → Type 0 = Fits s in subst P e (next_fits levels s)

pub ended_empty : (levels : List Level) (s : List ℕ) → next_of levels s ≡ ended → s ≡ []
ended_empty levels s e = let P : Next → Type 0 = Fits s in subst P e (next_fits levels s)

pub empty_ended : (levels : List Level) → next_of levels [] ≡ ended
unfolding next_of
empty_ended levels = refl

-- text before a mark
pub next_text : (levels : List Level) (s : List ℕ) (n : ℕ) → offset_of (codes "{{") s ≡ Some n → n ≢ 0
    → next_of levels s ≡ text_next (take n s) (drop n s)
unfolding next_of
next_text levels s zero e some = absurd (some refl)
next_text levels s (suc n) e some = ap (next_at levels s) e

pub text_plain : (front mark : List ℕ) → ends_with ◌==◌ front (codes "\\") ≡ false
    → text_next front mark ≡ token (text_token front) mark
text_plain front mark f = rw f refl

pub leads_push : (ts : List Token) (levels new_levels : List Level) (text rest more : List ℕ) (t : Token)
    → Leads ts levels text new_levels rest → next_of new_levels rest ≡ token t more
    → Leads (ts ++ t ∷ []) levels text (token_levels (length rest) t new_levels) more
leads_push [] levels new_levels text rest more t h e = (
  more,
  ap (λ ls. next_of ls text) h.0 ∙ (ap (next_of new_levels) h.1 ∙ e),
  (ap (λ ls. token_levels (length text) t ls) h.0 ∙ ap (λ s. token_levels (length s) t new_levels) h.1, refl),
)
leads_push (u ∷ ts) levels new_levels text rest more t h e =
    (h.0, h.1, leads_push ts (token_levels (length text) u levels) new_levels h.0 rest more t h.2 e)

pub leads_shorter : (ts : List Token) (levels new_levels : List Level) (text rest : List ℕ)
    → Leads ts levels text new_levels rest → length rest ≤ length text
leads_shorter [] levels new_levels text rest h = omega (arith, ap length h.1)
leads_shorter (t ∷ ts) levels new_levels text rest h =
    omega (
      arith,
      leads_shorter ts (token_levels (length text) t levels) new_levels h.0 rest h.2,
      token_shorter levels text h.0 t h.1,
    )
