-- The content of a tag, and what follows the tag, aren't longer than the text.
use Rattle.std.proofs.Common.{◌≡◌, ℕ, ◌+◌, ◌<◌, ◌≤◌, Bool, true, false, cond, List, length, drop}
use Rattle.std.proofs.Common.{Option, Some, None, IfSome, sym, subst, arith, length-drop, codes}
use Rattle.std.proofs.lemmas.Bool.{cond_both}
use Rattle.std.proofs.lemmas.List.{length-take}
use Rattle.template_words.specs.declared.mode.Mode.TheVariants.{Start}
use Rattle.template_tags.specs.declared.tag.Opening.{Opening}
use Rattle.template_tags.specs.declared.tag.Opening.TheVariants.{Double, Triple}
use Rattle.template_words.specs.Marks.{begins, offset_of, close_from, around}
use Rattle.template_tree.specs.Tags.{TagText, comment, shown, comment_tag, shown_tag, comment_close, comment_of}
use Rattle.template_tree.specs.Tags.{shown_of, tag_of}
use Rattle.template_words.proofs.Finding.{offset_at, close_at}

abbrev pub shown_length : TagText → ℕ
shown_length comment = 0
shown_length (shown opening text) = length text

-- what is shown isn't longer than that, and what follows is shorter
abbrev pub TagWithin : ℕ → Option (TagText × List ℕ) → Type 0
TagWithin n None = Unit {0}
TagWithin n (Some x) = (shown_length x.0 ≤ n) × (length x.1 < n)

Within : ℕ → Option (List ℕ × List ℕ) → Type 0
Within n None = Unit {0}
Within n (Some x) = (length x.0 ≤ n) × (length x.1 < n)

around_short : (close body : List ℕ) (o : Option ℕ) → 0 < length close
    → IfSome o (λ i. (i < length body) × (begins close (drop i body) ≡ true))
    → Within (length body) (around close body o)
unfolding Within
around_short close body None some h = tt
around_short close body (Some n) some h =
    (omega (arith, length-take n body), omega (arith, length-drop (n + length close) body, h.0))

within_comment : (n k : ℕ) (o : Option (List ℕ × List ℕ)) → n ≤ k → Within n o
    → TagWithin k (comment_tag o)
unfolding Within
within_comment n k None le h = tt
within_comment n k (Some x) le h = (omega arith, omega (arith, h.1))

within_shown : (n k : ℕ) (opening : Opening) (o : Option (List ℕ × List ℕ)) → n ≤ k → Within n o
    → TagWithin k (shown_tag opening o)
unfolding Within
within_shown n k opening None le h = tt
within_shown n k opening (Some x) le h = (omega (arith, h.0), omega (arith, h.1))

close_some : (b : Bool) → 0 < length (cond b (codes "--}}") (codes "}}"))
close_some true = omega arith
close_some false = omega arith

pub tag_short : (s : List ℕ) → TagWithin (length s) (tag_of s)
unfolding tag_of
tag_short s =
    let body = drop 3 s in
    let short : length body ≤ length s = omega (arith, length-drop 3 s) in
    let body_2 = drop 2 s in
    let short_2 : length body_2 ≤ length s = omega (arith, length-drop 2 s) in
    cond_both (begins (codes "{{!") s) (comment_of body)
    (cond (begins (codes "{{{") s) (shown_of Triple (codes "}}}") body) (shown_of Double (codes "}}") body_2))
    (TagWithin (length s))
    (λ t. within_comment (length body) (length s)
    (around (comment_close body) body (offset_of (comment_close body) body)) short
    (around_short (comment_close body) body (offset_of (comment_close body) body)
    (close_some (begins (codes "--") body)) (offset_at (comment_close body) body)))
    (λ f. cond_both (begins (codes "{{{") s) (shown_of Triple (codes "}}}") body)
    (shown_of Double (codes "}}") body_2) (TagWithin (length s))
    (λ t. within_shown (length body) (length s) Triple
    (around (codes "}}}") body (close_from (codes "}}}") Start body)) short
    (around_short (codes "}}}") body (close_from (codes "}}}") Start body) (omega arith)
    (close_at (codes "}}}") Start body)))
    (λ g. within_shown (length body_2) (length s) Double
    (around (codes "}}") body_2 (close_from (codes "}}") Start body_2)) short_2
    (around_short (codes "}}") body_2 (close_from (codes "}}") Start body_2) (omega arith)
    (close_at (codes "}}") Start body_2))))

pub shown_within : (s : List ℕ) (opening : Opening) (content rest : List ℕ)
    → ◌≡◌ {A = Option (TagText × List ℕ)} (Some (shown opening content, rest)) (tag_of s)
    → length content ≤ length s
shown_within s opening content rest e =
    let P : Option (TagText × List ℕ) → Type 0 = TagWithin (length s) in (subst P (sym e) (tag_short s)).0
