-- A piece of text goes up to the next mark, or to the end.
use Rattle.std.proofs.Common.{◌≡◌, ℕ, zero, suc, ◌<◌, ◌≤◌, ◌==◌, inl, inr, List, [], ◌∷◌}
use Rattle.std.proofs.Common.{◌++◌, length, take, drop, codes, Option, Some, None, IfSome, Result, Ok, Err, refl}
use Rattle.std.proofs.Common.{sym, ap, subst, ◌∙◌, arith, append_assoc, length-append, length-drop}
use Rattle.std.specs.List.{ends_with}
use Rattle.std.proofs.lemmas.Bool.{cond_both, both_ways}
use Rattle.std.proofs.lemmas.List.{append-nil, take-append-drop, drop-append-le, length-take-le}
use Rattle.template_words.specs.declared.error.TagError.{TagError}
use Rattle.template_tags.specs.declared.tag.Opening.{Opening}
use Rattle.template_tree.specs.Shown.Laws.{IsPiece}
use Rattle.template_words.specs.Marks.{begins, offset_of}
use Rattle.template_tree.specs.Tags.{TagText, comment, shown, tag_of}
use Rattle.template_tree.specs.Tokens.{text_token, token, tag_error, ended, said_next, closed_next, tag_next}
use Rattle.template_tree.specs.Tokens.{error_after_backslash, last_text_next, next_at, next_of}
use Rattle.template_tags.specs.declared.level.Level.{Level}
use Rattle.template_tags.specs.Said.{tag_said}
use Rattle.template_tags.specs.Tags as said
use Rattle.template_words.proofs.Closes.{Marks, marks}
use Rattle.template_words.proofs.Finding.{begins_own, offset_none}

same_piece : (a b x y : List ℕ) → token (text_token a) x ≡ token (text_token b) y → (a ≡ b) × (x ≡ y)
same_piece a b x y e = (cc, cc)

-- the same piece and rest under other names
renamed : (text a b x y : List ℕ) → token (text_token a) x ≡ token (text_token b) y
    → IsPiece text a x → IsPiece text b y
renamed text a b x y e h =
    let p = same_piece a b x y e in
    let P : List ℕ → Type 0 = λ q. IsPiece text q x in
    let Q : List ℕ → Type 0 = λ r. IsPiece text b r in
    subst Q p.1 (subst P p.0 h)

no_said : (text p rest more : List ℕ) (opening : Opening) (tag : Result said.Tag TagError)
    → said_next text opening tag rest ≡ token (text_token p) more → ⊥
no_said text p rest more opening (Ok tag) e = cc
no_said text p rest more opening (Err f) e = cc

no_closed : (levels : List Level) (text p rest more : List ℕ) (tag : TagText)
    → closed_next levels text tag rest ≡ token (text_token p) more → ⊥
no_closed levels text p rest more comment e = cc
no_closed levels text p rest more (shown opening content) e =
    no_said text p rest more opening (tag_said opening content levels) e

no_tag : (levels : List Level) (text p more : List ℕ) (o : Option (TagText × List ℕ))
    → tag_next levels text o ≡ token (text_token p) more → ⊥
no_tag levels text p more None e = cc
no_tag levels text p more (Some x) e = no_closed levels text p x.1 more x.0 e

-- before the first mark there is none
before_first : (mark text : List ℕ) (n : ℕ) → 0 < length mark → Marks mark text n
    → offset_of mark (take n text) ≡ None
before_first mark text n some m = offset_none mark (take n text) some none
  where
    none : (i : ℕ) → i ≤ length (take n text) → (rest : List ℕ)
        → drop i (take n text) ≡ mark ++ rest → ⊥
    none i le rest e =
        let long : length (take n text) ≡ n = length-take-le n text (omega (arith, m.inside)) in
        let whole : drop i text ≡ drop i (take n text ++ drop n text) = ap (drop i) (sym (take-append-drop n text)) in
        let apart : drop i (take n text ++ drop n text) ≡ drop i (take n text) ++ drop n text =
        drop-append-le i (take n text) (drop n text) le in
        let here : drop i text ≡ mark ++ (rest ++ drop n text) =
        whole ∙ (apart ∙ (ap (λ x. x ++ drop n text) e ∙ append_assoc mark rest (drop n text))) in
        let before : i < n =
        omega (arith, some, long, le, length-append mark rest, ap length e, length-drop i (take n text)) in
        both_ways (begins mark (drop i text)) (m.first i before)
        (ap (begins mark) here ∙ begins_own mark (rest ++ drop n text))

last_piece : (text p rest : List ℕ) → offset_of (codes "{{") text ≡ None
    → last_text_next text ≡ token (text_token p) rest → IsPiece text p rest
last_piece [] p rest none e = absurd (ended_differs e)
  where
    ended_differs : ended ≡ token (text_token p) rest → ⊥
    ended_differs q = cc
last_piece (b ∷ bs) p rest none e =
    renamed (b ∷ bs) (b ∷ bs) p [] rest e
    (record { split = sym (append-nil (b ∷ bs)); some = omega arith; unmarked = none; until = inl refl })

piece_at : (levels : List Level) (text p rest : List ℕ) (o : Option ℕ) → offset_of (codes "{{") text ≡ o
    → IfSome o (Marks (codes "{{") text) → next_at levels text o ≡ token (text_token p) rest
    → IsPiece text p rest
piece_at levels text p rest None o h e = last_piece text p rest o e
piece_at levels text p rest (Some zero) o h e = absurd (no_tag levels text p rest (tag_of text) e)
piece_at levels text p rest (Some (suc n)) o h e =
    let front = take (suc n) text in
    let mark = drop (suc n) text in
    cond_both (ends_with ◌==◌ front (codes "\\")) (tag_error (error_after_backslash (tag_of mark)) mark)
    (token (text_token front) mark) (λ x. x ≡ token (text_token p) rest → IsPiece text p rest)
    (λ t q. absurd (error_differs q))
    (λ f q. renamed text front p mark rest q (record {
      split = sym (take-append-drop (suc n) text);
      some = omega (arith, length-take-le (suc n) text (omega (arith, h.inside)));
      unmarked = before_first (codes "{{") text (suc n) (omega arith) h;
      until = inr h.here;
    }))
    e
  where
    error_differs : tag_error (error_after_backslash (tag_of (drop (suc n) text))) (drop (suc n) text)
        ≡ token (text_token p) rest → ⊥
    error_differs q = cc

pub whole_piece : (levels : List Level) (text p rest : List ℕ) → next_of levels text ≡ token (text_token p) rest
    → IsPiece text p rest
unfolding next_of
whole_piece levels text p rest e =
    piece_at levels text p rest (offset_of (codes "{{") text) refl (marks (codes "{{") text) e
