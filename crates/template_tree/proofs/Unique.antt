-- A text spells one tree at most, has one error at most, and never both.
use Rattle.std.proofs.Common.{◌≡◌, ℕ, ◌<◌, ◌⊎◌, inl, inr, List, [], ◌∷◌, length, Result, Ok}
use Rattle.std.proofs.Common.{Err, IfOk, IfErr, MatchResult, refl, sym, ap, subst, ◌∙◌, arith}
use Rattle.template_tree.specs.declared.error.ParseError.{ParseError}
use Rattle.template_tree.specs.declared.error.ParseError.TheVariants as kinds
use Rattle.template_tree.specs.declared.template.Template.{Template}
use Rattle.template_tree.specs.declared.error.TemplateError.{TemplateError}
use Rattle.template_tree.specs.declared.error.TemplateErrorKind.{TemplateErrorKind}
use Rattle.template_tree.specs.declared.error.TemplateErrorKind.TheVariants.{Tag, TooLong}
use Rattle.template_tree.specs.declared.parser.TheConstants.{TEXT_LIMIT}
use Rattle.template_words.specs.declared.error.TagError.{TagError}
use Rattle.template_tags.specs.declared.level.Level.{Level}
use Rattle.template_tree.specs.Grammar.{Leads, token_levels, Spells, IsReadErrorAt, IsOpenAt, IsTagErrorAt, IsErrorAt}
use Rattle.template_tree.specs.Grammar.{IsTemplateError, IsParseError}
use Rattle.template_tree.specs.Parts.{parts_of}
use Rattle.template_tree.specs.Source.{Source}
use Rattle.template_tree.specs.Tokens.{Token, Next, token, tag_error, ended, next_of}
use Rattle.template_tree.specs.Template.{tree_of}
use Rattle.template_tree.specs.Tree.{Nodes}
use Rattle.template_tree.proofs.Formed.{same_tree}
use Rattle.template_tree.proofs.Rows.{empty_ended}

-- no token begins here
abbrev Stops : List Level → List ℕ → Type 0
Stops levels rest = (t : Token) (more : List ℕ) → next_of levels rest ≡ token t more → ⊥

tokens_differ : (n : Next) (t : Token) (more : List ℕ) → n ≡ ended → n ≡ token t more → ⊥
tokens_differ n t more p q = cc

error_differs : (n : Next) (t : Token) (more : List ℕ) (f : TagError) (mark : List ℕ) → n ≡ tag_error f mark
    → n ≡ token t more → ⊥
error_differs n t more f mark p q = cc

error_not_ended : (n : Next) (f : TagError) (mark : List ℕ) → n ≡ tag_error f mark → n ≡ ended → ⊥
error_not_ended n f mark p q = cc

stops_empty : (levels : List Level) → Stops levels []
stops_empty levels t more e = tokens_differ (next_of levels []) t more (empty_ended levels) e

stops_error : (levels : List Level) (rest mark : List ℕ) (f : TagError) → next_of levels rest ≡ tag_error f mark
    → Stops levels rest
stops_error levels rest mark f h t more e = error_differs (next_of levels rest) t more f mark h e

same_token : (n : Next) (t u : Token) (more rest : List ℕ) → n ≡ token t more → n ≡ token u rest
    → (t ≡ u) × (more ≡ rest)
same_token n t u more rest p q = (cc, cc)

same_error : (n : Next) (f g : TagError) (a b : List ℕ) → n ≡ tag_error f a → n ≡ tag_error g b
    → (f ≡ g) × (a ≡ b)
same_error n f g a b p q = (cc, cc)

-- the place at which a row of tokens stops
abbrev at_end : List Level → List ℕ → List Level → List ℕ → Type 0
at_end levels rest new_levels left = (levels ≡ new_levels) × (rest ≡ left)

next_same : (levels new_levels : List Level) (text rest : List ℕ) → levels ≡ new_levels → text ≡ rest
    → next_of levels text ≡ next_of new_levels rest
next_same levels new_levels text rest e f = ap (λ ls. next_of ls text) e ∙ ap (next_of new_levels) f

-- rows of tokens from one text that stop are one row
same_row : (ts us : List Token) (levels l m : List Level) (text rest left : List ℕ) → Leads ts levels text l rest
    → Leads us levels text m left → Stops l rest → Stops m left → (ts ≡ us) × at_end l rest m left
same_row [] [] levels l m text rest left p q s u = (refl, (sym p.0 ∙ q.0, sym p.1 ∙ q.1))
same_row [] (t ∷ ts) levels l m text rest left p q s u =
    absurd (s t q.0 (next_same l levels rest text (sym p.0) (sym p.1) ∙ q.1))
same_row (t ∷ ts) [] levels l m text rest left p q s u =
    absurd (u t p.0 (next_same m levels left text (sym q.0) (sym q.1) ∙ p.1))
same_row (t ∷ ts) (v ∷ vs) levels l m text rest left p q s u =
    let e = same_token (next_of levels text) t v p.0 q.0 p.1 q.1 in
    let after = token_levels (length text) t levels in
    let P : List ℕ → Type 0 = λ x. Leads vs after x m left in
    let Q : Token → Type 0 = λ x. Leads vs (token_levels (length text) x levels) q.0 m left in
    let ih = same_row ts vs after l m p.0 rest left p.2 (subst P (sym e.1) (subst Q (sym e.0) q.2)) s u in
    (ap (λ x. x ∷ ts) e.0 ∙ ap (λ xs. v ∷ xs) ih.0, ih.1)

pub one_tree : (source : Source) (a b : Nodes) → Spells source a → Spells source b → a ≡ b
one_tree source a b p q =
    let r =
    same_row p.tokens q.tokens [] [] [] source.text [] [] p.leads q.leads (stops_empty []) (stops_empty []) in
    same_tree a b (sym p.same ∙ (ap (λ ts. parts_of source.escape ts []) r.0 ∙ q.same))

no_read_error : (source : Source) (a : Nodes) (f : TagError) (at : ℕ) → Spells source a
    → IsReadErrorAt source.text f at → ⊥
no_read_error source a f at p q =
    let r =
    same_row p.tokens q.tokens [] [] q.levels source.text [] q.rest p.leads q.leads (stops_empty [])
    (stops_error q.levels q.rest q.mark f q.wrong) in
    error_not_ended (next_of q.levels q.rest) f q.mark q.wrong
    (next_same q.levels [] q.rest [] (sym r.1.0) (sym r.1.1) ∙ empty_ended [])

no_open_block : (source : Source) (a : Nodes) (at : ℕ) → Spells source a → IsOpenAt source.text at → ⊥
no_open_block source a at p q =
    let r =
    same_row p.tokens q.tokens [] [] (q.level ∷ q.levels) source.text [] [] p.leads q.leads (stops_empty [])
    (stops_empty (q.level ∷ q.levels)) in
    nil_cons q.level q.levels r.1.0
  where
    nil_cons : (level : Level) (levels : List Level) → [] ≡ level ∷ levels → ⊥
    nil_cons level levels e = cc

never_both_at : (source : Source) (a : Nodes) (kind : TemplateErrorKind) (at : ℕ) → Spells source a
    → IsErrorAt source.text kind at → ⊥
never_both_at source a (Tag e) at p (inl q) = no_read_error source a e at p q
never_both_at source a (Tag e) at p (inr q) = no_open_block source a at p q.1
never_both_at source a TooLong at p q = omega (arith, p.short, q.0)

pub never_both : (source : Source) (a : Nodes) (e : TemplateError) → Spells source a
    → IsTemplateError source.text e → ⊥
never_both source a e p q = never_both_at source a e.kind e.at p q

same_read_error : (text : List ℕ) (f g : TagError) (at by : ℕ) → IsReadErrorAt text f at
    → IsReadErrorAt text g by → (f ≡ g) × (at ≡ by)
same_read_error text f g at by p q =
    let r =
    same_row p.tokens q.tokens [] p.levels q.levels text p.rest q.rest p.leads q.leads
    (stops_error p.levels p.rest p.mark f p.wrong) (stops_error q.levels q.rest q.mark g q.wrong) in
    let e =
    same_error (next_of p.levels p.rest) f g p.mark q.mark p.wrong
    (next_same p.levels q.levels p.rest q.rest r.1.0 r.1.1 ∙ q.wrong) in
    (e.0, omega (arith, p.offset, q.offset, ap length e.1))

read_or_open : (text : List ℕ) (f : TagError) (at by : ℕ) → IsReadErrorAt text f at → IsOpenAt text by → ⊥
read_or_open text f at by p q =
    let r =
    same_row p.tokens q.tokens [] p.levels (q.level ∷ q.levels) text p.rest [] p.leads q.leads
    (stops_error p.levels p.rest p.mark f p.wrong) (stops_empty (q.level ∷ q.levels)) in
    error_not_ended (next_of p.levels p.rest) f p.mark p.wrong
    (next_same p.levels (q.level ∷ q.levels) p.rest [] r.1.0 r.1.1 ∙ empty_ended (q.level ∷ q.levels))

same_level : (l m : Level) (ls ms : List Level) → l ∷ ls ≡ m ∷ ms → l ≡ m
same_level l m ls ms e = cc

same_open : (text : List ℕ) (at by : ℕ) → IsOpenAt text at → IsOpenAt text by → at ≡ by
same_open text at by p q =
    let r =
    same_row p.tokens q.tokens [] (p.level ∷ p.levels) (q.level ∷ q.levels) text [] [] p.leads q.leads
    (stops_empty (p.level ∷ p.levels)) (stops_empty (q.level ∷ q.levels)) in
    let e : p.level.left ≡ q.level.left =
    ap (λ (l : Level). l.left) (same_level p.level q.level p.levels q.levels r.1.0) in
    omega (arith, p.offset, q.offset, e)

same_tag_error : (text : List ℕ) (f g : TagError) (at by : ℕ) → IsTagErrorAt text f at → IsTagErrorAt text g by
    → (f ≡ g) × (at ≡ by)
same_tag_error text f g at by (inl p) (inl q) = same_read_error text f g at by p q
same_tag_error text f g at by (inl p) (inr q) = absurd (read_or_open text f at by p q.1)
same_tag_error text f g at by (inr p) (inl q) = absurd (read_or_open text g by at q p.1)
same_tag_error text f g at by (inr p) (inr q) = (p.0 ∙ sym q.0, same_open text at by p.1 q.1)

short_and_long : (text : List ℕ) (f : TagError) (at : ℕ) → IsTagErrorAt text f at
    → TEXT_LIMIT < length text → ⊥
short_and_long text f at (inl p) h = omega (arith, p.short, h)
short_and_long text f at (inr p) h = omega (arith, p.1.short, h)

one_error_at : (text : List ℕ) (d e : TemplateErrorKind) (at by : ℕ) → IsErrorAt text d at → IsErrorAt text e by
    → (d ≡ e) × (at ≡ by)
one_error_at text (Tag f) (Tag g) at by p q = let e = same_tag_error text f g at by p q in (ap Tag e.0, e.1)
one_error_at text (Tag f) TooLong at by p q = absurd (short_and_long text f at p q.0)
one_error_at text TooLong (Tag g) at by p q = absurd (short_and_long text g by q p.0)
one_error_at text TooLong TooLong at by p q = (refl, p.1 ∙ sym q.1)

pub one_error : (text : List ℕ) (d e : TemplateError) → IsTemplateError text d
    → IsTemplateError text e → d ≡ e
one_error text d e p q =
    let same = one_error_at text d.kind e.kind d.at e.at p q in
    let P : ℕ → TemplateError = λ at. record { kind = e.kind; at = at } in
    let Q : TemplateErrorKind → TemplateError = λ kind. record { kind = kind; at = d.at } in
    ap Q same.0 ∙ ap P same.1

-- an answer that is right spells the one tree, or has the one error
pub every_tree : (source : Source) (r : Result Template ParseError)
    → IfOk r (λ template. Spells source (tree_of template)) → IfErr r (IsParseError source.text) → (tree : Nodes)
    → Spells source tree → MatchResult r (λ template. tree_of template ≡ tree) (λ e. e ≡ kinds.OutOfMemory)
every_tree source (Ok template) found wrong tree h = one_tree source (tree_of template) tree found h
every_tree source (Err (kinds.Template error)) found wrong tree h = absurd (never_both source tree error h wrong)
every_tree source (Err kinds.OutOfMemory) found wrong tree h = refl

pub every_error : (source : Source) (r : Result Template ParseError)
    → IfOk r (λ template. Spells source (tree_of template)) → IfErr r (IsParseError source.text)
    → (error : TemplateError) → IsTemplateError source.text error
    → MatchResult r (λ template. ⊥) (λ e. (e ≡ kinds.Template error) ⊎ (e ≡ kinds.OutOfMemory))
every_error source (Ok template) found wrong error h = never_both source (tree_of template) error found h
every_error source (Err (kinds.Template other)) found wrong error h =
    inl (ap kinds.Template (one_error source.text other error wrong h))
every_error source (Err kinds.OutOfMemory) found wrong error h = inr refl
