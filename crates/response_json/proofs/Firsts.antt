-- The first error of a list of templates.
use Rattle.std.proofs.Common.{◌≡◌, inl, inr, ℕ, List, [], ◌∷◌, ◌++◌, All, append_assoc, refl, sym, ap, subst, ◌∙◌, take}
use Rattle.std.proofs.Common.{drop, set, get_or, suc, ◌<◌, ◌+◌, length, Result, Ok, Err, IsErrAnd, IfErr}
use Rattle.std.proofs.lemmas.List.{take_more, map-append, set_split, set-get_or}
use Rattle.std.proofs.lemmas.List.Elements.{All-append, All-cons, All-nil}
use Rattle.mapping_model.specs.declared.header_lines.HeaderLine.{HeaderLine}
use Rattle.response_json.specs.Draft.{IsFirstError, values_of, line_with, lines_with}
use Rattle.template_machine.specs.Errors.{IsErrorOf}
use Rattle.template_machine.specs.Program.{IsProgramText}
use Rattle.template_machine.specs.declared.error.ProgramError.{ProgramError}
use Rattle.template_tree.specs.Source.{Source, with_escape}
use Rattle.template_tree.specs.declared.escape.Escape.{Escape}

pub err_is : {T E : Type 0} (r : Result T E) (x : E) (P : E → Type 0) → IsErrAnd r (λ e. e ≡ x)
    → P x → IfErr r P
err_is (Ok v) x P h p = absurd h
err_is (Err e) x P h p = subst P (sym h) p

-- an error of the next source is the first, where those before it are programs
pub first_here : (before : List Source) (source : Source) (after : List Source) (error : ProgramError)
    → All IsProgramText before → IsErrorOf source error → IsFirstError (before ++ source ∷ after) error
first_here before source after error programs reported = inr (record {
  before = before;
  source = source;
  after = after;
  split = refl;
  programs = programs;
  reported = reported;
})

-- the first error of the sources is that of more sources
pub first_of_more : (sources more : List Source) (error : ProgramError)
    → IsFirstError sources error → IsFirstError (sources ++ more) error
first_of_more sources more error (inl memory) = inl memory
first_of_more sources more error (inr f) = inr (record {
  before = f.before;
  source = f.source;
  after = f.after ++ more;
  split = ap (λ ts. ts ++ more) f.split ∙ append_assoc f.before (f.source ∷ f.after) more;
  programs = f.programs;
  reported = f.reported;
})

-- so is that of the sources after such that are programs
pub first_after : (before sources : List Source) (error : ProgramError)
    → All IsProgramText before → IsFirstError sources error → IsFirstError (before ++ sources) error
first_after before sources error programs (inl memory) = inl memory
first_after before sources error programs (inr f) = inr (record {
  before = before ++ f.before;
  source = f.source;
  after = f.after;
  split = ap (λ ts. before ++ ts) f.split ∙ sym (append_assoc before f.before (f.source ∷ f.after));
  programs = All-append IsProgramText before f.before programs f.programs;
  reported = f.reported;
})

pub one_program : (source : Source) → IsProgramText source → All IsProgramText (source ∷ [])
one_program source program = All-cons IsProgramText source [] program (All-nil IsProgramText)

pub no_programs : All IsProgramText []
no_programs = All-nil IsProgramText

-- the sources of header lines, in two parts
values-append : (escape : Escape) (done rest : List (HeaderLine (List ℕ)))
    → values_of (lines_with escape (done ++ rest))
    ≡ values_of (lines_with escape done) ++ values_of (lines_with escape rest)
values-append escape done rest =
    ap (λ ls. values_of ls) (map-append (line_with escape) done rest)
    ∙ map-append (λ (l : HeaderLine Source). l.value) (lines_with escape done) (lines_with escape rest)

-- one more header line is compiled
pub one_more : (escape : Escape) (done : List (HeaderLine (List ℕ))) (line : HeaderLine (List ℕ))
    → All IsProgramText (values_of (lines_with escape done)) → IsProgramText (with_escape escape line.value)
    → All IsProgramText (values_of (lines_with escape (done ++ line ∷ [])))
one_more escape done line programs program =
    subst (All IsProgramText) (sym (values-append escape done (line ∷ [])))
    (All-append IsProgramText (values_of (lines_with escape done)) (with_escape escape line.value ∷ []) programs
    (one_program (with_escape escape line.value) program))

-- the error of a header line is the first, where those before it are compiled
pub line_fails : (escape : Escape) (done rest : List (HeaderLine (List ℕ))) (line : HeaderLine (List ℕ))
    (error : ProgramError) → All IsProgramText (values_of (lines_with escape done))
    → IsErrorOf (with_escape escape line.value) error
    → IsFirstError (values_of (lines_with escape (done ++ line ∷ rest))) error
line_fails escape done rest line error programs reported =
    subst (λ ts. IsFirstError ts error) (sym (values-append escape done (line ∷ rest)))
    (first_here (values_of (lines_with escape done)) (with_escape escape line.value)
    (values_of (lines_with escape rest)) error programs reported)

-- the lines before one, that line, and those after it
pub split_at : (lines : List (HeaderLine (List ℕ))) (i : ℕ) (line : HeaderLine (List ℕ)) → i < length lines
    → line ≡ get_or lines i line → take i lines ++ line ∷ drop (suc i) lines ≡ lines
split_at lines i line lt is = sym (set_split lines i line lt) ∙ ap (set lines i) is ∙ set-get_or lines i line

-- the error of the line at an index is the first
pub line_at_fails : (escape : Escape) (lines : List (HeaderLine (List ℕ))) (i : ℕ) (line : HeaderLine (List ℕ))
    (error : ProgramError) → i < length lines → line ≡ get_or lines i line
    → All IsProgramText (values_of (lines_with escape (take i lines)))
    → IsErrorOf (with_escape escape line.value) error → IsFirstError (values_of (lines_with escape lines)) error
line_at_fails escape lines i line error lt is programs reported =
    subst (λ ls. IsFirstError (values_of (lines_with escape ls)) error) (split_at lines i line lt is)
    (line_fails escape (take i lines) (drop (suc i) lines) line error programs reported)

pub one_taken : (lines : List (HeaderLine (List ℕ))) (i : ℕ) (line : HeaderLine (List ℕ)) → i < length lines
    → line ≡ get_or lines i line → take (i + 1) lines ≡ take i lines ++ line ∷ []
one_taken lines i line lt is = take_more lines i line lt ∙ ap (λ l. take i lines ++ l ∷ []) (sym is)
