-- Arguments that ask for a command, and what the parser is given for them.
use Rattle.std.proofs.Common.{◌≡◌, ℕ, Bool, true, false, List, [], ◌∷◌, ◌++◌, codes, refl, ap, ◌∙◌, inl, inr}
use Rattle.std.specs.Str.{bytes_eq}
use Rattle.std.proofs.lemmas.Slice.Eq.{bytes_eq-Decides}
use Rattle.mock_program.specs.CommandLine.{Asked, render, check, answer, explain, AsksFor, Gives, IsPlainArgument}
use Rattle.mock_program.specs.Inner.Arguments.{is_flag, delimiter, unflagged, escape_before, escape_asked}
use Rattle.mock_program.specs.Inner.Arguments.{parser_arguments}
use Rattle.template_tree.specs.declared.escape.Escape.{Escape}
use Rattle.template_tree.specs.declared.escape.Escape.TheVariants.{Off, Html}
use Rattle.mock_program.specs.CommandLine.{name_of, given_to}

-- those of a command that is asked for
abbrev pub arguments_of : Asked → List (List ℕ)
arguments_of asked = codes "mock" ∷ name_of asked ∷ codes "--" ∷ given_to asked

pub differs : (argument other : List ℕ) → ¬ (argument ≡ other) → bytes_eq argument other ≡ false
differs argument other h = go (bytes_eq argument other) refl
  where
    go : (t : Bool) → bytes_eq argument other ≡ t → bytes_eq argument other ≡ false
    go true e = absurd (h ((bytes_eq-Decides argument other).0 e))
    go false e = e

pub is_no_flag : (argument : List ℕ) → IsPlainArgument argument → is_flag argument ≡ false
is_no_flag argument (short, long, dashes, html) =
    rw (
      differs argument (codes "-h") short,
      differs argument (codes "--help") long,
      differs argument (codes "--") dashes,
      differs argument (codes "--html-escape") html,
    ) refl

-- a first argument that is plain stays
unflagged-plain : (first : List ℕ) (rest : List (List ℕ)) → IsPlainArgument first
    → unflagged (first ∷ rest) ≡ first ∷ rest
unflagged-plain first rest (short, long, dashes, html) = rw (differs first (codes "--html-escape") html) refl

escape_before-plain : (first : List ℕ) (rest : List (List ℕ)) → IsPlainArgument first
    → escape_before (first ∷ rest) ≡ Off
escape_before-plain first rest (short, long, dashes, html) = rw (differs first (codes "--html-escape") html) refl

-- and comes after a delimiter
delimiter-plain : (first : List ℕ) (rest : List (List ℕ)) → IsPlainArgument first
    → delimiter (first ∷ rest) ≡ codes "--" ∷ []
delimiter-plain first rest plain = rw (is_no_flag first plain) refl

abbrev delimited : List ℕ → List (List ℕ) → List (List ℕ)
delimited name rest = codes "mock" ∷ name ∷ (delimiter rest ++ rest)

delimited-plain : (name first : List ℕ) (rest : List (List ℕ)) → IsPlainArgument first
    → delimited name (first ∷ rest) ≡ codes "mock" ∷ name ∷ codes "--" ∷ first ∷ rest
delimited-plain name first rest plain =
    ap (λ marks. codes "mock" ∷ name ∷ (marks ++ first ∷ rest)) (delimiter-plain first rest plain)

pub parser_arguments-given : (arguments : List (List ℕ)) (name : List ℕ) (escape : Escape) (first : List ℕ)
    (rest : List (List ℕ)) → Gives arguments name escape (first ∷ rest)
    → parser_arguments arguments ≡ codes "mock" ∷ name ∷ codes "--" ∷ first ∷ rest
parser_arguments-given arguments name Off first rest (program, inl (plain, is)) =
    ap parser_arguments is
    ∙ (ap (delimited name) (unflagged-plain first rest plain) ∙ delimited-plain name first rest plain)
parser_arguments-given arguments name Html first rest (program, inl (plain, is)) =
    ap parser_arguments is ∙ delimited-plain name first rest plain
parser_arguments-given arguments name Off first rest (program, inr is) = rw is refl
parser_arguments-given arguments name Html first rest (program, inr is) = rw is refl

escape_asked-given : (arguments : List (List ℕ)) (name : List ℕ) (escape : Escape) (first : List ℕ)
    (rest : List (List ℕ)) → Gives arguments name escape (first ∷ rest) → escape_asked arguments ≡ escape
escape_asked-given arguments name Off first rest (program, inl (plain, is)) =
    ap escape_asked is ∙ escape_before-plain first rest plain
escape_asked-given arguments name Html first rest (program, inl (plain, is)) = rw is refl
escape_asked-given arguments name Off first rest (program, inr is) = rw is refl
escape_asked-given arguments name Html first rest (program, inr is) = rw is refl

pub parser_arguments-asked : (arguments : List (List ℕ)) (escape : Escape) (asked : Asked)
    → AsksFor arguments escape asked → parser_arguments arguments ≡ arguments_of asked
parser_arguments-asked arguments escape (render template method target) asks =
    parser_arguments-given arguments (codes "render") escape template (method ∷ target ∷ []) asks
parser_arguments-asked arguments escape (check file) asks =
    parser_arguments-given arguments (codes "check") escape file [] asks
parser_arguments-asked arguments escape (answer file method target) asks =
    parser_arguments-given arguments (codes "answer") escape file (method ∷ target ∷ []) asks
parser_arguments-asked arguments escape (explain file method target) asks =
    parser_arguments-given arguments (codes "explain") escape file (method ∷ target ∷ []) asks

pub escape_asked-asked : (arguments : List (List ℕ)) (escape : Escape) (asked : Asked)
    → AsksFor arguments escape asked → escape_asked arguments ≡ escape
escape_asked-asked arguments escape (render template method target) asks =
    escape_asked-given arguments (codes "render") escape template (method ∷ target ∷ []) asks
escape_asked-asked arguments escape (check file) asks =
    escape_asked-given arguments (codes "check") escape file [] asks
escape_asked-asked arguments escape (answer file method target) asks =
    escape_asked-given arguments (codes "answer") escape file (method ∷ target ∷ []) asks
escape_asked-asked arguments escape (explain file method target) asks =
    escape_asked-given arguments (codes "explain") escape file (method ∷ target ∷ []) asks
