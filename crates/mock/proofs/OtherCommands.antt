-- Arguments that the code takes for a command of this crate, or for help, ask for no other command and no other help.
use Rattle.std.proofs.Common.{◌≡◌, ℕ, List, [], ◌∷◌, ◌++◌, true, false, inl, inr, ◌∙◌, ap, codes, refl, subst, sym}
use Rattle.std.proofs.lemmas.Bool.{false≢true}
use Rattle.std.proofs.lemmas.Slice.Eq.{bytes_eq-Decides}
use Rattle.std.specs.Str.{bytes_eq}
use Rattle.mock.specs.CommandLine.{AskForOwn, is_own}
use Rattle.mock.specs.Inner.Arguments.{ask_for_own, ask_to_help}
use Rattle.mock_program.specs.CommandLine.{Asked, AsksFor, CallsForHelp, Gives, IsCommand, flags_of}
use Rattle.mock_program.specs.CommandLine.{render, check, answer, explain}
use Rattle.mock_program.specs.Options.{takes_options, words_of}
use Rattle.template_tree.specs.declared.escape.Escape.{Escape}

pub own_asked : (arguments : List (List ℕ)) → ask_for_own arguments ≡ true → AskForOwn arguments
own_asked [] e = absurd (false≢true e)
own_asked (program ∷ []) e = absurd (false≢true e)
own_asked (program ∷ command ∷ rest) e = (program, command, rest, e, refl)

-- the word after the program's name is neither a command of this crate nor `help`
abbrev IsOther : List (List ℕ) → Type 0
IsOther arguments = (ask_for_own arguments ≡ false) × (ask_to_help arguments ≡ false)

other : (program name : List ℕ) (rest : List (List ℕ)) → is_own name ≡ false
    → bytes_eq name (codes "help") ≡ false → IsOther (program ∷ name ∷ rest)
other program name [] not_own no_help = (not_own, no_help)
other program name (x ∷ []) not_own no_help = (not_own, no_help)
other program name (x ∷ y ∷ rest) not_own no_help = (not_own, refl)

other_of : (arguments : List (List ℕ)) (program name : List ℕ) (rest : List (List ℕ))
    → arguments ≡ program ∷ name ∷ rest → is_own name ≡ false
    → bytes_eq name (codes "help") ≡ false → IsOther arguments
other_of arguments program name rest e not_own no_help =
    subst (λ found. IsOther found) (sym e) (other program name rest not_own no_help)

gives_other : (arguments : List (List ℕ)) (name : List ℕ) (escape : Escape) (given : List (List ℕ))
    → is_own name ≡ false → bytes_eq name (codes "help") ≡ false
    → Gives arguments name escape given → IsOther arguments
gives_other arguments name escape given not_own no_help (program, inl (plain, e)) =
    other_of arguments program name (flags_of escape ++ given) e not_own no_help
gives_other arguments name escape given not_own no_help (program, inr e) =
    other_of arguments program name (flags_of escape ++ codes "--" ∷ given) e not_own no_help

command_other : (arguments : List (List ℕ)) (escape : Escape) (asked : Asked)
    → AsksFor arguments escape asked → IsOther arguments
command_other arguments escape (render template method target) asks =
    gives_other arguments (codes "render") escape (template ∷ method ∷ target ∷ []) refl refl asks
command_other arguments escape (check file) asks =
    gives_other arguments (codes "check") escape (file ∷ []) refl refl asks
command_other arguments escape (answer file method target) asks =
    gives_other arguments (codes "answer") escape (file ∷ method ∷ target ∷ []) refl refl asks
command_other arguments escape (explain file method target) asks =
    gives_other arguments (codes "explain") escape (file ∷ method ∷ target ∷ []) refl refl asks

flagged_other : (arguments : List (List ℕ)) (program name : List ℕ) (escape : Escape) (rest : List (List ℕ))
    → (count : ℕ) → IsCommand name count → arguments ≡ program ∷ name ∷ (flags_of escape ++ rest)
    → IsOther arguments
flagged_other arguments program name escape rest count (inl (is, three)) e =
    other_of arguments program name (flags_of escape ++ rest) e (ap (λ n. is_own n) is)
    (ap (λ n. bytes_eq n (codes "help")) is)
flagged_other arguments program name escape rest count (inr (inl (is, one))) e =
    other_of arguments program name (flags_of escape ++ rest) e (ap (λ n. is_own n) is)
    (ap (λ n. bytes_eq n (codes "help")) is)
flagged_other arguments program name escape rest count (inr (inr (inl (is, three)))) e =
    other_of arguments program name (flags_of escape ++ rest) e (ap (λ n. is_own n) is)
    (ap (λ n. bytes_eq n (codes "help")) is)
flagged_other arguments program name escape rest count (inr (inr (inr (is, three)))) e =
    other_of arguments program name (flags_of escape ++ rest) e (ap (λ n. is_own n) is)
    (ap (λ n. bytes_eq n (codes "help")) is)

help_other : (arguments : List (List ℕ)) → CallsForHelp arguments → IsOther arguments
help_other arguments (program, flag, rest, inl (inl (inl is), e)) =
    other_of arguments program flag rest e (ap (λ n. is_own n) is)
    (ap (λ n. bytes_eq n (codes "help")) is)
help_other arguments (program, flag, rest, inl (inl (inr is), e)) =
    other_of arguments program flag rest e (ap (λ n. is_own n) is)
    (ap (λ n. bytes_eq n (codes "help")) is)
help_other arguments (program, flag, rest, inl (inr is, e)) =
    other_of arguments program flag rest e (ap (λ n. is_own n) is)
    (ap (λ n. bytes_eq n (codes "help")) is)
help_other arguments (program, flag, rest, inr (is, (name, count, escape, command, e))) =
    flagged_other arguments program name escape (flag ∷ rest) count command e

-- ---- options are taken out of neither

own_words : (arguments : List (List ℕ)) → ask_for_own arguments ≡ true → ask_for_own (words_of arguments) ≡ true
own_words [] e = e
own_words (program ∷ []) e = e
own_words (program ∷ command ∷ rest) e = e

no_options : (command : List ℕ) → bytes_eq command (codes "help") ≡ true → takes_options command ≡ false
no_options command e = ap takes_options ((bytes_eq-Decides command (codes "help")).0 e)

help_words : (arguments : List (List ℕ)) → ask_to_help arguments ≡ true → ask_to_help (words_of arguments) ≡ true
help_words [] e = e
help_words (program ∷ []) e = e
help_words (program ∷ command ∷ []) e = rw (no_options command e) e
help_words (program ∷ command ∷ name ∷ []) e = rw (no_options command e) e
help_words (program ∷ command ∷ name ∷ next ∷ rest) e = absurd (false≢true e)

pub own_is_no_command : (arguments : List (List ℕ)) → ask_for_own arguments ≡ true
    → (escape : Escape) (asked : Asked) → AsksFor (words_of arguments) escape asked → ⊥
own_is_no_command arguments taken escape asked asks =
    false≢true (sym (command_other (words_of arguments) escape asked asks).0 ∙ own_words arguments taken)

pub helps_no_command : (arguments : List (List ℕ)) → ask_to_help arguments ≡ true
    → (escape : Escape) (asked : Asked) → AsksFor (words_of arguments) escape asked → ⊥
helps_no_command arguments taken escape asked asks =
    false≢true (sym (command_other (words_of arguments) escape asked asks).1 ∙ help_words arguments taken)

pub own_is_no_help : (arguments : List (List ℕ)) → ask_for_own arguments ≡ true
    → CallsForHelp (words_of arguments) → ⊥
own_is_no_help arguments taken calls =
    false≢true (sym (help_other (words_of arguments) calls).0 ∙ own_words arguments taken)

pub helps_no_flag : (arguments : List (List ℕ)) → ask_to_help arguments ≡ true
    → CallsForHelp (words_of arguments) → ⊥
helps_no_flag arguments taken calls =
    false≢true (sym (help_other (words_of arguments) calls).1 ∙ help_words arguments taken)
