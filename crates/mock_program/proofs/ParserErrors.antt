-- Arguments that call for help are answered by help alone, and invalid ones by mistakes alone.
use Rattle.std.proofs.Common.{◌≡◌, ◌≢◌, ◌<◌, ◌==◌, ℕ, false, List, [], ◌∷◌, ◌++◌}
use Rattle.std.proofs.Common.{length, codes, refl, sym, ap, ◌∙◌, inl, inr, subst, arith}
use Rattle.std.proofs.lemmas.Bool.Decides.{eqb_tells}
use Rattle.std.specs.Str.{bytes_eq}
use Rattle.clap.specs.Words.{IsAmong, Kinds, Text, fault_of}
use Rattle.clap.specs.declared.error.kind.ErrorKind.{ErrorKind}
use Rattle.clap.specs.declared.error.kind.ErrorKind.TheVariants as kind
use Rattle.mock_program.specs.Inner.Parser.{IsHelp, answers_to, mock_app}
use Rattle.mock_program.specs.CommandLine.{AreInvalid, BeginsWithDash, CallsForHelp, Gives, IsCommand, IsHelpFlag}
use Rattle.mock_program.specs.Inner.Arguments.{delimiter, unflagged, parser_arguments}
use Rattle.template_tree.specs.declared.escape.Escape.{Escape}
use Rattle.template_tree.specs.declared.escape.Escape.TheVariants.{Off, Html}
use Rattle.mock_program.proofs.CommandArguments.{differs, parser_arguments-given}
use Rattle.mock_program.proofs.ParserAnswers.{IsMiscounted, answers_are, empty_command, help_of_answer, help_of_check}
use Rattle.mock_program.proofs.ParserAnswers.{help_of_mock, help_of_render, miscounted_answer, miscounted_check}
use Rattle.mock_program.proofs.ParserAnswers.{miscounted_render, no_command, nothing_to_answer, nothing_to_check}
use Rattle.mock_program.proofs.ParserAnswers.{nothing_to_render, other_command, short_help_of_answer}
use Rattle.mock_program.proofs.ParserAnswers.{short_help_of_check, short_help_of_mock, short_help_of_render}
use Rattle.mock_program.proofs.ParserAnswers.{help_of_explain, miscounted_explain, nothing_to_explain}
use Rattle.mock_program.proofs.ParserAnswers.{short_help_of_explain, version_of_mock}

-- what the parser makes of the arguments that it is given for these
abbrev fault : List Text → Kinds
fault arguments = fault_of mock_app (parser_arguments arguments)

answers : (arguments : List Text) → answers_to arguments ≡ fault_of mock_app arguments
answers arguments = answers_are mock_app arguments refl

abbrev pub FailsByHelp : Kinds → Type 0
FailsByHelp kinds = (k : ErrorKind) × IsHelp k × (kinds ≡ k ∷ [])

abbrev pub FailsByMistake : Kinds → Type 0
FailsByMistake kinds = (kinds ≢ []) × ((k : ErrorKind) → IsAmong k kinds → ¬ (IsHelp k))

-- ---- help

help_of : (flag : Text) (rest : List Text) → IsHelpFlag flag
    → fault (codes "mock" ∷ flag ∷ rest) ≡ kind.DisplayHelp ∷ []
help_of flag rest (inl short) =
    ap (λ (f : Text). fault (codes "mock" ∷ f ∷ rest)) short
    ∙ short_help_of_mock (delimiter (unflagged rest) ++ unflagged rest)
help_of flag rest (inr long) =
    ap (λ (f : Text). fault (codes "mock" ∷ f ∷ rest)) long
    ∙ help_of_mock (delimiter (unflagged rest) ++ unflagged rest)

-- help of a command, where its two flags give it
command_help_of : (name flag : Text) (rest : List Text) → IsHelpFlag flag
    → fault (codes "mock" ∷ name ∷ codes "-h" ∷ rest) ≡ kind.DisplayHelp ∷ []
    → fault (codes "mock" ∷ name ∷ codes "--help" ∷ rest) ≡ kind.DisplayHelp ∷ []
    → fault (codes "mock" ∷ name ∷ flag ∷ rest) ≡ kind.DisplayHelp ∷ []
command_help_of name flag rest (inl short) by_short by_long =
    ap (λ (f : Text). fault (codes "mock" ∷ name ∷ f ∷ rest)) short ∙ by_short
command_help_of name flag rest (inr long) by_short by_long =
    ap (λ (f : Text). fault (codes "mock" ∷ name ∷ f ∷ rest)) long ∙ by_long

help_at : (name flag : Text) (count : ℕ) (rest : List Text) → IsCommand name count → IsHelpFlag flag
    → fault (codes "mock" ∷ name ∷ flag ∷ rest) ≡ kind.DisplayHelp ∷ []
help_at name flag count rest (inl render) help =
    ap (λ (n : Text). fault (codes "mock" ∷ n ∷ flag ∷ rest)) render.0
    ∙ command_help_of (codes "render") flag rest help (short_help_of_render rest) (help_of_render rest)
help_at name flag count rest (inr (inl check)) help =
    ap (λ (n : Text). fault (codes "mock" ∷ n ∷ flag ∷ rest)) check.0
    ∙ command_help_of (codes "check") flag rest help (short_help_of_check rest) (help_of_check rest)
help_at name flag count rest (inr (inr (inl answer))) help =
    ap (λ (n : Text). fault (codes "mock" ∷ n ∷ flag ∷ rest)) answer.0
    ∙ command_help_of (codes "answer") flag rest help (short_help_of_answer rest) (help_of_answer rest)
help_at name flag count rest (inr (inr (inr explain))) help =
    ap (λ (n : Text). fault (codes "mock" ∷ n ∷ flag ∷ rest)) explain.0
    ∙ command_help_of (codes "explain") flag rest help (short_help_of_explain rest) (help_of_explain rest)

-- a call for help after the flag for escapes
unflagged_help : (program name flag : Text) (rest : List Text) → IsHelpFlag flag
    → fault (program ∷ name ∷ codes "--html-escape" ∷ flag ∷ rest)
    ≡ fault (codes "mock" ∷ name ∷ flag ∷ rest)
unflagged_help program name flag rest (inl short) =
    ap (λ (f : Text). fault (program ∷ name ∷ codes "--html-escape" ∷ f ∷ rest)) short
    ∙ sym (ap (λ (f : Text). fault (codes "mock" ∷ name ∷ f ∷ rest)) short)
unflagged_help program name flag rest (inr long) =
    ap (λ (f : Text). fault (program ∷ name ∷ codes "--html-escape" ∷ f ∷ rest)) long
    ∙ sym (ap (λ (f : Text). fault (codes "mock" ∷ name ∷ f ∷ rest)) long)

by_help : (arguments : List Text) → CallsForHelp arguments → FailsByHelp (fault arguments)
by_help arguments (program, flag, rest, inl (inl help, is)) =
    (kind.DisplayHelp, inl refl, ap fault is ∙ help_of flag rest help)
by_help arguments (program, flag, rest, inl (inr version, is)) = (
  kind.DisplayVersion,
  inr refl,
  ap fault (is ∙ ap (λ (f : Text). program ∷ f ∷ rest) version) ∙ version_of_mock
      (delimiter (unflagged rest) ++ unflagged rest),
)
by_help arguments (program, flag, rest, inr (help, (name, count, Off, command, is))) =
    (kind.DisplayHelp, inl refl, ap fault is ∙ help_at name flag count rest command help)
by_help arguments (program, flag, rest, inr (help, (name, count, Html, command, is))) = (
  kind.DisplayHelp,
  inl refl,
  ap fault is ∙ (unflagged_help program name flag rest help ∙ help_at name flag count rest command help),
)

pub fails_by_help : (arguments : List Text) → CallsForHelp arguments
    → FailsByHelp (answers_to (parser_arguments arguments))
fails_by_help arguments calls =
    subst FailsByHelp (sym (answers (parser_arguments arguments))) (by_help arguments calls)

-- ---- mistakes

no_help : (e k : ErrorKind) → e ≡ k → ¬ (IsHelp k) → ¬ (IsHelp e)
no_help e k same other = λ h. other (subst IsHelp same h)

-- without arguments the parser gives the help, and that is a mistake: it wasn't called for
missing_command : FailsByMistake (kind.DisplayHelpOnMissingArgumentOrSubcommand ∷ [])
missing_command = (
  λ e. cc,
  λ k among. elim among [
    | inl same ↦ no_help k kind.DisplayHelpOnMissingArgumentOrSubcommand same
        (λ h. elim h [ inl e ↦ cc | inr e ↦ cc ])
    | inr none ↦ absurd none
  ],
)

missing_argument : FailsByMistake (kind.MissingRequiredArgument ∷ [])
missing_argument = (
  λ e. cc,
  λ k among. elim among [
    | inl same ↦ no_help k kind.MissingRequiredArgument same (λ h. elim h [ inl e ↦ cc | inr e ↦ cc ])
    | inr none ↦ absurd none
  ],
)

unknown : ¬ (IsHelp kind.UnknownArgument)
unknown h = elim h [ inl e ↦ cc | inr e ↦ cc ]

one_argument_more : FailsByMistake (kind.UnknownArgument ∷ [])
one_argument_more = (
  λ e. cc,
  λ k among. elim among [
    | inl same ↦ no_help k kind.UnknownArgument same unknown
    | inr none ↦ absurd none
  ],
)

stray_argument : FailsByMistake (kind.UnknownArgument ∷ kind.InvalidSubcommand ∷ [])
stray_argument = (
  λ e. cc,
  λ k among. elim among [
    | inl same ↦ no_help k kind.UnknownArgument same unknown
    | inr (inl same) ↦ no_help k kind.InvalidSubcommand same (λ h. elim h [ inl e ↦ cc | inr e ↦ cc ])
    | inr (inr none) ↦ absurd none
  ],
)

begins_otherwise : (c : ℕ) (cs : List ℕ) → ¬ (BeginsWithDash (c ∷ cs)) → c == 45 ≡ false
begins_otherwise c cs plain = elim (eqb_tells c 45) [
  | inl dash ↦ absurd (plain (cs, ap (λ (x : ℕ). x ∷ cs) dash.1))
  | inr other ↦ other.0
]

no_command_named : (name other : Text) → ((count : ℕ) → ¬ (IsCommand name count)) → (count : ℕ)
    → (name ≡ other → IsCommand name count) → bytes_eq other name ≡ false
no_command_named name other none count is = differs other name (λ e. none count (is (sym e)))

other_argument : (program name : Text) (rest : List Text) → ((count : ℕ) → ¬ (IsCommand name count))
    → ¬ (BeginsWithDash name) → FailsByMistake (fault (program ∷ name ∷ rest))
other_argument program [] rest none plain =
    subst FailsByMistake (sym (empty_command (delimiter (unflagged rest) ++ unflagged rest))) stray_argument
other_argument program (c ∷ cs) rest none plain =
    subst FailsByMistake
    (sym (other_command c cs (delimiter (unflagged rest) ++ unflagged rest)
    (no_command_named (c ∷ cs) (codes "render") none 3 (λ e. inl (e, refl)))
    (no_command_named (c ∷ cs) (codes "check") none 1 (λ e. inr (inl (e, refl))))
    (no_command_named (c ∷ cs) (codes "answer") none 3 (λ e. inr (inr (inl (e, refl)))))
    (no_command_named (c ∷ cs) (codes "explain") none 3 (λ e. inr (inr (inr (e, refl)))))
    (begins_otherwise c cs plain))) stray_argument

by_count : (kinds : Kinds) → IsMiscounted kinds → FailsByMistake kinds
by_count kinds (inl few) = subst FailsByMistake (sym few) missing_argument
by_count kinds (inr many) = subst FailsByMistake (sym many) one_argument_more

too_short : (arguments : List Text) → length arguments < 2 → FailsByMistake (fault arguments)
too_short [] short = subst FailsByMistake (sym no_command) missing_command
too_short (a ∷ []) short = subst FailsByMistake (sym no_command) missing_command
too_short (a ∷ b ∷ rest) short = absurd (omega arith)

-- a command, where it is refused after a `--`, and without arguments
command_fails : (arguments : List Text) (name : Text) (escape : Escape) (given : List Text)
    → Gives arguments name escape given
    → IsMiscounted (fault_of mock_app (codes "mock" ∷ name ∷ codes "--" ∷ given))
    → fault_of mock_app (codes "mock" ∷ name ∷ []) ≡ kind.MissingRequiredArgument ∷ []
    → FailsByMistake (fault arguments)
command_fails arguments name Off [] (program, inl (plain, is)) miscounted nothing =
    subst FailsByMistake (sym (ap fault is ∙ nothing)) missing_argument
command_fails arguments name Html [] (program, inl (plain, is)) miscounted nothing =
    subst FailsByMistake (sym (ap fault is ∙ nothing)) missing_argument
command_fails arguments name Off [] (program, inr is) miscounted nothing =
    subst FailsByMistake (sym (ap fault is)) (by_count _ miscounted)
command_fails arguments name Html [] (program, inr is) miscounted nothing =
    subst FailsByMistake (sym (ap fault is)) (by_count _ miscounted)
command_fails arguments name escape (argument ∷ given) gives miscounted nothing =
    subst FailsByMistake
    (sym (ap (fault_of mock_app) (parser_arguments-given arguments name escape argument given gives)))
    (by_count _ miscounted)

miscounted_at : (arguments : List Text) (name : Text) (count : ℕ) (escape : Escape) (given : List Text)
    → IsCommand name count → Gives arguments name escape given → length given ≢ count
    → FailsByMistake (fault arguments)
miscounted_at arguments name count escape given (inl (render, three)) gives wrong =
    command_fails arguments (codes "render") escape given (subst (λ n. Gives arguments n escape given) render gives)
    (miscounted_render given (λ e. wrong (e ∙ sym three))) nothing_to_render
miscounted_at arguments name count escape given (inr (inl (check, one))) gives wrong =
    command_fails arguments (codes "check") escape given (subst (λ n. Gives arguments n escape given) check gives)
    (miscounted_check given (λ e. wrong (e ∙ sym one))) nothing_to_check
miscounted_at arguments name count escape given (inr (inr (inl (answer, three)))) gives wrong =
    command_fails arguments (codes "answer") escape given (subst (λ n. Gives arguments n escape given) answer gives)
    (miscounted_answer given (λ e. wrong (e ∙ sym three))) nothing_to_answer
miscounted_at arguments name count escape given (inr (inr (inr (explain, three)))) gives wrong =
    command_fails arguments (codes "explain") escape given (subst (λ n. Gives arguments n escape given) explain gives)
    (miscounted_explain given (λ e. wrong (e ∙ sym three))) nothing_to_explain

by_mistake : (arguments : List Text) → AreInvalid arguments → FailsByMistake (fault arguments)
by_mistake arguments (inl short) = too_short arguments short
by_mistake arguments (inr (inl (program, name, rest, is, none, plain))) =
    subst FailsByMistake (sym (ap fault is)) (other_argument program name rest none plain)
by_mistake arguments (inr (inr (name, count, escape, given, command, gives, wrong))) =
    miscounted_at arguments name count escape given command gives wrong

pub fails_by_mistake : (arguments : List Text) → AreInvalid arguments
    → FailsByMistake (answers_to (parser_arguments arguments))
fails_by_mistake arguments bad =
    subst FailsByMistake (sym (answers (parser_arguments arguments))) (by_mistake arguments bad)
