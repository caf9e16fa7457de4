-- What the parser makes of arguments that ask for no command.
use Rattle.std.proofs.Common.{◌≡◌, ◌≢◌, ◌⊎◌, ◌==◌, ℕ, Bool, true, false, List, [], ◌∷◌, length, codes, Option, Some}
use Rattle.std.proofs.Common.{None, ◌||◌, if◌then◌else◌, refl, sym, ap, ap₂, ◌∙◌, inl, inr, is_some}
use Rattle.std.specs.Prelude.{◌&&◌, option_and_then, option_map}
use Rattle.std.specs.Option.{option_map_or}
use Rattle.std.specs.Str.{bytes_eq}
use Rattle.clap.specs.Walk.{Text, Walk, finished, idle, long_or_other, nothing_held, settled, short_or_plain}
use Rattle.clap.specs.Walk.{subcommand_met, subcommand_or_other, trailing, walk, walk_from, walked}
use Rattle.clap.specs.Lexer.{long_of, long_of_rest, short_of, short_of_rest, strip_byte}
use Rattle.clap.specs.Simple.{App, built, entered, names_of}
use Rattle.clap.specs.Kinds.{Kinds, or_else}
use Rattle.clap.specs.Faults.{bundle_fault, check_fault, defaults_fault, entered_fault, fault_of, flag_word_fault}
use Rattle.clap.specs.Faults.{is_simple_and_free, other_fault, settle_fault, step_fault, walk_fault}
use Rattle.clap.specs.declared.error.kind.ErrorKind.TheVariants as kind
use Rattle.clap.proofs.OnLiterals.{clap_on_literals}
use Rattle.clap.proofs.FaultLemmas.{stopped_fault}
use Rattle.clap.proofs.WalkLemmas.{walk_stopped}
use Rattle.mock_program.specs.Inner.Parser.{answers_to, mock_app}

pub is_judged : is_simple_and_free mock_app ≡ true
is_judged = refl

pub answers_are : (a : App) (arguments : List Text) → a ≡ mock_app → answers_to arguments ≡ fault_of a arguments
unfolding answers_to
answers_are a arguments e = ap (λ (m : App). fault_of m arguments) (sym e)

abbrev app : App
app = built mock_app

-- where the walk over the arguments of the program ends, which come to a command
abbrev at : Text → List Text → Walk
at name arguments = record (walk_from nothing_held) { stopped = Some (name, arguments) }

-- the fault after a walk that found none, by where it ended
abbrev below : Walk → Kinds
below end =
    or_else (entered_fault app end.stopped)
    (or_else (settle_fault app.top.rules app.top.args_override_self end.held)
    (or_else (defaults_fault (settled app.top.rules end.held).rows app.top.rules)
    (check_fault app.top (finished app.top.rules end.held) (is_some (entered app end.stopped)))))

-- ---- arguments of the program

pub help_of_mock : (rest : List Text)
    → fault_of mock_app (codes "mock" ∷ codes "--help" ∷ rest) ≡ kind.DisplayHelp ∷ []
unfolding clap_on_literals
help_of_mock rest = refl

pub short_help_of_mock : (rest : List Text)
    → fault_of mock_app (codes "mock" ∷ codes "-h" ∷ rest) ≡ kind.DisplayHelp ∷ []
unfolding clap_on_literals
short_help_of_mock rest = refl

pub version_of_mock : (rest : List Text)
    → fault_of mock_app (codes "mock" ∷ codes "--version" ∷ rest) ≡ kind.DisplayVersion ∷ []
unfolding clap_on_literals
version_of_mock rest = refl

pub no_command : fault_of mock_app (codes "mock" ∷ [])
    ≡ kind.DisplayHelpOnMissingArgumentOrSubcommand ∷ []
unfolding clap_on_literals
no_command = refl

pub empty_command : (rest : List Text)
    → fault_of mock_app (codes "mock" ∷ [] ∷ rest) ≡ kind.UnknownArgument ∷ kind.InvalidSubcommand ∷ []
unfolding clap_on_literals
empty_command rest = refl

-- the fault of a first argument, by the command that it names
abbrev first_fault : Text → Option Text → Kinds
first_fault argument met = or_else (other_fault app.top met argument nothing_held)
    (step_fault app.top 1 (subcommand_or_other app.top.rules met idle 1 argument nothing_held).0
    (subcommand_or_other app.top.rules met idle 1 argument nothing_held).1)

names_none : (argument : Text) → bytes_eq (codes "render") argument ≡ false
    → bytes_eq (codes "check") argument ≡ false → bytes_eq (codes "answer") argument ≡ false
    → bytes_eq (codes "explain") argument ≡ false → subcommand_met (names_of app) idle argument ≡ None
names_none argument no_render no_check no_answer no_explain = λ i.
    option_map (λ (s : Text × List Text). s.0)
    (if no_render i || false then Some (codes "render", [])
    else (if no_check i || false then Some (codes "check", [])
    else (if no_answer i || false then Some (codes "answer", [])
    else (if no_explain i || false then Some (codes "explain", []) else None))))

-- the same, by whether the argument is two dashes, and by what it is as a long flag
abbrev flag_fault : Text → Bool → Option (Text × Option Text) → Kinds
flag_fault argument dashes long =
    or_else
    (if dashes then [] else flag_word_fault app.top.rules app.top.args_override_self long argument nothing_held)
    (step_fault app.top 1
    (if dashes then (nothing_held, trailing 1) else long_or_other app.top.rules idle argument long nothing_held).0
    (if dashes then (nothing_held, trailing 1) else long_or_other app.top.rules idle argument long nothing_held).1)

-- and by what it is as short flags, where it is no long one
abbrev bundle_fault_of : Text → Option Text → Kinds
bundle_fault_of argument short =
    or_else (option_map_or
    (λ flags. bundle_fault app.top.rules app.top.args_override_self flags nothing_held) short [])
    (step_fault app.top 1 (short_or_plain app.top.rules idle argument short nothing_held).0
    (short_or_plain app.top.rules idle argument short nothing_held).1)

is_stray : (c : ℕ) (cs : List ℕ) → c == 45 ≡ false
    → first_fault (c ∷ cs) None ≡ kind.UnknownArgument ∷ kind.InvalidSubcommand ∷ []
unfolding clap_on_literals
is_stray c cs dash =
    let dashes : bytes_eq (c ∷ cs) (45 ∷ 45 ∷ []) ≡ false =
    ap (λ (t : Bool). t && bytes_eq cs (45 ∷ [])) dash in
    let long : long_of (c ∷ cs) ≡ None =
    ap (λ (t : Bool). option_and_then long_of_rest
    (option_and_then (strip_byte 45) (if t then Some cs else None))) dash in
    let short : short_of (c ∷ cs) ≡ None =
    ap (λ (t : Bool). option_and_then short_of_rest (if t then Some cs else None)) dash in
    ap₂ (flag_fault (c ∷ cs)) dashes long ∙ ap (bundle_fault_of (c ∷ cs)) short

pub other_command : (c : ℕ) (cs : List ℕ) (rest : List Text) → bytes_eq (codes "render") (c ∷ cs) ≡ false
    → bytes_eq (codes "check") (c ∷ cs) ≡ false → bytes_eq (codes "answer") (c ∷ cs) ≡ false
    → bytes_eq (codes "explain") (c ∷ cs) ≡ false → c == 45 ≡ false
    → fault_of mock_app (codes "mock" ∷ (c ∷ cs) ∷ rest)
    ≡ kind.UnknownArgument ∷ kind.InvalidSubcommand ∷ []
unfolding clap_on_literals
other_command c cs rest no_render no_check no_answer no_explain dash =
    ap (λ (k : Kinds). or_else
    (or_else k (walk_fault app.top (names_of app)
    (walked app.top.rules (names_of app) (walk_from nothing_held) (c ∷ cs)) rest))
    (below (walk app.top.rules (names_of app) nothing_held ((c ∷ cs) ∷ rest))))
    (ap (first_fault (c ∷ cs)) (names_none (c ∷ cs) no_render no_check no_answer no_explain) ∙ is_stray c cs dash)

-- ---- arguments of a command

of_render : (arguments : List Text)
    → fault_of mock_app (codes "mock" ∷ codes "render" ∷ arguments) ≡ below (at (codes "render") arguments)
unfolding clap_on_literals
of_render arguments =
    ap₂ (λ (k : Kinds) (end : Walk). or_else k (below end))
    (stopped_fault app.top (names_of app) (walk_from nothing_held) (codes "render", []) arguments)
    (sym (walk_stopped app.top.rules (names_of app) (walk_from nothing_held) (codes "render") [] arguments))

of_check : (arguments : List Text)
    → fault_of mock_app (codes "mock" ∷ codes "check" ∷ arguments) ≡ below (at (codes "check") arguments)
unfolding clap_on_literals
of_check arguments =
    ap₂ (λ (k : Kinds) (end : Walk). or_else k (below end))
    (stopped_fault app.top (names_of app) (walk_from nothing_held) (codes "check", []) arguments)
    (sym (walk_stopped app.top.rules (names_of app) (walk_from nothing_held) (codes "check") [] arguments))

of_answer : (arguments : List Text)
    → fault_of mock_app (codes "mock" ∷ codes "answer" ∷ arguments) ≡ below (at (codes "answer") arguments)
unfolding clap_on_literals
of_answer arguments =
    ap₂ (λ (k : Kinds) (end : Walk). or_else k (below end))
    (stopped_fault app.top (names_of app) (walk_from nothing_held) (codes "answer", []) arguments)
    (sym (walk_stopped app.top.rules (names_of app) (walk_from nothing_held) (codes "answer") [] arguments))

of_explain : (arguments : List Text)
    → fault_of mock_app (codes "mock" ∷ codes "explain" ∷ arguments) ≡ below (at (codes "explain") arguments)
unfolding clap_on_literals
of_explain arguments =
    ap₂ (λ (k : Kinds) (end : Walk). or_else k (below end))
    (stopped_fault app.top (names_of app) (walk_from nothing_held) (codes "explain", []) arguments)
    (sym (walk_stopped app.top.rules (names_of app) (walk_from nothing_held) (codes "explain") [] arguments))

pub help_of_render : (rest : List Text)
    → fault_of mock_app (codes "mock" ∷ codes "render" ∷ codes "--help" ∷ rest) ≡ kind.DisplayHelp ∷ []
unfolding clap_on_literals
help_of_render rest = of_render (codes "--help" ∷ rest)

pub short_help_of_render : (rest : List Text)
    → fault_of mock_app (codes "mock" ∷ codes "render" ∷ codes "-h" ∷ rest) ≡ kind.DisplayHelp ∷ []
unfolding clap_on_literals
short_help_of_render rest = of_render (codes "-h" ∷ rest)

pub help_of_check : (rest : List Text)
    → fault_of mock_app (codes "mock" ∷ codes "check" ∷ codes "--help" ∷ rest) ≡ kind.DisplayHelp ∷ []
unfolding clap_on_literals
help_of_check rest = of_check (codes "--help" ∷ rest)

pub short_help_of_check : (rest : List Text)
    → fault_of mock_app (codes "mock" ∷ codes "check" ∷ codes "-h" ∷ rest) ≡ kind.DisplayHelp ∷ []
unfolding clap_on_literals
short_help_of_check rest = of_check (codes "-h" ∷ rest)

pub help_of_answer : (rest : List Text)
    → fault_of mock_app (codes "mock" ∷ codes "answer" ∷ codes "--help" ∷ rest) ≡ kind.DisplayHelp ∷ []
unfolding clap_on_literals
help_of_answer rest = of_answer (codes "--help" ∷ rest)

pub help_of_explain : (rest : List Text)
    → fault_of mock_app (codes "mock" ∷ codes "explain" ∷ codes "--help" ∷ rest) ≡ kind.DisplayHelp ∷ []
unfolding clap_on_literals
help_of_explain rest = of_explain (codes "--help" ∷ rest)

pub short_help_of_answer : (rest : List Text)
    → fault_of mock_app (codes "mock" ∷ codes "answer" ∷ codes "-h" ∷ rest) ≡ kind.DisplayHelp ∷ []
unfolding clap_on_literals
short_help_of_answer rest = of_answer (codes "-h" ∷ rest)

pub short_help_of_explain : (rest : List Text)
    → fault_of mock_app (codes "mock" ∷ codes "explain" ∷ codes "-h" ∷ rest) ≡ kind.DisplayHelp ∷ []
unfolding clap_on_literals
short_help_of_explain rest = of_explain (codes "-h" ∷ rest)

pub nothing_to_render : fault_of mock_app (codes "mock" ∷ codes "render" ∷ [])
    ≡ kind.MissingRequiredArgument ∷ []
unfolding clap_on_literals
nothing_to_render = refl

pub nothing_to_check : fault_of mock_app (codes "mock" ∷ codes "check" ∷ []) ≡ kind.MissingRequiredArgument ∷ []
unfolding clap_on_literals
nothing_to_check = refl

pub nothing_to_answer : fault_of mock_app (codes "mock" ∷ codes "answer" ∷ [])
    ≡ kind.MissingRequiredArgument ∷ []
unfolding clap_on_literals
nothing_to_answer = refl

pub nothing_to_explain : fault_of mock_app (codes "mock" ∷ codes "explain" ∷ [])
    ≡ kind.MissingRequiredArgument ∷ []
unfolding clap_on_literals
nothing_to_explain = refl

-- an argument is missing, or one is too many
abbrev pub IsMiscounted : Kinds → Type 0
IsMiscounted kinds = (kinds ≡ kind.MissingRequiredArgument ∷ []) ⊎ (kinds ≡ kind.UnknownArgument ∷ [])

pub miscounted_render : (given : List Text) → length given ≢ 3
    → IsMiscounted (fault_of mock_app (codes "mock" ∷ codes "render" ∷ codes "--" ∷ given))
unfolding clap_on_literals
miscounted_render [] count = inl refl
miscounted_render (a ∷ []) count = inl refl
miscounted_render (a ∷ b ∷ []) count = inl refl
miscounted_render (a ∷ b ∷ c ∷ []) count = absurd (count refl)
miscounted_render (a ∷ b ∷ c ∷ d ∷ rest) count = inr (of_render (codes "--" ∷ a ∷ b ∷ c ∷ d ∷ rest))

pub miscounted_check : (given : List Text) → length given ≢ 1
    → IsMiscounted (fault_of mock_app (codes "mock" ∷ codes "check" ∷ codes "--" ∷ given))
unfolding clap_on_literals
miscounted_check [] count = inl refl
miscounted_check (a ∷ []) count = absurd (count refl)
miscounted_check (a ∷ b ∷ rest) count = inr (of_check (codes "--" ∷ a ∷ b ∷ rest))

pub miscounted_answer : (given : List Text) → length given ≢ 3
    → IsMiscounted (fault_of mock_app (codes "mock" ∷ codes "answer" ∷ codes "--" ∷ given))
unfolding clap_on_literals
miscounted_answer [] count = inl refl
miscounted_answer (a ∷ []) count = inl refl
miscounted_answer (a ∷ b ∷ []) count = inl refl
miscounted_answer (a ∷ b ∷ c ∷ []) count = absurd (count refl)
miscounted_answer (a ∷ b ∷ c ∷ d ∷ rest) count = inr (of_answer (codes "--" ∷ a ∷ b ∷ c ∷ d ∷ rest))

pub miscounted_explain : (given : List Text) → length given ≢ 3
    → IsMiscounted (fault_of mock_app (codes "mock" ∷ codes "explain" ∷ codes "--" ∷ given))
unfolding clap_on_literals
miscounted_explain [] count = inl refl
miscounted_explain (a ∷ []) count = inl refl
miscounted_explain (a ∷ b ∷ []) count = inl refl
miscounted_explain (a ∷ b ∷ c ∷ []) count = absurd (count refl)
miscounted_explain (a ∷ b ∷ c ∷ d ∷ rest) count = inr (of_explain (codes "--" ∷ a ∷ b ∷ c ∷ d ∷ rest))
