-- Which arguments of the command line ask for which command, which call for help and which are invalid. The first of
-- them is the program's name. They are those that are left when the options of `answer` and `explain` are taken out
-- (`words_of`).
use Rattle.std.specs.Prelude.{◌≡◌, ◌≢◌, ◌⊎◌, ◌<◌, ⊤, ℕ, List, [], ◌∷◌, ◌++◌, length, codes}
use Rattle.template_tree.specs.declared.escape.Escape.{Escape}
use Rattle.template_tree.specs.declared.escape.Escape.TheVariants.{Off, Html}

-- a command with its arguments
pub data Asked : Type 0 where
  -- `render TEMPLATE METHOD URL`
  render : List ℕ → List ℕ → List ℕ → Asked
  -- `check FILE`, which may be a folder
  check : List ℕ → Asked
  -- `answer MAPPINGS METHOD URL`, where the first may be a folder
  answer : List ℕ → List ℕ → List ℕ → Asked
  -- `explain MAPPINGS METHOD URL`, likewise
  explain : List ℕ → List ℕ → List ℕ → Asked

abbrev pub name_of : Asked → List ℕ
name_of (render template method target) = codes "render"
name_of (check file) = codes "check"
name_of (answer file method target) = codes "answer"
name_of (explain file method target) = codes "explain"

abbrev pub given_to : Asked → List (List ℕ)
given_to (render template method target) = template ∷ method ∷ target ∷ []
given_to (check file) = file ∷ []
given_to (answer file method target) = file ∷ method ∷ target ∷ []
given_to (explain file method target) = file ∷ method ∷ target ∷ []

-- a command's name, and how many arguments it has
abbrev pub IsCommand : List ℕ → ℕ → Type 0
IsCommand name count =
    ((name ≡ codes "render") × (count ≡ 3)) ⊎ ((name ≡ codes "check") × (count ≡ 1))
    ⊎ ((name ≡ codes "answer") × (count ≡ 3)) ⊎ ((name ≡ codes "explain") × (count ≡ 3))

-- an argument that is taken as it is where a command's first one is expected: no call for help, not the flag for
-- escapes, and not the end of the flags
abbrev pub IsPlainArgument : List ℕ → Type 0
IsPlainArgument argument =
    (argument ≢ codes "-h") × (argument ≢ codes "--help") × (argument ≢ codes "--")
    × (argument ≢ codes "--html-escape")

-- there is no first argument, or it is plain
abbrev pub BeginsPlain : List (List ℕ) → Type 0
BeginsPlain [] = ⊤
BeginsPlain (first ∷ rest) = IsPlainArgument first

-- the flag by which the values that templates print are escaped
abbrev pub flags_of : Escape → List (List ℕ)
flags_of Off = []
flags_of Html = codes "--html-escape" ∷ []

-- `PROGRAM NAME GIVEN..`, or `PROGRAM NAME --html-escape GIVEN..`, where each of the given arguments is taken as it is;
-- after a `--` the first may be any
abbrev pub Gives : List (List ℕ) → List ℕ → Escape → List (List ℕ) → Type 0
Gives arguments name escape given = (program : List ℕ)
    × ((BeginsPlain given × (arguments ≡ program ∷ name ∷ (flags_of escape ++ given)))
    ⊎ (arguments ≡ program ∷ name ∷ (flags_of escape ++ codes "--" ∷ given)))

abbrev pub AsksFor : List (List ℕ) → Escape → Asked → Type 0
AsksFor arguments escape asked = Gives arguments (name_of asked) escape (given_to asked)

abbrev pub IsHelpFlag : List ℕ → Type 0
IsHelpFlag argument = (argument ≡ codes "-h") ⊎ (argument ≡ codes "--help")

-- help of the program or its version, or help of a command, also after its flag, whatever follows
abbrev pub CallsForHelp : List (List ℕ) → Type 0
CallsForHelp arguments = (program flag : List ℕ) × (rest : List (List ℕ))
    × (((IsHelpFlag flag ⊎ (flag ≡ codes "--version")) × (arguments ≡ program ∷ flag ∷ rest))
    ⊎ (IsHelpFlag flag × ((name : List ℕ) × (count : ℕ) × (escape : Escape) × IsCommand name count
    × (arguments ≡ program ∷ name ∷ (flags_of escape ++ flag ∷ rest)))))

abbrev pub BeginsWithDash : List ℕ → Type 0
BeginsWithDash argument = (rest : List ℕ) × (argument ≡ codes "-" ++ rest)

-- the argument after the program's name is neither a command nor a flag
abbrev pub NamesNoCommand : List (List ℕ) → Type 0
NamesNoCommand arguments = (program name : List ℕ) × (rest : List (List ℕ))
    × (arguments ≡ program ∷ name ∷ rest) × ((count : ℕ) → ¬ (IsCommand name count))
    × (¬ (BeginsWithDash name))

-- a command with too few or too many arguments
abbrev pub HasWrongCount : List (List ℕ) → Type 0
HasWrongCount arguments = (name : List ℕ) × (count : ℕ) × (escape : Escape) × (given : List (List ℕ))
    × IsCommand name count × Gives arguments name escape given × (length given ≢ count)

-- no command, an unknown one, or a wrong number of arguments
abbrev pub AreInvalid : List (List ℕ) → Type 0
AreInvalid arguments = (length arguments < 2) ⊎ NamesNoCommand arguments ⊎ HasWrongCount arguments
