-- What holds of all runs.
use Rattle.std.specs.Prelude.{◌≡◌, ℕ, ◌<◌, List, length, Some, slice_get}
use Rattle.data_tree.specs.Tree.{Tree}
use Rattle.data_tree.specs.Parts.{items}
use Rattle.template_code.specs.Code.{StackCode}
use Rattle.template_code.specs.Finds.{FindSame}
use Rattle.template_code.specs.Machine.{Loop, State, first, Reaches, EndsAt, Runs}

-- two runs from one state that end have the same steps and the same last state
abbrev pub RunsEndAlike : Type 0
RunsEndAlike =
    (code : StackCode) (root : Tree) (s : State) (m n : ℕ) (t u : State) →
    EndsAt code root s m t → EndsAt code root s n u → (m ≡ n) × (t ≡ u)

-- a loop that is open is at one of its items
abbrev pub EachLoopHasItem : Type 0
EachLoopHasItem =
    (code : StackCode) (root : Tree) (moves : ℕ) (s : State) → Reaches code root moves first s →
    (k : ℕ) (l : Loop) → slice_get s.loops k ≡ Some l → l.turn < length (items l.over)

-- a run over one root is one over each other root in which the code finds the same
abbrev pub RunsReadWhatIsFound : Type 0
RunsReadWhatIsFound =
    (code : StackCode) (r r' : Tree) (steps : ℕ) (text : List ℕ) → FindSame code r r' →
    Runs code r steps text → Runs code r' steps text
