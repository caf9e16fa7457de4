-- The state that a body asks for: `{"state":"two"}`, or no body, which asks for the state in which scenarios begin.
use Rattle.std.specs.Prelude.{◌≡◌, ◌≢◌, ◌⊎◌, ℕ, List, [], ◌∷◌, codes}
use Rattle.admin_json.specs.Bodies.{IsReadAs}
use Rattle.admin_json.specs.declared.error.BodyError.{BodyError}
use Rattle.admin_json.specs.declared.error.BodyError.TheVariants.{Document, OutOfMemory}
use Rattle.json_reading.specs.Fields.{only, text_field}
use Rattle.json_reading.specs.Reading.{needed}
use Rattle.json_reading.specs.declared.kind.Kind.TheVariants.{Misshapen}
use Rattle.json_reading.specs.declared.reading.Reading.{Reading}
use Rattle.json_reading.specs.declared.reading.Reading.TheVariants.{Read, Wrong}
use Rattle.scenario_core.specs.Scenarios.{started}
use Rattle.serde_json.specs.Data.{Data}

-- however a part is wrong, it has a wrong shape
abbrev pub misshapen : {A : Type 0} → Reading A → Reading A
misshapen (Read a) = Read a
misshapen (Wrong kind) = Wrong Misshapen

-- an object whose one field is the state, a text
abbrev pub reading_of_state : Data → Reading (List ℕ)
reading_of_state d = misshapen (only (codes "state" ∷ []) d (needed (text_field (codes "state") d)))

abbrev pub AsksFor : List ℕ → List ℕ → Type 0
AsksFor body state =
    ((body ≡ []) × (state ≡ started)) ⊎ ((body ≢ []) × IsReadAs reading_of_state body (Read state))

-- memory may run out before another reason is found
abbrev pub IsStateError : List ℕ → BodyError → Type 0
IsStateError body (Document kind) = (body ≢ []) × IsReadAs reading_of_state body (Wrong kind)
IsStateError body OutOfMemory = Unit {0}
