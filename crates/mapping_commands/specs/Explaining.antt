-- Which mapping `mock explain` says answers: the one that a book chooses that was just opened with the documents'
-- mappings, and whose scenarios were set to the given states.
use Rattle.std.specs.Prelude.{◌≡◌, ⊤, ℕ, Bool, true, false, List, [], ◌∷◌, ◌++◌, Option, codes, decimal, if◌then◌else◌}
use Rattle.command_output.specs.Ends.{Ends, EndsOnFiles}
use Rattle.mapping_commands.specs.Answering.{IsRequest, Sent, SpellDocuments}
use Rattle.mapping_commands.specs.declared.explain.Form.{Form}
use Rattle.mapping_commands.specs.declared.explain.Form.TheVariants.{Coloured, Json, Text}
use Rattle.mapping_commands.specs.declared.explanation.GivenState.{GivenState}
use Rattle.mapping_model.specs.declared.mapping_spec.MappingSpec.{MappingSpec}
use Rattle.mock_request.specs.Request.{Request}
use Rattle.request_journal.specs.Choice.{IsChoice}
use Rattle.request_journal.specs.Past.{Past, opened}
use Rattle.request_journal.specs.declared.event.ServeAnswer.{ServeAnswer}
use Rattle.request_journal.specs.declared.event.ServeAnswer.TheVariants.{Proxy, Stub, Unmatched}
use Rattle.request_journal.specs.declared.input.BookInput.TheVariants.{SetScenario}
use Rattle.stub_book.specs.Growth.{IsAccepted}
use Rattle.stub_book.specs.declared.accepted.Accepted.{Accepted}
use Rattle.template_tree.specs.declared.escape.Escape.{Escape}
use Rattle.uuid.specs.Text.{hyphenated_text, lower}

-- a scenario and its state
abbrev pub given_of : GivenState → List ℕ × List ℕ
given_of given = (given.scenario.now, given.state.now)

-- the scenario was set to the state, by a call of the book
unfoldable pub IsSetTo : List ℕ → List ℕ → Past → Past → Type 0
IsSetTo scenario state old new = (accepted : Accepted) × IsAccepted old new (SetScenario scenario state) accepted

-- each scenario was set to its state, one after another
abbrev pub AreSet : List (List ℕ × List ℕ) → Past → Past → Type 0
AreSet [] old new = old ≡ new
AreSet ((scenario, state) ∷ states) old new =
    (next : Past) × IsSetTo scenario state old next × AreSet states next new

-- what that book answers the request with
pub record IsChosenFor (escape : Escape) (documents : List (List ℕ)) (sent : Sent) (states : List (List ℕ × List ℕ))
    (answer : ServeAnswer) : Type 0 where
  pub mappings : List MappingSpec
  pub spelled : SpellDocuments escape documents mappings
  pub past : Past
  pub set : AreSet states (opened 0 mappings) past
  pub request : Request
  pub asked : IsRequest sent request
  pub chosen : IsChoice past request answer

-- whether a mapping answers
abbrev pub is_answered : ServeAnswer → Bool
is_answered (Stub captured) = true
is_answered (Proxy target) = false
is_answered Unmatched = false

-- how the first line begins: as `mapping 2 (id 3f83df0b-a3bf-5f1c-9b5c-bffae2bac110` with the id of the mapping that answers
abbrev pub front_of : ℕ → ServeAnswer → List ℕ
front_of number (Stub captured) =
    codes "mapping " ++ (decimal number ++ (codes " (id " ++ hyphenated_text lower captured.mapping.id))
front_of number (Proxy target) = codes "no mapping answers: status "
front_of number Unmatched = codes "no mapping answers: status "

abbrev pub NamesMapping : ServeAnswer → List ℕ → Type 0
NamesMapping answer text = (number : ℕ) × (rest : List ℕ) × (text ≡ front_of number answer ++ rest)

-- of what is printed as JSON nothing is said
abbrev pub IsSaidBy : Form → ServeAnswer → List ℕ → Type 0
IsSaidBy Text answer text = NamesMapping answer text
IsSaidBy Coloured answer text = NamesMapping answer text
IsSaidBy Json answer text = ⊤

-- what it says, and the exit status: 0 where a mapping answers
abbrev pub IsExplanation : Escape → List (List ℕ) → Sent → List (List ℕ × List ℕ) → Form → List ℕ → ℕ → Type 0
IsExplanation escape documents sent states form text status =
    (answer : ServeAnswer) × IsChosenFor escape documents sent states answer × IsSaidBy form answer text
    × (status ≡ (if is_answered answer then 0 else 1))

-- how an explanation ends: it says which mapping answers, or an error is on standard error
abbrev pub Explains : {O E : Type 0} → (O → Option (List ℕ)) → (E → Option (List ℕ)) → Escape → List (List ℕ) → Sent
    → List (List ℕ × List ℕ) → Form → O → O → E → E → ℕ → Type 0
Explains out_holds err_holds escape documents sent states form =
    Ends out_holds err_holds (IsExplanation escape documents sent states form) (λ _. ⊤)

-- how `mock explain` ends
abbrev pub ExplainsFiles : {O E : Type 0} → (O → Option (List ℕ)) → (E → Option (List ℕ)) → Escape
    → Option (List (List ℕ)) → (List ℕ → Option (List ℕ)) → List ℕ → Sent → List (List ℕ × List ℕ) → Form
    → O → O → E → E → ℕ → Type 0
ExplainsFiles out_holds err_holds escape listed known path sent states form =
    EndsOnFiles out_holds err_holds listed known path
    (λ documents. Explains out_holds err_holds escape documents sent states form)
