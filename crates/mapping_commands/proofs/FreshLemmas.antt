-- A book that was just opened has room, and sends nothing on.
use Rattle.std.proofs.Common.{ℕ, List, subst, arith}
use Rattle.mapping_model.specs.declared.mapping_spec.MappingSpec.{MappingSpec}
use Rattle.mock_request.specs.Request.{Request}
use Rattle.request_journal.specs.Choice.{IsChoice}
use Rattle.request_journal.specs.Past.{Past, opened}
use Rattle.request_journal.specs.declared.event.ServeAnswer.{ServeAnswer}
use Rattle.request_journal.specs.declared.event.ServeAnswer.TheVariants.{Stub, Proxy, Unmatched}
use Rattle.stub_book.specs.Refusals.{IsFull}
use Rattle.template_tree.specs.declared.escape.Escape.{Escape}
use Rattle.mapping_commands.specs.Fresh.{IsFresh}
use Rattle.mapping_commands.specs.Inner.Own.{IsOwn}

pub has_room : (escape : Escape) (documents : List (List ℕ)) (past : Past) → IsFresh escape documents past
    → ¬ (IsFull past)
has_room escape documents past (mappings, spelled, is, few) full =
    let none : ¬ (IsFull (opened 0 mappings)) = λ f. absurd (omega (arith, f)) in
    none (subst IsFull is full)

own_answer : (mappings : List MappingSpec) (request : Request) (answer : ServeAnswer)
    → IsChoice (opened 0 mappings) request answer → IsOwn answer
own_answer mappings request (Stub captured) chosen = tt
own_answer mappings request (Proxy target) chosen = chosen.1
own_answer mappings request Unmatched chosen = tt

pub is_own : (escape : Escape) (documents : List (List ℕ)) (past : Past) (request : Request) (answer : ServeAnswer)
    → IsFresh escape documents past
    → IsChoice past request answer → IsOwn answer
is_own escape documents past request answer (mappings, spelled, is, few) chosen =
    own_answer mappings request answer (subst (λ p. IsChoice p request answer) is chosen)
