-- Runs, one after the other.
use Rattle.std.proofs.Common.{◌≡◌, ◌+◌, ℕ, suc, List, [], ◌∷◌, ◌++◌, length, take, Option, refl}
use Rattle.std.proofs.Common.{sym, ap, ◌∙◌, subst, arith, length-append}
use Rattle.std.proofs.Math.Seq.{take-append_seam}
use Rattle.std.proofs.lemmas.List.{length-map, map-append}
use Rattle.mapping_model.specs.declared.reply.Reply.{Reply}
use Rattle.request_journal.specs.declared.event.Event.{Event}
use Rattle.world_core.specs.Schedule.{IsRun, IsStep, IsStopped, Outcome, Runs, WorldState}
use Rattle.world_core.specs.declared.step.Step.{Step}

same_length : (m n : ℕ) → suc m ≡ suc n → m ≡ n
same_length m n e = cc

-- a run of two lists of steps
pub run_split : (start end : WorldState) (steps more : List Step) (outcomes late : List Outcome)
    → IsRun start (steps ++ more) (outcomes ++ late) end → length steps ≡ length outcomes
    → (between : WorldState) × IsRun start steps outcomes between × IsRun between more late end
run_split start end [] more [] late run len = (start, (refl, refl), run)
run_split start end [] more (outcome ∷ outcomes) late run len = cc
run_split start end (step ∷ steps) more [] late run len = cc
run_split start end (step ∷ steps) more (outcome ∷ outcomes) late (next, first, rest) len =
    let parts = run_split next end steps more outcomes late rest (same_length (length steps) (length outcomes) len) in
    (parts.0, (next, first, parts.1), parts.2)

-- one step more
pub run_on : (start end next : WorldState) (steps : List Step) (outcomes : List Outcome)
    (step : Step) (outcome : Outcome) → IsRun start steps outcomes end → IsStep end step outcome next
    → IsRun start (steps ++ step ∷ []) (outcomes ++ outcome ∷ []) next
run_on start end next [] [] step outcome (none, same) more =
    (next, subst (λ (w : WorldState). IsStep w step outcome next) same more, (refl, refl))
run_on start end next [] (o ∷ outcomes) step outcome (none, same) more = cc
run_on start end next (s ∷ steps) [] step outcome run more = absurd run
run_on start end next (s ∷ steps) (o ∷ outcomes) step outcome (between, first, rest) more =
    (between, first, run_on between end next steps outcomes step outcome rest more)

-- as many outcomes as steps
pub run_length : (start end : WorldState) (steps : List Step) (outcomes : List Outcome)
    → IsRun start steps outcomes end → length steps ≡ length outcomes
run_length start end [] outcomes (none, same) = sym (ap length none)
run_length start end (step ∷ steps) [] run = absurd run
run_length start end (step ∷ steps) (outcome ∷ outcomes) (between, first, rest) =
    ap suc (run_length between end steps outcomes rest)

-- ---- runs with their replies

pub runs_none : (start : WorldState) → Runs start [] [] start
runs_none start = ([], (refl, refl), refl)

pub runs_on : (start end next : WorldState) (steps : List Step) (replies : List (Option Reply)) (step : Step)
    (event : Option Event) (reply : Option Reply) → Runs start steps replies end
    → IsStep end step (record { event = event; reply = reply }) next
    → Runs start (steps ++ step ∷ []) (replies ++ reply ∷ []) next
runs_on start end next steps replies step event reply (outcomes, run, are) more =
    let last : Outcome = record { event = event; reply = reply } in (
      outcomes ++ last ∷ [],
      run_on start end next steps outcomes step last run more,
      ap (λ (l : List (Option Reply)). l ++ reply ∷ []) are
          ∙ sym (map-append (λ (o : Outcome). o.reply) outcomes (last ∷ [])),
    )

-- a run that goes no further than these steps
pub stopped : (start end new : WorldState) (steps front rest : List Step) (step : Step) (replies : List (Option Reply))
    → steps ≡ front ++ step ∷ rest → Runs start front replies end → new ≡ end
    → IsStopped start steps (length replies) new
stopped start end new steps front rest step replies whole (outcomes, run, are) same =
    let made : length replies ≡ length front =
    ap length are ∙ length-map outcomes (λ (o : Outcome). o.reply)
    ∙ sym (run_length start end front outcomes run) in
    let taken : take (length replies) steps ≡ front =
    ap (λ (n : ℕ). take n steps) made ∙ ap (take (length front)) whole
    ∙ take-append_seam front (step ∷ rest) in
    let all : length steps ≡ length front + length (step ∷ rest) =
    ap length whole ∙ length-append front (step ∷ rest) in (
      omega (arith, made, all),
      (
        outcomes,
        subst (λ (w : WorldState). IsRun start (take (length replies) steps) outcomes w) (sym same)
            (subst (λ (ss : List Step). IsRun start ss outcomes end) (sym taken) run),
      ),
    )
