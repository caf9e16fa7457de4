use Rattle.std.proofs.Common.{◌+◌, ◌++◌, ◌∷◌, [], take, sym, ap, subst, ◌∙◌}
use Rattle.mapping_model.specs.declared.request_spec.RequestSpec.{RequestSpec}
use Rattle.request_match.specs.Matching.{MeetsRequest}
use Rattle.request_journal.specs.Journal.{Picks}
use Rattle.request_journal.specs.declared.entry.Entry.{Entry}
use Rattle.book_history.proofs.VisibleLemmas.{turn_picked, turn_left_out}
use Rattle.book_history.proofs.pick.pick.Goals as goal
use Rattle.book_history.proofs.pick.pick.Goals.{then-branch+in_ok-try_clone+in_ok-push, else-branch}

pub loop-entry-preserved : goal.loop-entry-preserved
loop-entry-preserved c =
    let items = c.args.entries.now in
    let index = c.loop-entry.entry-index in
    let entry = c.entry-item.result in (
      c.meets.ensures.same ∙ c.loop-entry.invariant.0,
      elim c.if-branch.branch
          as (λ _. Picks {X = Entry} (λ e. MeetsRequest c.args.matcher.now e.request) (take (index + 1) items)
          c.if-branch.found.items) [
            | then-branch+in_ok-try_clone+in_ok-push w ↦
                turn_picked (λ (e : Entry). MeetsRequest c.args.matcher.now e.request) items index entry
                c.loop-entry-test.true c.entry-item.is c.loop-entry.found.items c.loop-entry.invariant.1
                (subst (λ (m : RequestSpec). MeetsRequest m entry.request) c.loop-entry.invariant.0
                (c.in_ok-meets.ensures.answer.0 cc))
                c.if-branch.found.items
                (rw w.found-is (w.in_ok-push.ensures.items
                ∙ ap (λ (e : Entry). c.loop-entry.found.items ++ e ∷ []) w.in_ok-try_clone.ensures))
            | else-branch w ↦
                turn_left_out (λ (e : Entry). MeetsRequest c.args.matcher.now e.request) items index entry
                c.loop-entry-test.true c.entry-item.is c.loop-entry.found.items c.loop-entry.invariant.1
                (λ meets. let yes = c.in_ok-meets.ensures.answer.1
                (subst (λ (m : RequestSpec). MeetsRequest m entry.request) (sym c.loop-entry.invariant.0) meets) in
                absurd cc)
                c.if-branch.found.items cc
          ],
    )
