use Rattle.std.proofs.Common.{◌≡◌, ℕ, ◌+◌, List, All, length, ap, ◌∙◌, subst}
use Rattle.std.proofs.lemmas.List.Elements.{All-weaker}
use Rattle.std.specs.List.{range_with_len}
use Rattle.std.specs.List.Sorted.{IsPermutation}
use Rattle.std.specs.Prelude.{MatchOption, Option}
use Rattle.request_journal.specs.Past.{Past, last_number}
use Rattle.shared_book.proofs.EventLemmas.{events_are_kept}
use Rattle.shared_book.proofs.RefusalLemmas.{unsettled_miscounted}
use Rattle.shared_book.specs.Held.{all_lists, all_numbers, receipts_of}
use Rattle.shared_book.specs.Inner.Misplaced.{IsWellPlaced}
use Rattle.shared_book.specs.Receipts.{IsRising, LetGoUpTo, Line}
use Rattle.shared_book.specs.Settled.{IsMiscounted}
use Rattle.shared_book.specs.declared.receipt.Receipt.{Receipt}
use Rattle.shared_book.proofs.compare.compare.Goals as goal

pub returns-in-Ok-Some-clause-why : goal.returns-in-Ok-Some-clause-why
returns-in-Ok-Some-clause-why g c =
    unsettled_miscounted g.L.Origin.origin g.L.Ledger.parts c.args.book.now c.args.seats.now
    c.in-Ok-Some.number c.mismatch-in-Ok-Some.result c.requires.parts c.mismatch-in-Ok-Some.ensures c.args.start
    c.requires.start
    (subst (λ (found : Option ℕ). MatchOption found
    (IsPermutation (all_numbers (all_lists c.args.seats.now))
    (range_with_len (c.args.start + 1) (length (all_numbers (all_lists c.args.seats.now)))))
    (IsMiscounted c.args.start (all_numbers (all_lists c.args.seats.now)))) c.in-Ok-Some.field-0-is
    c.in-Ok-Some.ensures)

pub returns-clause-settled : goal.returns-clause-settled
returns-clause-settled g c =
    let origin : Past = g.L.Origin.origin in
    let past : Past = c.args.book.now in
    let lines : List Line = all_lists c.args.seats.now in
    let rs : List Receipt = c.sorted-receipts.result.items in
    let events : c.event_count-events.result ≡ last_number past = c.event_count-events.ensures.value in
    let start : c.args.start ≡ last_number origin = c.requires.start in
    let placed : All (IsWellPlaced past.base.number) lines =
    subst (λ (b : ℕ). All (IsWellPlaced b) lines) c.base_of.ensures c.in_default.ensures in
    let moved : IsPermutation (receipts_of lines) rs =
    subst (λ (l : List Receipt). IsPermutation l rs) c.in-Ok.ensures c.sorted-receipts.ensures.moved in
    record {
      lawful = c.requires.lawful;
      past_of = c.requires.past_of;
      legal = c.event_count-events.ensures.legal;
      events = events;
      counted = events ∙ c.requires.counted ∙ ap (λ (s : ℕ). s + length (all_numbers lines)) start;
      numbered = subst (λ (s : ℕ).
          IsPermutation (all_numbers lines) (range_with_len (s + 1) (length (all_numbers lines))))
          start
          (subst (λ (found : Option ℕ). MatchOption found
          (IsPermutation (all_numbers lines) (range_with_len (c.args.start + 1) (length (all_numbers lines))))
          (IsMiscounted c.args.start (all_numbers lines))) c.in-Ok-None.field-0-is c.in-Ok-None.ensures);
      rising = All-weaker (IsWellPlaced past.base.number) IsRising (λ line well. well.0) lines placed;
      let_go = All-weaker (IsWellPlaced past.base.number) (LetGoUpTo past.base.number) (λ line well. well.1) lines
          placed;
      held = moved;
      ordered = c.sorted-receipts.ensures.sorted;
      kept = events_are_kept origin past c.args.whole.now lines rs c.requires.past_of c.requires.held moved;
    }
