-- What a seat has seen after a call begins with what it had seen before.
use Rattle.std.proofs.Common.{◌≡◌, ℕ, ◌+◌, ◌<◌, List, [], ◌∷◌, ◌++◌, get_or, length, take, refl, sym, subst}
use Rattle.std.proofs.lemmas.List.{take_more}
use Rattle.std.proofs.lemmas.List.Elements.{All-append, All-cons, All-nil}
use mathlib.Core.List.{IsPrefix}
use Rattle.logbook.specs.Pages.{Book as HistoryName}
use Rattle.request_journal.specs.Past.{Past}
use Rattle.request_journal.specs.declared.event.Event.{Event}
use Rattle.shared_book.specs.Held.{Held}
use Rattle.shared_book.specs.Reached.{Log}
use Rattle.shared_book.specs.Seen.{IsEntered, IsJoined, IsSplit, SeesAll}
use Rattle.shared_book.specs.Settled.{HaveSeen}
use Rattle.shared_book.specs.declared.receipt.Receipt.{Receipt}
use Rattle.shared_history.proofs.Prefixes.{prefix_trans}
use Rattle.shared_history.specs.Sight.{Sight}
use Rattle.shared_history.specs.declared.entry.Entry.{Entry}

prefix_more : (old whole new : Log) (e : Entry Past Event) → IsPrefix old whole → new ≡ whole ++ e ∷ []
    → IsPrefix old new
prefix_more old whole new e begins is =
    subst (IsPrefix old) (sym is) (prefix_trans old whole (whole ++ e ∷ []) begins (e ∷ [], refl))

module _ {name : HistoryName} (origin : Past) (old new : Sight Past Event) where
  pub sees_on : SeesAll origin name old new → IsPrefix old.seen new.seen
  sees_on sees = prefix_more old.seen sees.whole new.seen _ sees.looks.before.begins sees.looks.seen

  pub entered_on : {count : ℕ} (receipt : Receipt) → IsEntered origin name old new receipt count
      → IsPrefix old.seen new.seen
  entered_on receipt entered =
      prefix_more old.seen entered.whole new.seen _ entered.calls.before.begins entered.calls.seen

  pub split_on : (made : Sight Past Event) → IsSplit origin name old new made → IsPrefix old.seen new.seen
  split_on made split =
      prefix_more old.seen split.whole new.seen _ split.splits.before.begins split.splits.seen

  pub joined_on : (other : Sight Past Event) → IsJoined origin name old other new → IsPrefix old.seen new.seen
  joined_on other joined = joined.catches_up.before.begins

  pub left_on : (other : Sight Past Event) → IsJoined origin name old other new → IsPrefix other.seen new.seen
  left_on other joined =
      prefix_more other.seen joined.whole new.seen _ joined.leaves.before.begins joined.leaves.left

-- one more seat has seen a beginning of the whole
pub have_seen_more : (whole : Log) (seats : List Held) (i : ℕ) (seat : Held) → i < length seats
    → HaveSeen whole (take i seats) → IsPrefix (get_or seats i seat).seen whole → HaveSeen whole (take (i + 1) seats)
have_seen_more whole seats i seat l seen begins =
    subst (HaveSeen whole) (sym (take_more seats i seat l))
    (All-append (λ (h : Held). IsPrefix h.seen whole) (take i seats) (get_or seats i seat ∷ []) seen
    (All-cons (λ (h : Held). IsPrefix h.seen whole) (get_or seats i seat) [] begins
    (All-nil (λ (h : Held). IsPrefix h.seen whole))))
