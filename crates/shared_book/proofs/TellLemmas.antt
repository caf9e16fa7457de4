-- What is lent of a call that was accepted.
use Rattle.std.proofs.Common.{◌≡◌, ◌<◌, List, [], ◌∷◌, ◌++◌, refl, sym, ap, ◌∙◌, subst, length, length-append, arith}
use Rattle.logbook.specs.Pages.{Book as HistoryName}
use Rattle.mock_request.specs.Request.{Request}
use Rattle.request_journal.specs.Input.{IsAsked}
use Rattle.request_journal.specs.Past.{Past}
use Rattle.request_journal.specs.declared.event.Event.{Event}
use Rattle.request_journal.specs.declared.input.BookInput.{BookInput}
use Rattle.shared_book.specs.Held.{Gained, Held}
use Rattle.shared_book.specs.Lent.{Gains}
use Rattle.shared_book.specs.Receipts.{IsLast}
use Rattle.shared_book.specs.declared.receipt.Receipt.{Receipt}
use Rattle.stub_book.specs.Growth.{IsServed}

-- ---- the last receipt of a list is the one that was added

last_or : Receipt → List Receipt → Receipt
last_or d [] = d
last_or d (x ∷ xs) = last_or x xs

last_of_more : (d : Receipt) (xs : List Receipt) (a : Receipt) → last_or d (xs ++ a ∷ []) ≡ a
unfolding last_or
last_of_more d [] a = refl
last_of_more d (x ∷ xs) a = last_of_more x xs a

one_last : (xs ys : List Receipt) (a b : Receipt) → xs ++ a ∷ [] ≡ ys ++ b ∷ [] → a ≡ b
one_last xs ys a b e = sym (last_of_more a xs a) ∙ ap (last_or a) e ∙ last_of_more a ys b

added_last : (origin : Past) (old new : Held) (added last : Receipt) → Gained origin old added new
    → IsLast last new.own.held → added ≡ last
added_last origin old new added last gained is_last =
    one_last gained.before.own.held is_last.0 added last
    (sym (ap (λ (h : Held). h.own.held) gained.added) ∙ is_last.1)

lends : {name : HistoryName} (origin : Past) (old new : Held) (asked : Event → Type 0) (last : Receipt)
    → (receipt : Receipt) × Gains origin name old new asked receipt
    → IsLast last new.own.held
    → Gains origin name old new asked last
lends {name} origin old new asked last (receipt, made) is_last =
    subst (Gains origin name old new asked) (added_last origin old new receipt last made.gained is_last) made

pub lends_served : {name : HistoryName} (origin : Past) (old new : Held) (request : Request) (last : Receipt)
    → (receipt : Receipt) × Gains origin name old new (IsServed request) receipt
    → IsLast last new.own.held
    → Gains origin name old new (IsServed request) last
lends_served {name} origin old new request = lends {name = name} origin old new (IsServed request)

pub lends_applied : {name : HistoryName} (origin : Past) (old new : Held) (asked : BookInput) (last : Receipt)
    → (receipt : Receipt) × Gains origin name old new (IsAsked asked) receipt
    → IsLast last new.own.held
    → Gains origin name old new (IsAsked asked) last
lends_applied {name} origin old new asked = lends {name = name} origin old new (IsAsked asked)

-- the seat's own line isn't empty then
pub gained_some : (origin : Past) (old new : Held) (receipt : Receipt) → Gained origin old receipt new
    → 0 < length new.own.held
gained_some origin old new receipt gained =
    let e = ap (λ (h : Held). length h.own.held) gained.added in
    let more = length-append gained.before.own.held (receipt ∷ []) in
    omega (arith, e, more)
