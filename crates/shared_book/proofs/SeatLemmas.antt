-- What a seat keeps, once it has seen more.
use Rattle.std.proofs.Common.{◌≡◌, ℕ, ◌+◌, ◌-◌, ◌<◌, ◌≤◌, ◌⊎◌, inr, List, ◌∷◌, ◌++◌, ap, sym, subst, ◌∙◌, arith, length}
use Rattle.std.proofs.Common.{Result, Ok, Err, IfErr, IsErrAnd}
use Rattle.std.specs.List.{AllZip}
use mathlib.Core.List.{IsPrefix}
use Rattle.logbook.specs.Pages.{Book as HistoryName}
use Rattle.request_journal.specs.Past.{Past}
use Rattle.request_journal.specs.declared.event.Event.{Event}
use Rattle.shared_book.proofs.HeldLemmas.{count_kept}
use Rattle.shared_book.proofs.HoldLemmas.{held_joined, held_kept, held_later, in_entered}
use Rattle.shared_book.proofs.LetGoLemmas.{dropped_either}
use Rattle.shared_book.proofs.ReachedLemmas.{dropped_later}
use Rattle.shared_book.proofs.SeenLemmas.{entered_on, joined_on, left_on, sees_on, split_on}
use Rattle.error_code.specs.declared.error_code.ErrorCode.{ErrorCode}
use Rattle.request_journal.specs.declared.input.BookInput.{BookInput}
use Rattle.shared_book.specs.Held.{Held, HoldReceipts, IsDropped, LetsGo, all_numbers, filled, sight}
use Rattle.shared_book.specs.Inner.Keeps.{Keeps}
use Rattle.shared_book.specs.Inner.Seat.{IsSeat}
use Rattle.shared_book.specs.Reached.{InPastOf, IsLawful, Log}
use Rattle.shared_book.specs.Receipts.{Line}
use Rattle.shared_book.specs.Refused.{IsRefused, IsServeRefused}
use Rattle.shared_book.specs.Seen.{HasCaughtUp, IsEntered, IsJoined, IsSplit, SeesAll}
use Rattle.shared_book.specs.declared.receipt.Receipt.{Receipt}
use Rattle.shared_history.specs.Sight.{Sight}
use Rattle.stub_book.specs.Refusals.{IsRefusal, IsServeRefusal}
use Rattle.stub_book.specs.declared.error.BookError.{BookError}

module _ (origin : Past) (all share amount parts count told : ℕ) (lines : List Line) where
  pub seat_on : (old new : Log) → IsSeat origin all share amount parts count told old lines → IsPrefix old new
      → IsLawful origin new → IsSeat origin all share amount parts count told new lines
  seat_on old new seat on lawful = record {
    same_parts = seat.same_parts;
    some = seat.some;
    fits = seat.fits;
    same_count = seat.same_count;
    counted = seat.counted;
    lawful = lawful;
    dropped = dropped_later origin old new told on seat.dropped;
    receipts = held_later origin old new lines on seat.receipts;
  }

  -- it has caught up
  pub seat_sees : {name : HistoryName} (old new : Sight Past Event)
      → IsSeat origin all share amount parts count told old.seen lines → SeesAll origin name old new
      → IsSeat origin all share amount parts count told new.seen lines
  seat_sees old new seat sees = seat_on old.seen new.seen seat (sees_on origin old new sees) sees.lawful

-- its call was refused, for which it had made room
pub seat_refused : {name : HistoryName} (origin : Past) (old new : Sight Past Event)
    (all share amount parts count told later_share later_amount : ℕ) (let_go : List ℕ) (held later : List Receipt)
    (joined : List Line)
    → IsSeat origin all share amount parts count told old.seen (record { let_go = let_go; held = held } ∷ joined)
    → SeesAll origin name old new → later_share ≡ share → later_amount ≡ amount → later ≡ held
    → IsSeat origin all later_share later_amount parts count told new.seen
    (record { let_go = let_go; held = later } ∷ joined)
seat_refused origin old new all share amount parts count told later_share later_amount let_go held later joined seat
    sees same_share same_amount same = record {
      same_parts = same_share ∙ seat.same_parts;
      some = seat.some;
      fits = seat.fits;
      same_count = same_amount ∙ seat.same_count;
      counted = seat.counted
          ∙ ap (λ (rs : List Receipt). length (all_numbers (record { let_go = let_go; held = rs } ∷ joined)))
          (sym same);
      lawful = sees.lawful;
      dropped = dropped_later origin old.seen new.seen told (sees_on origin old new sees) seat.dropped;
      receipts = subst (λ (rs : List Receipt).
          HoldReceipts origin new.seen (record { let_go = let_go; held = rs } ∷ joined)) (sym same)
          (held_later origin old.seen new.seen (record { let_go = let_go; held = held } ∷ joined)
          (sees_on origin old new sees) seat.receipts);
    }

-- it has made a call, and has kept the receipt
module _ {name : HistoryName} {so_many : ℕ} (origin : Past) (old new : Sight Past Event) (receipt : Receipt) where
  -- the number up to which a checkpoint has dropped events
  pub told_on : (before base told : ℕ) → IsEntered origin name old new receipt so_many
      → IsDropped origin old.seen before → IsDropped origin new.seen base → (told ≡ before) ⊎ (told ≡ base) → IsDropped origin new.seen told
  told_on before base told entered dropped more either =
      dropped_either origin new.seen before base told
      (dropped_later origin old.seen new.seen before (entered_on origin old new receipt entered) dropped) more either

  pub seat_entered : (all share amount parts count before base told later_share later_amount : ℕ) (own kept : Line)
      (joined later : List Line)
      → IsSeat origin all share amount parts count before old.seen (own ∷ joined)
      → IsEntered origin name old new receipt so_many
      → IsDropped origin new.seen base → (told ≡ before) ⊎ (told ≡ base) → Keeps told own kept receipt
      → AllZip (LetsGo (λ n. n ≤ told)) joined later → later_share ≡ share → later_amount ≡ amount + 1
      → IsSeat origin all later_share later_amount parts (count + 1) told new.seen (kept ∷ later)
  seat_entered all share amount parts count before base told later_share later_amount own kept joined later seat
      entered more either keeps go same grown =
      let counted = count_kept told own kept receipt joined later keeps go in
      record {
        same_parts = same ∙ seat.same_parts;
        some = seat.some;
        fits = seat.fits;
        same_count = grown ∙ ap (λ (n : ℕ). n + 1) seat.same_count;
        counted = omega (arith, seat.counted, counted);
        lawful = entered.lawful;
        dropped = told_on before base told entered seat.dropped more either;
        receipts = held_kept origin new.seen told own kept receipt joined later
            (in_entered origin old new receipt entered) keeps go
            (held_later origin old.seen new.seen (own ∷ joined) (entered_on origin old new receipt entered)
            seat.receipts);
      }

-- it has made another, which has one of its parts
pub seat_split : {name : HistoryName} (origin : Past) (old new made : Sight Past Event)
    (all share amount parts count told later_share later_amount : ℕ) (lines : List Line)
    → IsSeat origin all share amount parts count told old.seen lines → IsSplit origin name old new made
    → 1 < parts → later_share + 1 ≡ share → later_amount + 0 ≡ amount
    → IsSeat origin all later_share later_amount (parts - 1) count told new.seen lines
seat_split origin old new made all share amount parts count told later_share later_amount lines seat split more
    fewer same = record {
      same_parts = omega (arith, seat.same_parts, more, fewer);
      some = omega (arith, more);
      fits = seat.fits;
      same_count = omega (arith, seat.same_count, same);
      counted = seat.counted;
      lawful = split.lawful;
      dropped = dropped_later origin old.seen new.seen told (split_on origin old new made split) seat.dropped;
      receipts = held_later origin old.seen new.seen lines (split_on origin old new made split) seat.receipts;
    }

-- it has taken over another
pub told_joined : {name : HistoryName} (origin : Past) (old other new : Sight Past Event) (before others told : ℕ)
    → IsJoined origin name old other new → IsDropped origin old.seen before → IsDropped origin other.seen others
    → (told ≡ before) ⊎ (told ≡ others) → IsDropped origin new.seen told
told_joined origin old other new before others told joined one two either =
    dropped_either origin new.seen before others told
    (dropped_later origin old.seen new.seen before (joined_on origin old new other joined) one)
    (dropped_later origin other.seen new.seen others (left_on origin old new other joined) two) either

pub held_taken : {name : HistoryName} (origin : Past) (old other new : Sight Past Event) (last : ℕ) (own now : Line)
    (lines others later : List Line) → IsJoined origin name old other new → LetsGo (λ n. n ≤ last) own now
    → AllZip (LetsGo (λ n. n ≤ last)) (lines ++ filled others) later → HoldReceipts origin old.seen (own ∷ lines)
    → HoldReceipts origin other.seen others → HoldReceipts origin new.seen (now ∷ later)
held_taken origin old other new last own now lines others later joined go all mine theirs =
    held_joined origin new.seen (λ n. n ≤ last) own now lines others later go all
    (held_later origin old.seen new.seen (own ∷ lines) (joined_on origin old new other joined) mine)
    (held_later origin other.seen new.seen others (left_on origin old new other joined) theirs)

-- ---- what contracts see

pub caught_up : {name : HistoryName} (origin : Past) (old new : Held) → SeesAll origin name (sight old) (sight new)
    → new.parts ≡ old.parts → new.own ≡ old.own → new.joined ≡ old.joined → new.replaced ≡ old.replaced
    → HasCaughtUp origin name old new
caught_up origin old new sees parts own joined replaced = record {
  sees = sees;
  same = λ i. record {
    number = sees.looks.number i;
    seen = new.seen;
    parts = parts i;
    own = own i;
    joined = joined i;
    replaced = replaced i;
  };
}

pub split_left : {name : HistoryName} (origin : Past) (old new : Held) (made : Sight Past Event)
    → IsSplit origin name (sight old) (sight new) made
    → new.parts ≡ old.parts - 1 → new.own ≡ old.own → new.joined ≡ old.joined → new.replaced ≡ old.replaced
    → new ≡ record old { parts = old.parts - 1; seen = new.seen }
split_left origin old new made split parts own joined replaced = λ i. record {
  number = split.splits.number i;
  seen = new.seen;
  parts = parts i;
  own = own i;
  joined = joined i;
  replaced = replaced i;
}

-- an error that is given on
pub err_of : {T : Type 0} (P : BookError → Type 0) (result : Result T BookError) (error : BookError)
    → IsErrAnd result (λ e. e ≡ error) → P error → IfErr result P
err_of P (Ok x) error given p = absurd given
err_of P (Err e) error given p = subst P (sym given) p

-- a call that was refused
pub refused_serve : {name : HistoryName} (origin : Past) (old new : Held) (reason : ErrorCode)
    → HasCaughtUp origin name old new
    → InPastOf origin new.seen (λ past. IsServeRefusal past reason) → IsServeRefused origin name old new reason
refused_serve origin old new reason caught why = inr (caught, why)

pub refused_change : {name : HistoryName} (origin : Past) (old new : Held) (asked : BookInput) (reason : ErrorCode)
    → HasCaughtUp origin name old new → InPastOf origin new.seen (λ past. IsRefusal past asked reason)
    → IsRefused origin name old new asked reason
refused_change origin old new asked reason caught why = inr (caught, why)
