-- What the lock keeps, after one more entry.
use Rattle.std.proofs.Common.{◌≡◌, ℕ, ◌<◌, [], ◌∷◌, ◌++◌, ap, arith, refl, sym, ◌∙◌, subst}
use Rattle.std.specs.Prelude.{IfOk, Result, Ok, Err}
use Rattle.logbook.specs.Pages.{Book as HistoryName}
use Rattle.mock_request.specs.Request.{Request}
use Rattle.request_journal.specs.Legal.{IsNext}
use Rattle.request_journal.specs.Past.{Past, last_number}
use Rattle.request_journal.specs.declared.event.Event.{Event}
use Rattle.shared_book.proofs.ReachedLemmas.{dropped_last, lawful_on, lawful_opened, number_grown, past_called}
use Rattle.shared_book.proofs.ReachedLemmas.{past_left, past_looked, past_opened, past_split}
use Rattle.shared_book.specs.Held.{IsDropped}
use Rattle.shared_book.specs.Inner.Kept.{IsKept}
use Rattle.shared_book.specs.Reached.{InPastOf, IsLawful, IsPastOf, Log, MayFollow}
use Rattle.shared_book.specs.Reading.{IsRead, IsReadAnswer, IsReadOnce}
use Rattle.shared_book.specs.Seen.{IsEntered, IsJoined, IsSplit, SeesAll}
use Rattle.request_journal.specs.declared.read.BookRead.{BookRead}
use Rattle.shared_book.specs.declared.book_read.ReadAnswer.{ReadAnswer}
use Rattle.shared_book.specs.declared.receipt.Receipt.{Receipt}
use Rattle.shared_history.specs.Entries.{entry, opening}
use Rattle.shared_history.specs.History.{HasLeft, IsHistory}
use Rattle.shared_history.specs.Seal.{IsSeen}
use Rattle.shared_history.specs.Sight.{Calls, CatchesUp, IsIn, Leaves, Looks, Sight, Splits}
use Rattle.shared_history.specs.declared.entry.Deed.TheVariants.{Looked, Split}
use Rattle.shared_history.specs.declared.entry.Entry.{Entry}
use Rattle.stub_book.specs.Growth.{Changes, Grows, IsServed, replaced}
use Rattle.stub_book.specs.declared.accepted.Changed.{Changed}

pub lawful_more : (origin : Past) (old new : Log) (e : Entry Past Event) → IsLawful origin old
    → new ≡ old ++ e ∷ [] → IsHistory MayFollow new → IsLawful origin new
lawful_more origin old new e lawful is history = lawful_on origin old new lawful (e ∷ [], sym is) history

module _ (origin : Past) (all : ℕ) (past : Past) (old new : Log) (entries parts start : ℕ) where
  pub kept_left : (other : Sight Past Event) → IsKept origin all past old entries parts start
      → Leaves other old new → IsHistory MayFollow new → IsKept origin all past new entries parts start
  kept_left other kept leaves history = record {
    lawful = lawful_more origin old new _ kept.lawful leaves.left history;
    past_of = past_left origin past old new other.number leaves.left kept.past_of;
    same_start = kept.same_start;
    counted = kept.counted;
    same_parts = kept.same_parts;
    some = kept.some;
  }

  pub kept_looked : (seat later : Sight Past Event) → IsKept origin all past old entries parts start
      → Looks seat old later → new ≡ later.seen → IsHistory MayFollow new
      → IsKept origin all past new entries parts start
  kept_looked seat later kept looks same history =
      let is : new ≡ old ++ entry seat.number Looked ∷ [] = same ∙ looks.seen in
      record {
        lawful = lawful_more origin old new _ kept.lawful is history;
        past_of = past_looked origin past old new seat.number is kept.past_of;
        same_start = kept.same_start;
        counted = kept.counted;
        same_parts = kept.same_parts;
        some = kept.some;
      }

  pub kept_split : (seat later made : Sight Past Event) → IsKept origin all past old entries parts start
      → Splits seat old later made → new ≡ later.seen → IsHistory MayFollow new
      → IsKept origin all past new entries parts start
  kept_split seat later made kept splits same history =
      let is : new ≡ old ++ entry seat.number Split ∷ [] = same ∙ splits.seen in
      record {
        lawful = lawful_more origin old new _ kept.lawful is history;
        past_of = past_split origin past old new seat.number is kept.past_of;
        same_start = kept.same_start;
        counted = kept.counted;
        same_parts = kept.same_parts;
        some = kept.some;
      }

-- a seat has seen all that there is, which was entered
pub sees_all : {name : HistoryName} (origin : Past) (whole more : Log) (old new : Sight Past Event) → IsLawful origin whole
    → Looks old whole new → more ≡ new.seen → IsHistory MayFollow more → IsSeen MayFollow name more
    → SeesAll origin name old new
sees_all {name} origin whole more old new lawful looks same history was_seen = record {
  whole = whole;
  looks = looks;
  lawful = lawful_more origin whole new.seen _ lawful looks.seen (subst (IsHistory MayFollow) same history);
  was_seen = subst (IsSeen MayFollow name) same was_seen;
}

-- what holds of the past under the lock holds of the past after what the seat has seen then
pub in_past : (origin past : Past) (whole : Log) (old new : Sight Past Event) (P : Past → Type 0)
    → IsPastOf origin whole past → Looks old whole new → P past → InPastOf origin new.seen P
in_past origin past whole old new P is looks holds =
    (past, past_looked origin past whole new.seen old.number looks.seen is, holds)

-- the seat has made another
pub was_split : {name : HistoryName} (origin : Past) (whole new : Log) (seat later made : Sight Past Event)
    → IsLawful origin whole
    → Splits seat whole later made → new ≡ later.seen → IsHistory MayFollow new → IsSeen MayFollow name new
    → IsSplit origin name seat later made
was_split {name} origin whole new seat later made lawful splits same history was_seen = record {
  whole = whole;
  splits = splits;
  lawful = lawful_more origin whole later.seen _ lawful splits.seen (subst (IsHistory MayFollow) same history);
  was_seen = subst (IsSeen MayFollow name) same was_seen;
}

-- the other has left, and this one has seen that
pub was_joined : {name : HistoryName} (origin : Past) (whole new : Log) (seat other later : Sight Past Event)
    → IsLawful origin whole
    → Leaves other whole new → HasLeft MayFollow new other.number → IsHistory MayFollow new
    → CatchesUp seat new later → IsSeen MayFollow name new → IsJoined origin name seat other later
was_joined {name} origin whole new seat other later lawful leaves left history catches_up was_seen =
    let back = sym catches_up.seen in
    record {
      whole = whole;
      leaves = subst (Leaves other whole) back leaves;
      catches_up = record {
        before = subst (λ (log : Log). IsIn log seat) back catches_up.before;
        number = catches_up.number;
        seen = refl;
      };
      left = subst (λ (log : Log). HasLeft MayFollow log other.number) back left;
      lawful = subst (IsLawful origin) back (lawful_more origin whole new _ lawful leaves.left history);
      was_seen = subst (IsSeen MayFollow name) back was_seen;
    }

-- what is answered in the past after the whole history
pub looked_up : (origin past : Past) (whole : Log) (old new : Sight Past Event) (asked : BookRead) (number : ℕ)
    (answer : ReadAnswer) → IsPastOf origin whole past → Looks old whole new → number ≡ last_number past
    → IsReadAnswer past asked answer
    → IsRead origin new.seen asked (record { number = number; answer = answer })
looked_up origin past whole old new asked number answer is looks last looked = record {
  past = past;
  past_of = past_looked origin past whole new.seen old.number looks.seen is;
  number = last;
  answer = looked;
}

-- the same for who has no place
pub looked_up_once : {E : Type 0} (name : HistoryName) (origin past : Past) (whole seen : Log) (asked : BookRead)
    (result : Result ReadAnswer E) → IsLawful origin whole → IsPastOf origin whole past → seen ≡ whole
    → IsSeen MayFollow name seen → IfOk result (IsReadAnswer past asked)
    → IfOk result (IsReadOnce origin name asked)
looked_up_once name origin past whole seen asked (Err error) lawful is same was_seen looked = looked
looked_up_once name origin past whole seen asked (Ok found) lawful is same was_seen looked = record {
  log = whole;
  lawful = lawful;
  was_seen = subst (λ (log : Log). IsSeen MayFollow name log) same was_seen;
  past = past;
  past_of = is;
  answer = looked;
}

-- the book was just shared
pub kept_opened : (origin : Past) (all : ℕ) (past : Past) (whole : Log) (entries parts start : ℕ) → past ≡ origin
    → whole ≡ opening origin ∷ [] → entries ≡ 0 → parts ≡ all → 0 < parts → start ≡ last_number past
    → IsKept origin all past whole entries parts start
kept_opened origin all past whole entries parts start same opened none are some number = record {
  lawful = lawful_opened origin whole opened;
  past_of = subst (IsPastOf origin whole) (sym same) (past_opened origin whole opened);
  same_start = number ∙ ap last_number same;
  counted = (let last = ap last_number same in omega (arith, last, none));
  same_parts = are;
  some = omega (arith, are, some);
}

-- ---- a call was entered

-- a request that was served adds nothing, so nothing gives way
pub served_changes : (old new : Past) (request : Request) (changed : Changed) → IsServed request changed.event
    → Grows old new changed.event → changed.replaced ≡ 0 → Changes old new changed
served_changes old new request changed served grows none = record {
  grows = grows;
  so_many = none ∙ sym (ap (λ (e : Event). replaced old e) served.1);
}

module _ (origin past new : Past) (whole more : Log) (seat later : Sight Past Event) (event : Event) where
  pub past_entered : IsPastOf origin whole past → Grows past new event → Calls event seat whole later
      → more ≡ later.seen → IsPastOf origin more new
  past_entered is grows calls same =
      past_called origin past new whole more seat.number event (same ∙ calls.seen) is grows

  pub dropped_by : (base : ℕ) → IsPastOf origin whole past → Grows past new event → Calls event seat whole later
      → more ≡ later.seen → base ≡ new.base.number → IsDropped origin later.seen base
  dropped_by base is grows calls same number =
      dropped_last origin new later.seen base
      (subst (λ (log : Log). IsPastOf origin log new) same (past_entered is grows calls same)) number

  pub was_entered : {name : HistoryName} (receipt : Receipt) (count : ℕ) → IsLawful origin whole → IsPastOf origin whole past
      → Grows past new event
      → Calls event seat whole later → more ≡ later.seen → IsHistory MayFollow more → IsSeen MayFollow name more
      → receipt.event ≡ event → receipt.number ≡ last_number new → count ≡ replaced past event
      → IsEntered origin name seat later receipt count
  was_entered {name} receipt count lawful is grows calls same history was_seen its number so_many = record {
    whole = whole;
    calls = subst (λ (e : Event). Calls e seat whole later) (sym its) calls;
    lawful = lawful_more origin whole later.seen _ lawful calls.seen (subst (IsHistory MayFollow) same history);
    was_seen = subst (IsSeen MayFollow name) same was_seen;
    past = past;
    past_of = is;
    next = subst (IsNext past) (sym its) grows.next;
    number = number ∙ number_grown past new event grows;
    so_many = so_many ∙ ap (λ (e : Event). replaced past e) (sym its);
  }

pub lawful_entered : (origin : Past) (whole more : Log) (seat later : Sight Past Event) (event : Event)
    → IsLawful origin whole → Calls event seat whole later → more ≡ later.seen → IsHistory MayFollow more
    → IsLawful origin more
lawful_entered origin whole more seat later event lawful calls same history =
    lawful_more origin whole more _ lawful (same ∙ calls.seen) history
