-- Seats that leave a history, until it has ended.
use Rattle.std.proofs.Common.{ℕ, [], ◌∷◌, List, refl, sym, ◌∙◌, subst}
use Rattle.std.proofs.lemmas.List.Elements.{All-weaker}
use mathlib.Core.List.{IsPrefix}
use Rattle.logbook.specs.Pages.{Book as HistoryName}
use Rattle.request_journal.specs.Past.{Past}
use Rattle.request_journal.specs.declared.event.Event.{Event}
use Rattle.shared_book.proofs.KeptLemmas.{lawful_more}
use Rattle.shared_book.proofs.ReachedLemmas.{calls_left, lead_count}
use Rattle.shared_book.specs.Held.{Held}
use Rattle.shared_book.specs.Inner.Ends.{Ends, HasSameCalls, HaveAgreed}
use Rattle.shared_book.specs.Inner.Kept.{IsKept}
use Rattle.shared_book.specs.Reached.{IsLawful, IsPastOf, Lead, Log, MayFollow}
use Rattle.shared_book.specs.Settled.{AreSettled}
use Rattle.shared_book.specs.declared.settled.Settled.{Settled}
use Rattle.shared_history.proofs.Prefixes.{prefix_self, prefix_trans}
use Rattle.shared_history.specs.Entries.{entry}
use Rattle.shared_history.specs.History.{IsHistory}
use Rattle.shared_history.specs.Sight.{Leaves, Sight}
use Rattle.shared_history.specs.declared.entry.Deed.TheVariants.{Left}

pub same_first : (origin : Past) (log : Log) → IsLawful origin log → HasSameCalls origin log log
same_first origin log lawful = record { begins = prefix_self log; calls = refl; lawful = lawful }

-- one more seat leaves
pub same_left : (origin : Past) (old now new : Log) (other : Sight Past Event) → HasSameCalls origin old now
    → Leaves other now new → IsHistory MayFollow new → HasSameCalls origin old new
same_left origin old now new other same leaves history = record {
  begins = prefix_trans old now new same.begins (entry other.number Left ∷ [], sym leaves.left);
  calls = calls_left now new other.number leaves.left ∙ same.calls;
  lawful = lawful_more origin now new _ same.lawful leaves.left history;
}

-- the past is the same
past_same : (origin past : Past) (old new : Log) → HasSameCalls origin old new → IsPastOf origin old past
    → IsPastOf origin new past
past_same origin past old new same is = subst (λ (es : List Event). Lead origin es past) (sym same.calls) is

pub kept_ended : (origin : Past) (all : ℕ) (past : Past) (old new : Log) (entries parts start : ℕ)
    → IsKept origin all past old entries parts start → HasSameCalls origin old new
    → IsKept origin all past new entries parts start
kept_ended origin all past old new entries parts start kept same = record {
  lawful = same.lawful;
  past_of = past_same origin past old new same kept.past_of;
  same_start = kept.same_start;
  counted = kept.counted;
  same_parts = kept.same_parts;
  some = kept.some;
}

-- what the seats' receipts agree with is the history that has ended
pub settled_ended : (origin : Past) (parts : ℕ) (name : HistoryName) (old new : Log) (past : Past) (seats : List Held)
    (settled : Settled) → HaveAgreed origin parts old past seats settled → Ends origin name old new
    → AreSettled origin parts name seats settled
settled_ended origin parts name old new past seats settled agreed ends =
    let one = agreed.one_history in
    let past_of = past_same origin past old new ends.same one.past_of in
    record {
      whole = new;
      past = past;
      all = agreed.all;
      was_seen = ends.was_seen;
      ended = ends.ended;
      seen = All-weaker (λ (seat : Held). IsPrefix seat.seen old) (λ seat. IsPrefix seat.seen new)
          (λ seat begins. prefix_trans seat.seen old new begins ends.same.begins) seats agreed.seen;
      one_history = record {
        lawful = ends.same.lawful;
        past_of = past_of;
        legal = one.legal;
        events = one.events;
        counted = one.counted;
        numbered = one.numbered;
        rising = one.rising;
        let_go = one.let_go;
        held = one.held;
        ordered = one.ordered;
        kept = one.kept;
      };
      calls = one.events ∙ lead_count _ origin past past_of;
    }
