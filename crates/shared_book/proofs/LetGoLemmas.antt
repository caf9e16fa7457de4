-- What a seat lets go of.
use Rattle.std.proofs.Common.{◌≡◌, ℕ, ◌+◌, ◌≤◌, ◌⊎◌, inl, inr, List, ◌++◌, sym, ap, ◌∙◌, subst, append_assoc}
use Rattle.std.specs.List.{AllZip}
use mathlib.Core.List.{IsPrefix}
use Rattle.request_journal.specs.Past.{Past}
use Rattle.shared_book.proofs.HeldLemmas.{all_go_none, all_go_twice, all_go_weaker}
use Rattle.shared_book.proofs.HeldLemmas.{lets_go_none, lets_go_twice, lets_go_weaker}
use Rattle.shared_book.proofs.ReachedLemmas.{dropped_before, dropped_later}
use Rattle.shared_book.specs.Held.{Gained, Held, HasLetGo, IsDropped, LetsGo, filled, lists, with_seat}
use Rattle.shared_book.specs.Inner.Keeps.{Keeps}
use Rattle.shared_book.specs.Reached.{Log}
use Rattle.shared_book.specs.Receipts.{Line}
use Rattle.shared_book.specs.Script.{with_receipts}
use Rattle.shared_book.specs.declared.receipt.Receipt.{Receipt}

-- the number that is kept of two is one up to which a checkpoint has dropped events
pub dropped_either : (origin : Past) (log : Log) (a b c : ℕ) → IsDropped origin log a → IsDropped origin log b
    → (c ≡ a) ⊎ (c ≡ b) → IsDropped origin log c
dropped_either origin log a b c one two (inl e) = subst (IsDropped origin log) (sym e) one
dropped_either origin log a b c one two (inr e) = subst (IsDropped origin log) (sym e) two

-- the lines of two seats, of which one has taken over the other's
pub let_go_joined : (origin : Past) (last : ℕ) (seat other new : Held) → IsDropped origin new.seen last
    → new.parts ≡ seat.parts + other.parts → LetsGo (λ n. n ≤ last) seat.own new.own
    → AllZip (LetsGo (λ n. n ≤ last)) (seat.joined ++ filled (lists other)) new.joined
    → HasLetGo origin (with_seat seat other) new
let_go_joined origin last seat other new dropped parts own joined = record {
  parts = parts;
  own = lets_go_weaker (λ n. n ≤ last) (IsDropped origin new.seen)
      (λ n le. dropped_before origin new.seen n last le dropped) seat.own new.own own;
  joined = all_go_weaker (λ n. n ≤ last) (IsDropped origin new.seen)
      (λ n le. dropped_before origin new.seen n last le dropped) (seat.joined ++ filled (lists other)) new.joined
      joined;
}

-- the seat once it has kept a receipt
pub gains : (origin : Past) (last : ℕ) (old new : Held) (receipt : Receipt) → IsDropped origin new.seen last
    → new.parts ≡ old.parts → Keeps last old.own new.own receipt
    → AllZip (LetsGo (λ n. n ≤ last)) old.joined new.joined → Gained origin old receipt new
gains origin last old new receipt dropped parts keeps joined = record {
  before = record new { own = keeps.before };
  let_go = record {
    parts = parts;
    own = lets_go_weaker (λ n. n ≤ last) (IsDropped origin new.seen)
        (λ n le. dropped_before origin new.seen n last le dropped) old.own keeps.before keeps.let_go;
    joined = all_go_weaker (λ n. n ≤ last) (IsDropped origin new.seen)
        (λ n le. dropped_before origin new.seen n last le dropped) old.joined new.joined joined;
  };
  added = ap (λ (line : Line). record new { own = line }) keeps.added;
}

-- ---- seats that let go more than once

pub has_let_go_none : (origin : Past) (seat new : Held) → new.parts ≡ seat.parts → new.own ≡ seat.own
    → new.joined ≡ seat.joined → HasLetGo origin seat new
has_let_go_none origin seat new parts own joined = record {
  parts = parts;
  own = subst (LetsGo (IsDropped origin new.seen) seat.own) (sym own)
      (lets_go_none (IsDropped origin new.seen) seat.own);
  joined = subst (AllZip (LetsGo (IsDropped origin new.seen)) seat.joined) (sym joined)
      (all_go_none (IsDropped origin new.seen) seat.joined);
}

-- what is let go in a beginning of a history is so in the history
pub let_go_later : (origin : Past) (a b c : Held) → IsPrefix b.seen c.seen → HasLetGo origin a b
    → LetsGo (IsDropped origin c.seen) a.own b.own × AllZip (LetsGo (IsDropped origin c.seen)) a.joined b.joined
let_go_later origin a b c on go = (
  lets_go_weaker (IsDropped origin b.seen) (IsDropped origin c.seen)
      (λ n dropped. dropped_later origin b.seen c.seen n on dropped) a.own b.own go.own,
  all_go_weaker (IsDropped origin b.seen) (IsDropped origin c.seen)
      (λ n dropped. dropped_later origin b.seen c.seen n on dropped) a.joined b.joined go.joined,
)

pub has_let_go_twice : (origin : Past) (a b c : Held) → IsPrefix b.seen c.seen → HasLetGo origin a b
    → HasLetGo origin b c → HasLetGo origin a c
has_let_go_twice origin a b c on one two =
    let later = let_go_later origin a b c on one in
    record {
      parts = two.parts ∙ one.parts;
      own = lets_go_twice (IsDropped origin c.seen) a.own b.own c.own later.0 two.own;
      joined = all_go_twice (IsDropped origin c.seen) a.joined b.joined c.joined later.1 two.joined;
    }

-- receipts that come after the seat has let go
pub let_go_then : (origin : Past) (a b : Held) (receipts : List Receipt) → HasLetGo origin a b
    → HasLetGo origin (with_receipts a receipts) (with_receipts b receipts)
let_go_then origin a b receipts go = record {
  parts = go.parts;
  own = record {
    gone = go.own.gone;
    held = ap (λ (l : List Receipt). l ++ receipts) go.own.held ∙ append_assoc go.own.gone b.own.held receipts;
    kept = go.own.kept;
    allowed = go.own.allowed;
  };
  joined = go.joined;
}
