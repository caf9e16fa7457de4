-- The receipts that lines hold are of calls of what was seen.
use Rattle.std.proofs.Common.{◌≡◌, ℕ, ◌≤◌, Bool, true, false, cond, List, [], ◌∷◌, ◌++◌, All, sym, subst, ◌∙◌}
use Rattle.std.proofs.Common.{append-nil}
use Rattle.std.proofs.lemmas.List.Concat.{flat_map-append}
use Rattle.std.proofs.lemmas.List.Elements.{All-append, All-cons, All-head, All-nil, All-push, All-tail, All-weaker}
use Rattle.std.specs.List.{AllZip}
use mathlib.Core.List.{IsPrefix}
use Rattle.logbook.specs.Pages.{Book as HistoryName}
use Rattle.request_journal.specs.Past.{Past}
use Rattle.request_journal.specs.declared.event.Event.{Event}
use Rattle.shared_book.specs.Held.{Held, HoldReceipts, LetsGo, all_lists, filled, is_filled, lists, receipts_of}
use Rattle.shared_book.specs.Inner.Keeps.{Keeps}
use Rattle.shared_book.specs.Reached.{Log}
use Rattle.shared_book.specs.Receipts.{IsReceipt, IsReceiptIn, Line, numbers_of}
use Rattle.shared_book.specs.Seen.{IsEntered}
use Rattle.shared_book.specs.declared.receipt.Receipt.{Receipt}
use Rattle.shared_history.proofs.Prefixes.{prefix_trans}
use Rattle.shared_history.specs.Entries.{entry}
use Rattle.shared_history.specs.Sight.{Sight}
use Rattle.shared_history.specs.declared.entry.Deed.TheVariants.{Called}

-- ---- one receipt

-- receipts of a beginning of the log are those of the log
pub receipt_later : (origin : Past) (seat : ℕ) (old new : Log) (receipt : Receipt) → IsPrefix old new
    → IsReceipt origin seat old receipt → IsReceipt origin seat new receipt
receipt_later origin seat old new receipt on is = record {
  before = is.before;
  entered = prefix_trans (is.before ++ entry seat (Called receipt.event) ∷ []) old new is.entered on;
  past = is.past;
  past_of = is.past_of;
  next = is.next;
  number = is.number;
}

in_later : (origin : Past) (old new : Log) (receipt : Receipt) → IsPrefix old new → IsReceiptIn origin old receipt
    → IsReceiptIn origin new receipt
in_later origin old new receipt on of =
    record { seat = of.seat; is = receipt_later origin of.seat old new receipt on of.is }

-- that of a call that was entered
pub in_entered : {name : HistoryName} {so_many : ℕ} (origin : Past) (old new : Sight Past Event) (receipt : Receipt)
    → IsEntered origin name old new receipt so_many → IsReceiptIn origin new.seen receipt
in_entered origin old new receipt entered = record {
  seat = old.number;
  is = record {
    before = entered.whole;
    entered = (
      [],
      append-nil (entered.whole ++ entry old.number (Called receipt.event) ∷ []) ∙ sym entered.calls.seen,
    );
    past = entered.past;
    past_of = entered.past_of;
    next = entered.next;
    number = entered.number;
  };
}

-- ---- lists of receipts

module _ (Q : Receipt → Type 0) where
  all_first : (xs ys : List Receipt) → All Q (xs ++ ys) → All Q xs
  all_first [] ys all = All-nil Q
  all_first (x ∷ xs) ys all =
      All-cons Q x xs (All-head Q x (xs ++ ys) all) (all_first xs ys (All-tail Q x (xs ++ ys) all))

  all_rest : (xs ys : List Receipt) → All Q (xs ++ ys) → All Q ys
  all_rest [] ys all = all
  all_rest (x ∷ xs) ys all = all_rest xs ys (All-tail Q x (xs ++ ys) all)

  -- what the lines held that have let go of events
  all_gone : (P : ℕ → Type 0) (xs ys : List Line) → AllZip (LetsGo P) xs ys → All Q (receipts_of xs)
      → All Q (receipts_of ys)
  all_gone P [] [] go all = all
  all_gone P [] (y ∷ ys) go all = absurd go
  all_gone P (x ∷ xs) [] go all = absurd go
  all_gone P (x ∷ xs) (y ∷ ys) go all =
      let mine : All Q (go.0.gone ++ y.held) =
      subst (λ (l : List Receipt). All Q l) go.0.held (all_first x.held (receipts_of xs) all) in
      All-append Q y.held (receipts_of ys) (all_rest go.0.gone y.held mine)
      (all_gone P xs ys go.1 (all_rest x.held (receipts_of xs) all))

  filled_if : (b : Bool) (x : Line) (xs : List Line) → All Q x.held → All Q (receipts_of xs)
      → All Q (receipts_of (cond b (x ∷ xs) xs))
  filled_if true x xs one rest = All-append Q x.held (receipts_of xs) one rest
  filled_if false x xs one rest = rest

  all_filled : (xs : List Line) → All Q (receipts_of xs) → All Q (receipts_of (filled xs))
  all_filled [] all = all
  all_filled (x ∷ xs) all =
      filled_if (is_filled (numbers_of x)) x (filled xs) (all_first x.held (receipts_of xs) all)
      (all_filled xs (all_rest x.held (receipts_of xs) all))

  all_both : (xs ys : List Line) → All Q (receipts_of xs) → All Q (receipts_of ys) → All Q (receipts_of (xs ++ ys))
  all_both xs ys one two =
      subst (λ (l : List Receipt). All Q l) (sym (flat_map-append (λ (l : Line). l.held) xs ys))
      (All-append Q (receipts_of xs) (receipts_of ys) one two)

-- ---- the lines of a seat

module _ (origin : Past) where
  pub held_later : (old new : Log) (lines : List Line) → IsPrefix old new → HoldReceipts origin old lines
      → HoldReceipts origin new lines
  held_later old new lines on held =
      All-weaker (IsReceiptIn origin old) (IsReceiptIn origin new) (λ r of. in_later origin old new r on of)
      (receipts_of lines) held

  module _ (log : Log) where
    -- a seat that has made no call
    pub held_none : (lines : List Line) → lines ≡ record { let_go = []; held = [] } ∷ [] → HoldReceipts origin log lines
    held_none lines none =
        subst (λ (ls : List Line). HoldReceipts origin log ls) (sym none) (All-nil (IsReceiptIn origin log))

    -- once a receipt was kept
    pub held_kept : (last : ℕ) (own now : Line) (receipt : Receipt) (joined later : List Line)
        → IsReceiptIn origin log receipt → Keeps last own now receipt → AllZip (LetsGo (λ n. n ≤ last)) joined later
        → HoldReceipts origin log (own ∷ joined) → HoldReceipts origin log (now ∷ later)
    held_kept last own now receipt joined later of keeps go held =
        let Of : Receipt → Type 0 = IsReceiptIn origin log in
        let before : List Receipt = keeps.before.held in
        let gone : All Of (before ++ receipts_of later) =
        all_gone Of (λ n. n ≤ last) (own ∷ joined) (keeps.before ∷ later) (keeps.let_go, go) held in
        subst (λ (line : Line). All (IsReceiptIn origin log) (line.held ++ receipts_of later)) (sym keeps.added)
        (All-append Of (before ++ receipt ∷ []) (receipts_of later)
        (All-push Of before receipt (all_first Of before (receipts_of later) gone) of)
        (all_rest Of before (receipts_of later) gone))

    -- once lines were taken over
    pub held_joined : (P : ℕ → Type 0) (own now : Line) (lines other new : List Line) → LetsGo P own now
        → AllZip (LetsGo P) (lines ++ filled other) new → HoldReceipts origin log (own ∷ lines)
        → HoldReceipts origin log other → HoldReceipts origin log (now ∷ new)
    held_joined P own now lines other new go all mine others =
        all_gone (IsReceiptIn origin log) P (own ∷ (lines ++ filled other)) (now ∷ new) (go, all)
        (all_both (IsReceiptIn origin log) (own ∷ lines) (filled other) mine
        (all_filled (IsReceiptIn origin log) other others))

    -- those of several seats
    pub held_all : (seats : List Held) → All (λ seat. HoldReceipts origin log (lists seat)) seats
        → HoldReceipts origin log (all_lists seats)
    held_all [] all = All-nil (IsReceiptIn origin log)
    held_all (s ∷ seats) all =
        all_both (IsReceiptIn origin log) (lists s) (all_lists seats)
        (All-head (λ (seat : Held). HoldReceipts origin log (lists seat)) s seats all)
        (held_all seats (All-tail (λ (seat : Held). HoldReceipts origin log (lists seat)) s seats all))
