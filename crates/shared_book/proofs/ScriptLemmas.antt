-- A script, call by call.
use Rattle.std.proofs.Common.{◌≡◌, ◌⊎◌, ◌-◌, ℕ, inl, inr, List, [], ◌∷◌, ◌++◌, refl, sym}
use Rattle.std.proofs.Common.{ap, ◌∙◌, subst, append_assoc, append-nil, arith, Option, None, Ok, Err, IfOk, IfErr}
use Rattle.std.proofs.lemmas.List.Elements.{All-head, All-tail}
use Rattle.std.specs.Borrow.{Bor}
use Rattle.std.specs.List.{AllZip}
use Rattle.std.specs.Prelude.{Result}
use mathlib.Core.List.{IsPrefix}
use Rattle.logbook.specs.Pages.{Book as HistoryName}
use Rattle.mock_request.specs.Request.{Request}
use Rattle.request_journal.specs.Past.{Past}
use Rattle.request_journal.specs.declared.input.BookInput.{BookInput}
use Rattle.shared_book.proofs.HeldLemmas.{lets_go_weaker}
use Rattle.shared_book.proofs.HoldLemmas.{receipt_later}
use Rattle.shared_book.proofs.LetGoLemmas.{has_let_go_none, has_let_go_twice, let_go_then}
use Rattle.shared_book.proofs.ReachedLemmas.{dropped_later}
use Rattle.shared_book.proofs.SeenLemmas.{entered_on, sees_on, split_on}
use Rattle.shared_book.specs.Held.{Gained, Held, HasLetGo, IsDropped, LetsGo, lists, new_seat, sight}
use Rattle.shared_book.specs.Lent.{LendsApplied, LendsServed}
use Rattle.shared_book.specs.Reached.{Log}
use Rattle.shared_book.specs.Receipts.{IsReceipt, Line}
use Rattle.shared_book.specs.Script.{AreReceiptsOf, HasGivenTwo, HasPlayed, IsAskedBy, IsLineOf, IsPlayed, IsStopped}
use Rattle.shared_book.specs.Script.{IsUnplayed, Plays, with_receipts}
use Rattle.shared_book.specs.Seen.{Enters, HasCaughtUp, HasSplit}
use Rattle.shared_book.specs.Settled.{AreSettled, AreUnsettled, HaveSeen, IsSettled}
use Rattle.shared_book.specs.declared.receipt.Receipt.{Receipt}
use Rattle.shared_book.specs.declared.script.Call.{Call}
use Rattle.shared_book.specs.declared.script.Call.TheVariants.{Apply, Serve}
use Rattle.shared_book.specs.declared.settled.Settled.{Settled}
use Rattle.shared_book.specs.declared.settled.SettleRefusal.{SettleRefusal}
use Rattle.shared_history.proofs.Prefixes.{prefix_self, prefix_trans}
use Rattle.shared_history.specs.Entries.{entry}
use Rattle.shared_history.specs.declared.entry.Deed.TheVariants.{Called}
use Rattle.stub_book.specs.declared.error.BookError.{BookError}

told_later : (origin : Past) (seat : ℕ) (old new : Log) (calls : List Call) (rs : List Receipt) → IsPrefix old new
    → AreReceiptsOf origin seat old calls rs → AreReceiptsOf origin seat new calls rs
told_later origin seat old new [] rs on told = told
told_later origin seat old new (c ∷ cs) rs on (inl told) = inl (
  told.0,
  told.1,
  told.2,
  told.3,
  receipt_later origin seat old new told.0 on told.4,
  told_later origin seat old new cs told.1 on told.5,
)
told_later origin seat old new (c ∷ cs) rs on (inr told) = inr (told_later origin seat old new cs rs on told)

told_on : (origin : Past) (seat : ℕ) (log : Log) (calls : List Call) (call : Call) (rs qs : List Receipt)
    → AreReceiptsOf origin seat log calls rs → AreReceiptsOf origin seat log (call ∷ []) qs
    → AreReceiptsOf origin seat log (calls ++ call ∷ []) (rs ++ qs)
told_on origin seat log [] call rs qs told more =
    subst (λ (l : List Receipt). AreReceiptsOf origin seat log (call ∷ []) (l ++ qs)) (sym told) more
told_on origin seat log (c ∷ cs) call rs qs (inl told) more = inl (
  told.0,
  told.1 ++ qs,
  ap (λ l. l ++ qs) told.2,
  told.3,
  told.4,
  told_on origin seat log cs call told.1 qs told.5 more,
)
told_on origin seat log (c ∷ cs) call rs qs (inr told) more =
    inr (told_on origin seat log cs call rs qs told more)

-- the own line with no more receipts
none_more : (line : Line) → record { let_go = line.let_go; held = line.held ++ [] } ≡ line
none_more line = ap (λ (l : List Receipt). record { let_go = line.let_go; held = l }) (append-nil line.held)

no_receipts : (origin : Past) (seat new : Held) → new ≡ record seat { seen = new.seen }
    → HasLetGo origin (with_receipts seat []) new
no_receipts origin seat new same =
    has_let_go_none origin (with_receipts seat []) new (ap (λ (h : Held). h.parts) same)
    (ap (λ (h : Held). h.own) same ∙ sym (none_more seat.own)) (ap (λ (h : Held). h.joined) same)

-- a seat that has seen more, and has made no call
plays_no_call : (origin : Past) (old new : Held) (calls : List Call) → AreReceiptsOf origin new.number new.seen calls []
    → new ≡ record old { seen = new.seen } → IsPrefix old.seen new.seen → Plays origin old new calls
plays_no_call origin old new calls are same on = record {
  receipts = [];
  are = are;
  let_go = no_receipts origin old new same;
  number = ap (λ (h : Held). h.number) same;
  begins = on;
}

pub plays_none : (origin : Past) (seat : Held) → Plays origin seat seat []
plays_none origin seat = plays_no_call origin seat seat [] refl refl (prefix_self seat.seen)

pub plays_on : (origin : Past) (a b c : Held) (calls : List Call) (call : Call) → Plays origin a b calls
    → Plays origin b c (call ∷ []) → Plays origin a c (calls ++ call ∷ [])
plays_on origin a b c calls call one two = record {
  receipts = one.receipts ++ two.receipts;
  are = told_on origin c.number c.seen calls call one.receipts two.receipts
      (subst (λ (n : ℕ). AreReceiptsOf origin n c.seen calls one.receipts) (sym two.number)
      (told_later origin b.number b.seen c.seen calls one.receipts two.begins one.are))
      two.are;
  let_go =
      subst (λ (l : List Receipt).
      HasLetGo origin (record a { own = record { let_go = a.own.let_go; held = l } }) c)
      (append_assoc a.own.held one.receipts two.receipts)
      (has_let_go_twice origin (with_receipts (with_receipts a one.receipts) two.receipts)
      (with_receipts b two.receipts) c two.begins
      (let_go_then origin (with_receipts a one.receipts) b two.receipts one.let_go) two.let_go);
  number = two.number ∙ one.number;
  begins = prefix_trans a.seen b.seen c.seen one.begins two.begins;
}

-- a call that was accepted
receipt_of : {name : HistoryName} (origin : Past) (old new : Held) (receipt : Receipt) → Enters origin name old new receipt
    → IsReceipt origin new.number new.seen receipt
receipt_of origin old new receipt entered = record {
  before = entered.whole;
  entered = (
    [],
    append-nil (entered.whole ++ entry new.number (Called receipt.event) ∷ [])
        ∙ ap (λ (n : ℕ). entered.whole ++ entry n (Called receipt.event) ∷ []) entered.calls.number
        ∙ sym entered.calls.seen,
  );
  past = entered.past;
  past_of = entered.past_of;
  next = entered.next;
  number = entered.number;
}

pub plays_accepted : {name : HistoryName} (origin : Past) (old new : Held) (call : Call) (receipt : Receipt)
    → Gained origin old receipt new
    → IsAskedBy call receipt.event → Enters origin name old new receipt → Plays origin old new (call ∷ [])
plays_accepted origin old new call receipt gained of entered = record {
  receipts = receipt ∷ [];
  are = inl (receipt, [], refl, of, receipt_of origin old new receipt entered, refl);
  let_go = subst (HasLetGo origin (with_receipts old (receipt ∷ []))) (sym gained.added)
      (let_go_then origin old gained.before (receipt ∷ []) gained.let_go);
  number = entered.calls.number;
  begins = entered_on origin (sight old) (sight new) receipt entered;
}

pub plays_unchanged : (origin : Past) (old new : Held) (call : Call) → new ≡ old
    → Plays origin old new (call ∷ [])
plays_unchanged origin old new call same =
    subst (λ (h : Held). Plays origin old h (call ∷ [])) (sym same)
    (plays_no_call origin old old (call ∷ []) (inr refl) refl (prefix_self old.seen))

pub plays_caught_up : {name : HistoryName} (origin : Past) (old new : Held) (call : Call) → HasCaughtUp origin name old new
    → Plays origin old new (call ∷ [])
plays_caught_up origin old new call caught =
    plays_no_call origin old new (call ∷ []) (inr refl) caught.same
    (sees_on origin (sight old) (sight new) caught.sees)

plays_refused : {A B : Type 0} {name : HistoryName} (origin : Past) (old new : Held) (call : Call)
    → (A × (new ≡ old)) ⊎ (HasCaughtUp origin name old new × B) → Plays origin old new (call ∷ [])
plays_refused origin old new call (inl same) = plays_unchanged origin old new call same.1
plays_refused origin old new call (inr caught) = plays_caught_up origin old new call caught.0

pub plays_served : (origin : Past) (name : HistoryName) (old new : Held) (request : Request)
    (result : Result (Bor Receipt) BookError)
    → LendsServed origin name old new request result → Plays origin old new (Serve request ∷ [])
plays_served origin name old new request (Ok lent) told =
    plays_accepted origin old new (Serve request) lent.now told.gained
    (subst (IsAskedBy (Serve request)) (sym told.asked_for.1) refl) told.entered
plays_served origin name old new request (Err error) told = plays_refused origin old new (Serve request) told

pub plays_applied : (origin : Past) (name : HistoryName) (old new : Held) (asked : BookInput)
    (result : Result (Bor Receipt) BookError)
    → LendsApplied origin name old new asked result → Plays origin old new (Apply asked ∷ [])
plays_applied origin name old new asked (Ok lent) told =
    plays_accepted origin old new (Apply asked) lent.now told.gained told.asked_for told.entered
plays_applied origin name old new asked (Err error) told = plays_refused origin old new (Apply asked) told

-- ---- two seats that had made no call before their scripts, beside one that made its calls before

pub has_played : (origin : Past) (made seat : Held) (calls : List Call) → made ≡ new_seat made.number made.seen 1
    → Plays origin made seat calls → HasPlayed origin calls seat
has_played origin made seat calls is plays =
    (made.number, made.seen, subst (λ (s : Held). Plays origin s seat calls) is plays)

module _ (origin : Past) (a : Held) (calls : List Call) (played : HasPlayed origin calls a) where
  none : (ls : List Line) → AllZip (LetsGo (IsDropped origin a.seen)) [] ls → ls ≡ []
  none [] go = refl
  none (l ∷ ls) go = absurd go

  lists_played : lists a ≡ a.own ∷ []
  lists_played = ap (λ (l : List Line). a.own ∷ l) (none a.joined played.2.let_go.joined)

  line_played : (whole : Log) → IsPrefix a.seen whole → IsLineOf origin whole calls a.own
  line_played whole on = record {
    seat = a.number;
    receipts = played.2.receipts;
    are = told_later origin a.number a.seen whole calls played.2.receipts on played.2.are;
    let_go = lets_go_weaker (IsDropped origin a.seen) (IsDropped origin whole)
        (λ n dropped. dropped_later origin a.seen whole n on dropped) _ a.own played.2.let_go.own;
  }

-- the first of three seats, the second and the third
seen_of : (whole : Log) (x : Held) (xs : List Held) → HaveSeen whole (x ∷ xs)
    → IsPrefix x.seen whole × HaveSeen whole xs
seen_of whole x xs seen = (
  All-head (λ (h : Held). IsPrefix h.seen whole) x xs seen,
  All-tail (λ (h : Held). IsPrefix h.seen whole) x xs seen,
)

lists_given : (seat left : Held) → HasGivenTwo seat left → lists left ≡ lists seat
lists_given seat left gave = ap lists gave.same

played : (origin : Past) (parts : ℕ) (name : HistoryName) (seat left a b : Held) (cs ds : List Call) (settled : Settled)
    → HasGivenTwo seat left → HasPlayed origin cs a → HasPlayed origin ds b
    → AreSettled origin parts name (left ∷ a ∷ b ∷ []) settled → IsPlayed origin name seat cs ds settled
played origin parts name seat left a b cs ds settled gave one two all =
    let first = seen_of all.whole left (a ∷ b ∷ []) all.seen in
    let second = seen_of all.whole a (b ∷ []) first.1 in
    let third = seen_of all.whole b [] second.1 in
    record {
      one = a.own;
      two = b.own;
      whole = all.whole;
      past = all.past;
      was_seen = all.was_seen;
      ended = all.ended;
      begins = prefix_trans seat.seen left.seen all.whole gave.begins first.0;
      of_first = line_played origin a cs one all.whole second.0;
      of_second = line_played origin b ds two all.whole third.0;
      settled_all = subst (λ (ls : List Line). IsSettled origin all.whole all.past ls settled)
          (λ i. lists_given seat left gave i ++ (lists_played origin a cs one i
          ++ (lists_played origin b ds two i ++ []))) all.one_history;
    }

pub played_by : {E : Type 0} (origin : Past) (parts : ℕ) (name : HistoryName) (seat left a b : Held) (cs ds : List Call)
    (seats : List Held) (result : Result Settled E) → HasGivenTwo seat left → HasPlayed origin cs a
    → HasPlayed origin ds b → seats ≡ left ∷ a ∷ b ∷ []
    → IfOk result (λ s. AreSettled origin parts name seats s)
    → IfOk result (λ s. IsPlayed origin name seat cs ds s)
played_by origin parts name seat left a b cs ds seats (Ok settled) gave one two is told =
    played origin parts name seat left a b cs ds settled gave one two
    (subst (λ (l : List Held). AreSettled origin parts name l settled) is told)
played_by origin parts name seat left a b cs ds seats (Err error) gave one two is told = told

-- the same seats, where they couldn't be settled
pub stopped : (origin : Past) (parts : ℕ) (name : HistoryName) (seat left a b : Held) (cs ds : List Call)
    (seats back : List Held) (reason : SettleRefusal) (alone : Option Held) → HasGivenTwo seat left
    → HasPlayed origin cs a → HasPlayed origin ds b → seats ≡ left ∷ a ∷ b ∷ []
    → (back ≡ seats) × (alone ≡ None) → AreUnsettled origin parts name seats reason
    → IsUnplayed seat reason alone back ⊎ IsStopped origin parts name seat cs ds reason alone back
stopped origin parts name seat left a b cs ds seats back reason alone gave one two are handed why = inr (record {
  left = left;
  one = a;
  two = b;
  gave = gave;
  played_one = one;
  played_two = two;
  handed_back = handed.0 ∙ are;
  listed = handed.1;
  why = subst (λ (l : List Held). AreUnsettled origin parts name l reason) (sym handed.0) why;
})

-- what holds of an error by two things that do
pub err_by : {X E : Type 0} {P Q R : E → Type 0} (result : Result X E) → ((e : E) → P e → Q e → R e)
    → IfErr result P → IfErr result Q → IfErr result R
err_by (Ok x) f p q = p
err_by (Err e) f p q = f e p q

-- two parts fewer, after two splits
pub gave_two : {name : HistoryName} (origin : Past) (seat middle left one two : Held)
    → middle ≡ record seat { parts = seat.parts - 1; seen = middle.seen }
    → left ≡ record middle { parts = middle.parts - 1; seen = left.seen } → HasSplit origin name seat middle one
    → HasSplit origin name middle left two → HasGivenTwo seat left
gave_two origin seat middle left one two first second split again =
    let fewer : seat.parts - 1 - 1 ≡ seat.parts - 2 = omega arith in
    record {
      same =
          second ∙ ap (λ (s : Held). record s { parts = s.parts - 1; seen = left.seen }) first
          ∙ ap (λ (n : ℕ). record seat { parts = n; seen = left.seen }) fewer;
      begins = prefix_trans seat.seen middle.seen left.seen (split_on origin (sight seat) (sight middle) (sight one)
          split)
          (split_on origin (sight middle) (sight left) (sight two) again);
    }
