-- Seats whose receipts were compared with the history, of which each has seen a beginning.
use Rattle.std.proofs.Common.{◌≡◌, ◌≢◌, ◌∙◌, sym, subst, ℕ, Bool, true, false, List, Ok, Err, IfOk, IfErr, IsTrue, ◌↔◌}
use Rattle.std.specs.Prelude.{Result}
use mathlib.Core.Bool.{true≢false}
use Rattle.logbook.specs.Pages.{Book as HistoryName}
use Rattle.request_journal.specs.Past.{Past}
use Rattle.shared_book.specs.Held.{Held, all_lists, all_parts}
use Rattle.shared_book.specs.Inner.Ends.{HaveAgreed}
use Rattle.shared_book.specs.Reached.{IsLawful, IsPastOf, Log, MayFollow}
use Rattle.shared_book.specs.Settled.{AreUnsettled, HaveSeen, IsSettled, IsUnsettled}
use Rattle.shared_book.specs.declared.settled.SettleRefusal.{SettleRefusal}
use Rattle.shared_book.specs.declared.settled.Settled.{Settled}
use Rattle.shared_history.specs.Seal.{IsSeen}

-- a test that says no
pub not_all : (test : Bool) (have parts all : ℕ) → (IsTrue test ↔ (have ≡ parts)) → test ≡ false → parts ≡ all
    → have ≢ all
not_all test have parts all is says same = λ (e : have ≡ all). true≢false (sym (is.1 (e ∙ sym same)) ∙ says)

-- a test that says yes
pub are_all : (test : Bool) (have parts all : ℕ) → (IsTrue test ↔ (have ≡ parts)) → test ≡ true → parts ≡ all
    → have ≡ all
are_all test have parts all is says same = is.0 says ∙ same

pub have_agreed : {E : Type 0} (origin : Past) (parts : ℕ) (whole : Log) (past : Past) (seats : List Held)
    → HaveSeen whole seats → (later : List Held) (result : Result Settled E) → later ≡ seats
    → all_parts seats ≡ parts → IfOk result (λ s. IsSettled origin whole past (all_lists later) s)
    → IfOk result (λ s. HaveAgreed origin parts whole past seats s)
have_agreed origin parts whole past seats seen later (Ok settled) same all is = record {
  all = all;
  seen = seen;
  one_history = subst (λ (hs : List Held). IsSettled origin whole past (all_lists hs) settled) same is;
}
have_agreed origin parts whole past seats seen later (Err error) same all is = is

module _ (origin : Past) (parts : ℕ) (name : HistoryName) (whole : Log) (past : Past) (seats : List Held)
    (was_seen : IsSeen MayFollow name whole) (seen : HaveSeen whole seats) where
  pub are_unsettled : (reason : SettleRefusal) → IsLawful origin whole → IsPastOf origin whole past
      → IsUnsettled origin parts past seats reason → AreUnsettled origin parts name seats reason
  are_unsettled reason lawful past_of why = record {
    whole = whole;
    past = past;
    was_seen = was_seen;
    seen = seen;
    lawful = lawful;
    past_of = past_of;
    why = why;
  }

  pub why_unsettled : {X : Type 0} (later : List Held) (result : Result X SettleRefusal) → later ≡ seats
      → IsLawful origin whole → IsPastOf origin whole past
      → IfErr result (λ reason. IsUnsettled origin parts past later reason)
      → IfErr result (λ reason. AreUnsettled origin parts name seats reason)
  why_unsettled later (Ok settled) same lawful past_of why = why
  why_unsettled later (Err reason) same lawful past_of why =
      are_unsettled reason lawful past_of
      (subst (λ (hs : List Held). IsUnsettled origin parts past hs reason) same why)
