-- What a store holds and what a past has live.
use Rattle.std.proofs.Common.{List}
use Rattle.std.specs.List.{Any}
use Rattle.std.specs.List.Sorted.{IsPermutation}
use Rattle.std.proofs.lemmas.List.Sorted.{IsPermutation-sym}
use Rattle.request_journal.specs.Live.{live}
use Rattle.request_journal.specs.Past.{Past, Placed}
use Rattle.stub_book.proofs.LeftLemmas.{Any-permutation}

module _ (P : Placed → Type 0) (past : Past) (placed : List Placed) (same : IsPermutation (live past) placed) where
  -- what some mapping of the store meets, some live one does
  pub live_some : Any P placed → Any P (live past)
  live_some a = Any-permutation P placed (live past) (IsPermutation-sym (live past) placed same) a

  pub stored_some : Any P (live past) → Any P placed
  stored_some a = Any-permutation P (live past) placed same a

  pub live_no : ¬ (Any P placed) → ¬ (Any P (live past))
  live_no none a = none (stored_some a)
