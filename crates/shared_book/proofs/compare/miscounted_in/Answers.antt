use Rattle.std.proofs.Common.{◌≡◌, ℕ, ◌+◌, List, length, arith, subst, ap}
use Rattle.std.proofs.lemmas.List.Sorted.{length_permutation}
use Rattle.std.specs.List.{range_with_len}
use Rattle.std.specs.List.Sorted.{IsPermutation}
use Rattle.std.specs.Prelude.{MatchOption}
use Rattle.shared_book.proofs.CountLemmas.{counted_moved}
use Rattle.shared_book.specs.Held.{all_lists, all_numbers}
use Rattle.shared_book.specs.Settled.{IsMiscounted}
use Rattle.shared_book.proofs.compare.miscounted_in.Goals as goal

pub miscounted-requires-clause-fits : goal.miscounted-requires-clause-fits
miscounted-requires-clause-fits g c =
    let all : List ℕ = all_numbers (all_lists c.args.seats.now) in
    let moved : IsPermutation all c.sorted_numbers-numbers.result.items =
    subst (λ (l : List ℕ). IsPermutation l c.sorted_numbers-numbers.result.items)
    c.in_ok-gather_numbers.ensures c.sorted_numbers-numbers.ensures.moved in
    let long : length c.sorted_numbers-numbers.result.items ≡ length all =
    length_permutation all c.sorted_numbers-numbers.result.items moved in
    let same : length c.as_slice.result.now ≡ length c.sorted_numbers-numbers.result.items =
    ap length c.as_slice.ensures.value in
    omega (arith, long, same, c.requires.fits)

pub returns : goal.returns
returns g c =
    let all : List ℕ = all_numbers (all_lists c.args.seats.now) in
    let moved : IsPermutation all c.sorted_numbers-numbers.result.items =
    subst (λ (l : List ℕ). IsPermutation l c.sorted_numbers-numbers.result.items)
    c.in_ok-gather_numbers.ensures c.sorted_numbers-numbers.ensures.moved in
    counted_moved c.args.start all c.sorted_numbers-numbers.result.items c.miscounted.result moved
    (subst (λ (l : List ℕ). MatchOption c.miscounted.result
    (l ≡ range_with_len (c.args.start + 1) (length l)) (IsMiscounted c.args.start l))
    c.as_slice.ensures.value c.miscounted.ensures)
