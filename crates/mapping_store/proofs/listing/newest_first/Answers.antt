use Rattle.std.proofs.Common.{subst, IsPermutation}
use Rattle.std.proofs.lemmas.Result.{IfOk-weaker}
use Rattle.mapping_store.proofs.listing.newest_first.Goals as goal

pub returns : goal.returns
returns c =
    IfOk-weaker c.mappings_of.result _ _ (λ listed is. record {
      ordered = c.sort.new.listed.items;
      all = subst (λ l. IsPermutation l c.sort.new.listed.items) c.in_ok-listed.ensures c.sort.ensures.same;
      newest_first = c.sort.ensures.newest_first;
      mappings = is;
    }) c.mappings_of.ensures
