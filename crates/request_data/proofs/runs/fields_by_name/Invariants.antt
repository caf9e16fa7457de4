use Rattle.std.proofs.Common.{◌≡◌, ℕ, List, [], is_some}
use Rattle.std.specs.BTreeMap.{get_by_text}
use Rattle.std.specs.List.{list_any}
use Rattle.std.specs.Option.{unwrap_or}
use Rattle.std.specs.Str.{bytes_eq}
use Rattle.mock_request.specs.Values.{values_of}
use Rattle.request_data.specs.Inner.RunFields.{runs_in}
use Rattle.request_data.specs.Inner.Runs.{pairs_of_runs}
use Rattle.request_data.proofs.runs.fields_by_name.Given as goal

abbrev pub invariant-loop-name : goal.invariant-loop-name
invariant-loop-name l =
    ((name : List ℕ)
    → unwrap_or (get_by_text l.groups name) [] ≡ values_of name (pairs_of_runs (runs_in l.yielded)))
    × ((name : List ℕ)
    → is_some (get_by_text l.groups name)
    ≡ list_any (λ pair. bytes_eq name pair.0) (pairs_of_runs (runs_in l.yielded)))
