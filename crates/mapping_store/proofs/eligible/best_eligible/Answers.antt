use Rattle.std.proofs.Common.{◌≡◌, ◌⊎◌, ◌∙◌, ℕ, List}
use Rattle.mapping_model.specs.declared.url_spec.UrlSpec.TheVariants.{Url, UrlPath}
use Rattle.mock_request.specs.Url.{path_of}
use Rattle.request_journal.specs.Choice.{IsEligible}
use Rattle.request_match.specs.Parts.Key.{key_of}
use Rattle.request_match.specs.declared.url_key.UrlKey.TheVariants.{Any}
use Rattle.scenario_core.specs.Scenarios.{state_of}
use Rattle.mapping_store.specs.declared.entry.Entry.{Entry}
use Rattle.mapping_store.specs.Kept.{placed_of}
use Rattle.mapping_store.specs.Inner.Best.{IsBest}
use Rattle.mapping_store.proofs.BestLemmas.{better_of, of_all}
use Rattle.mapping_store.proofs.KeyLemmas.{eligible_among}
use Rattle.mapping_store.proofs.eligible.best_eligible.Goals as goal

-- each eligible entry is known by the request's URL, by its path, or by none
pub returns-clause-found : goal.returns-clause-found
returns-clause-found c =
    let entries : List Entry = c.args.entries.now in
    let text : List ℕ = c.args.request.now.url in
    let Meets : Entry → Type 0 =
    λ e. IsEligible (state_of c.args.scenarios.now) c.args.request.now (placed_of e).mapping in
    let HasNone : Entry → Type 0 = λ e. e.key ≡ Any in
    let HasUrl : Entry → Type 0 = λ e. e.key ≡ key_of (Url text) in
    let HasPath : Entry → Type 0 = λ e. e.key ≡ key_of (UrlPath (path_of text)) in
    let HasLiteral : Entry → Type 0 = λ e. HasUrl e ⊎ HasPath e in
    let one = c.in_ok-by_any.ensures in
    let two = c.in_ok-by_url.ensures in
    let three = c.in_ok-by_path.ensures in
    let by_url : IsBest HasUrl Meets entries c.in_ok-by_url.by_url =
    rw (one.same_entries, one.same_request, c.url_key-url.ensures) at two.found in
    let same_two = two.same_entries ∙ one.same_entries in
    let request_two = two.same_request ∙ one.same_request in
    let by_path : IsBest HasPath Meets entries c.in_ok-by_path.by_path =
    rw (same_two, request_two, c.path_key-path.ensures) at three.found in
    let same = three.same_entries ∙ same_two in
    let literal : IsBest HasLiteral Meets entries c.better-by_literal.result =
    better_of HasUrl HasPath Meets entries c.in_ok-by_url.by_url c.in_ok-by_path.by_path c.better-by_literal.result
    by_url by_path (rw same at c.better-by_literal.ensures) in
    of_all (λ e. HasNone e ⊎ HasLiteral e) Meets entries
    (λ k d within. eligible_among (state_of c.args.scenarios.now) c.args.request.now c.args.defaults.now _
    (c.requires.fit k d within))
    c.better.result
    (better_of HasNone HasLiteral Meets entries c.in_ok-by_any.by_any c.better-by_literal.result c.better.result
    one.found literal (rw same at c.better.ensures))
