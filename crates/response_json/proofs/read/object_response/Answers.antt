use Rattle.std.proofs.Common.{◌≡◌, ℕ, List, Bor, map, ap, ◌∙◌}
use Rattle.json_reading.specs.Fields.{only}
use Rattle.response_json.specs.Reading.{response_names}
use Rattle.serde_json.specs.View.{view}
use Rattle.response_json.proofs.read.object_response.Goals as goal

pub returns : goal.returns
returns c =
    let names : map (λ (name : Bor (List ℕ)). name.now) c.as_slice.result.now ≡ response_names =
    ap (map (λ (name : Bor (List ℕ)). name.now)) c.as_slice.ensures in
    c.only.ensures
    ∙ ap (λ ns. only ns (view c.args.value.now) c.in_ok-response_in.field-0) names
    ∙ ap (only response_names (view c.args.value.now)) c.in_ok-response_in.ensures
