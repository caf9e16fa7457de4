use Rattle.std.proofs.Common.{None, Some, [], ap, ◌∙◌}
use Rattle.std.specs.List.{slice_split}
use Rattle.std.specs.Option.{option_map_or}
use Rattle.mock_request.specs.Url.{is_slash}
use Rattle.path_template.proofs.Cuts.{first_cut}
use Rattle.path_template.proofs.segments.Segments.split_first.Goals as goal

pub returns-in-Some : goal.returns-in-Some
returns-in-Some c =
    ap (λ o. option_map_or (λ rest. slice_split is_slash rest.now) o []) c.in_ok-rest.was
    ∙ first_cut c.in_ok-rest.rest.now (Some (c.in-Some.first, c.in-Some.rest)) c.in-Some.ensures.cases

pub returns-in-None : goal.returns-in-None
returns-in-None c =
    ap (λ o. option_map_or (λ rest. slice_split is_slash rest.now) o []) c.in_ok-rest.was
    ∙ first_cut c.in_ok-rest.rest.now None c.in-None.ensures.cases
