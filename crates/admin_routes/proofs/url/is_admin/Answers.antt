use Rattle.std.proofs.Common.{true≢false, sym, ap, ◌∙◌}
use Rattle.std.specs.List.{slice_split}
use Rattle.admin_routes.proofs.PathLemmas.{admin_begins, is_admin_means}
use Rattle.admin_routes.specs.Inner.Paths.{is_admin_in}
use Rattle.mock_request.specs.Url.{is_slash}
use Rattle.admin_routes.proofs.url.is_admin.Goals as goal

pub returns-then-starts_with : goal.returns-then-starts_with
returns-then-starts_with c =
    is_admin_means c.args.url.now c.is_admin_path.result
    (c.is_admin_path.ensures ∙ ap (λ path. is_admin_in (slice_split is_slash path)) c.path_of.ensures)

pub returns-else-starts_with : goal.returns-else-starts_with
returns-else-starts_with c = (
  λ admin. absurd (true≢false (sym admin ∙ c.if-starts_with.false)),
  λ admin. let text = admin_begins c.args.url.now admin in absurd (c.if-starts_with.ensures.cases text.0 text.1),
)
