use Rattle.std.proofs.Common.{◌≡◌, ◌+◌, List, [], ◌∷◌, drop, sym, ap, ◌∙◌, subst, arith}
use Rattle.std.specs.Prelude.{◌↔◌}
use Rattle.std.proofs.lemmas.List.{drop_all, drop_more}
use Rattle.mapping_model.specs.declared.header_lines.HeaderLine.{HeaderLine}
use Rattle.stub_response.proofs.LimitLemmas.{last_decides}
use Rattle.template_tree.specs.Source.{Source}
use Rattle.stub_response.specs.Limits.{KeepTo}
use Rattle.stub_response.specs.Response.{body_templates, templates_of}
use Rattle.stub_response.proofs.limits.keep_to.Goals as goal

pub loop-header-preserved : goal.loop-header-preserved
loop-header-preserved c =
    let lines : List (HeaderLine Source) = c.args.headers.now in
    let body = c.args.body.now in
    let n = c.args.size in
    let i = c.loop-header.header-index in
    let rest = c.loop-header.rest in
    let item : HeaderLine Source = c.header-item.result in
    let more : List Source = templates_of (drop (i + 1) lines) body in
    let next : drop i lines ≡ item ∷ drop (i + 1) lines =
    drop_more lines i item (omega arith) ∙ ap (λ l. l ∷ drop (i + 1) lines) (sym c.header-item.is) in
    let kept : KeepTo rest (item.value ∷ more) n ↔ KeepTo c.args.limits (templates_of lines body) n =
    subst (λ (ls : List (HeaderLine Source)). KeepTo rest (templates_of ls body) n
    ↔ KeepTo c.args.limits (templates_of lines body) n) next c.loop-header.invariant in
    let step = c.in-Some.ensures.some more in
    (λ k. kept.0 (step.0 k), λ k. step.1 (kept.1 k))

pub returns-in-Text : goal.returns-in-Text
returns-in-Text c =
    let lines : List (HeaderLine Source) = c.args.headers.now in
    let n = c.args.size in
    let i = c.loop-header.header-index in
    let rest = c.loop-header.rest in
    let all : List Source = templates_of lines c.args.body.now in
    let ended : drop i lines ≡ [] = drop_all i lines (omega arith) in
    let last : templates_of (drop i lines) c.args.body.now ≡ c.in-Text.template ∷ [] =
    ap (λ (ls : List (HeaderLine Source)). templates_of ls c.args.body.now) ended ∙ ap body_templates c.in-Text.is in
    let kept : KeepTo rest (c.in-Text.template ∷ []) n ↔ KeepTo c.args.limits all n =
    subst (λ (ts : List Source). KeepTo rest ts n ↔ KeepTo c.args.limits all n) last c.loop-header.invariant in
    last_decides c.rest_of-in-Text.result c.args.limits rest c.in-Text.template all n c.is_some.result c.is_some.ensures
    c.rest_of-in-Text.ensures.none c.rest_of-in-Text.ensures.some kept
