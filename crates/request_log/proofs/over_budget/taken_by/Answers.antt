use Rattle.std.proofs.Common.{◌≡◌, ◌+◌, ℕ, List, [], ◌∷◌, drop, sym, ap, ◌∙◌, subst, arith}
use Rattle.std.proofs.lemmas.List.{drop_all, drop_more}
use Rattle.mapping_model.specs.declared.header_lines.HeaderLine.{HeaderLine}
use Rattle.request_log.proofs.TakenLemmas.{no_template, takes_all, takes_last, takes_more}
use Rattle.request_log.specs.Taken.{MayTake}
use Rattle.stub_response.specs.Response.{body_templates, templates_of}
use Rattle.template_tree.specs.Source.{Source}
use Rattle.request_log.proofs.over_budget.taken_by.Goals as goal

pub loop-header-preserved : goal.loop-header-preserved
loop-header-preserved c =
    let lines : List (HeaderLine Source) = c.args.headers.now in
    let body = c.args.body.now in
    let n = c.args.size in
    let i = c.loop-header.header-index in
    let taken = c.loop-header.taken in
    let item : HeaderLine Source = c.header-item.result in
    let all : List Source = templates_of lines body in
    let next : drop i lines ≡ item ∷ drop (i + 1) lines =
    drop_more lines i item (omega arith) ∙ ap (λ l. l ∷ drop (i + 1) lines) (sym c.header-item.is) in
    let so_far =
    subst (λ (ls : List (HeaderLine Source)). (x y : ℕ) → MayTake (templates_of ls body) n x y
    → MayTake all n (taken.steps + x) (taken.bytes + y)) next c.loop-header.invariant in
    takes_more item.value (templates_of (drop (i + 1) lines) body) all n taken.steps taken.bytes
    c.in_ok-taken.taken.steps c.in_ok-taken.taken.bytes c.in_ok-taken.ensures so_far

pub returns-in-Text : goal.returns-in-Text
returns-in-Text c =
    let lines : List (HeaderLine Source) = c.args.headers.now in
    let n = c.args.size in
    let i = c.loop-header.header-index in
    let taken = c.loop-header.taken in
    let all : List Source = templates_of lines c.args.body.now in
    let ended : drop i lines ≡ [] = drop_all i lines (omega arith) in
    let last : templates_of (drop i lines) c.args.body.now ≡ c.in-Text.template ∷ [] =
    ap (λ (ls : List (HeaderLine Source)). templates_of ls c.args.body.now) ended ∙ ap body_templates c.in-Text.is in
    let so_far =
    subst (λ (ts : List Source). (x y : ℕ) → MayTake ts n x y
    → MayTake all n (taken.steps + x) (taken.bytes + y)) last c.loop-header.invariant in
    takes_last c.with_template-in-Text.result c.in-Text.template all n taken.steps taken.bytes
    c.with_template-in-Text.ensures so_far

pub returns-in-Empty : goal.returns-in-Empty
returns-in-Empty c =
    let lines : List (HeaderLine Source) = c.args.headers.now in
    let n = c.args.size in
    let i = c.loop-header.header-index in
    let taken = c.loop-header.taken in
    let all : List Source = templates_of lines c.args.body.now in
    let ended : drop i lines ≡ [] = drop_all i lines (omega arith) in
    let last : templates_of (drop i lines) c.args.body.now ≡ [] =
    ap (λ (ls : List (HeaderLine Source)). templates_of ls c.args.body.now) ended ∙ no_template c.args.body.now c.in-Empty.is in
    takes_all all n taken.steps taken.bytes
    (subst (λ (ts : List Source). (x y : ℕ) → MayTake ts n x y
    → MayTake all n (taken.steps + x) (taken.bytes + y)) last c.loop-header.invariant)

pub returns-in-Empty-2 : goal.returns-in-Empty-2
returns-in-Empty-2 c =
    let lines : List (HeaderLine Source) = c.args.headers.now in
    let n = c.args.size in
    let i = c.loop-header.header-index in
    let taken = c.loop-header.taken in
    let all : List Source = templates_of lines c.args.body.now in
    let ended : drop i lines ≡ [] = drop_all i lines (omega arith) in
    let last : templates_of (drop i lines) c.args.body.now ≡ [] =
    ap (λ (ls : List (HeaderLine Source)). templates_of ls c.args.body.now) ended ∙ no_template c.args.body.now c.in-Empty.is in
    takes_all all n taken.steps taken.bytes
    (subst (λ (ts : List Source). (x y : ℕ) → MayTake ts n x y
    → MayTake all n (taken.steps + x) (taken.bytes + y)) last c.loop-header.invariant)

pub returns-in-Empty-3 : goal.returns-in-Empty-3
returns-in-Empty-3 c =
    let lines : List (HeaderLine Source) = c.args.headers.now in
    let n = c.args.size in
    let i = c.loop-header.header-index in
    let taken = c.loop-header.taken in
    let all : List Source = templates_of lines c.args.body.now in
    let ended : drop i lines ≡ [] = drop_all i lines (omega arith) in
    let last : templates_of (drop i lines) c.args.body.now ≡ [] =
    ap (λ (ls : List (HeaderLine Source)). templates_of ls c.args.body.now) ended ∙ no_template c.args.body.now c.in-Empty.is in
    takes_all all n taken.steps taken.bytes
    (subst (λ (ts : List Source). (x y : ℕ) → MayTake ts n x y
    → MayTake all n (taken.steps + x) (taken.bytes + y)) last c.loop-header.invariant)
