use Rattle.std.proofs.Common.{◌≡◌, ◌+◌, List, [], ◌∷◌, ◌++◌, map, take, sym, ap, ◌∙◌, subst, arith}
use Rattle.std.proofs.lemmas.List.{map_more, take_all}
use Rattle.mapping_model.specs.declared.header_lines.HeaderLine.{HeaderLine}
use Rattle.stub_response.proofs.AlikeLemmas.{needed_more}
use Rattle.template_machine.specs.Program.{FindsSame}
use Rattle.template_tree.specs.Source.{Source}
use Rattle.stub_response.specs.Inner.Alike.{IsNeededBy}
use Rattle.stub_response.proofs.needs.needed_by_headers.Goals as goal

pub loop-header-preserved : goal.loop-header-preserved
loop-header-preserved c =
    let lines : List (HeaderLine Source) = c.args.headers.now in
    let i = c.loop-header.header-index in
    let item : HeaderLine Source = c.header-item.result in
    let value = λ (line : HeaderLine Source). line.value in
    let next : map value (take (i + 1) lines) ≡ map value (take i lines) ++ item.value ∷ [] =
    map_more value lines i item (omega arith)
    ∙ ap (λ (l : HeaderLine Source). map value (take i lines) ++ l.value ∷ [])
    (sym c.header-item.is) in
    subst (IsNeededBy c.add_needed.new.needed) (sym next)
    (needed_more c.add_needed.new.needed c.loop-header.needed (map value (take i lines)) item.value
    c.add_needed.ensures.more c.loop-header.invariant
    (λ r r' alike. subst (λ s. FindsSame s r r') c.program.ensures.source (c.add_needed.ensures.finds r r' alike)))

pub returns : goal.returns
returns c =
    let lines : List (HeaderLine Source) = c.args.headers.now in
    let i = c.loop-header.header-index in
    let whole : take i lines ≡ lines = take_all i lines (omega arith) in
    subst (λ (ls : List (HeaderLine Source)).
    IsNeededBy c.loop-header.needed (map (λ (line : HeaderLine Source). line.value) ls))
    whole c.loop-header.invariant
