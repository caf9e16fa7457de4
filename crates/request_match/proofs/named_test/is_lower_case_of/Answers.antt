use Rattle.std.proofs.Common.{◌≡◌, ap, arith, sym, ◌∙◌, map, get_or}
use Rattle.std.specs.Char.{to_ascii_lowercase}
use Rattle.std.proofs.lemmas.Bool.{false_from_ne_true}
use Rattle.std.proofs.lemmas.List.{get_or-map, take_all}
use Rattle.std.proofs.lemmas.Slice.Eq.{bytes_eq-Decides}
use Rattle.request_match.proofs.named_test.is_lower_case_of.Goals as goal

pub returns-then-lower-text : goal.returns-then-lower-text
returns-then-lower-text c =
    let name = c.args.name.now in
    let text = c.args.text.now in
    let i = c.loop-i.i in
    sym (false_from_ne_true _ (λ found.
    let same = (bytes_eq-Decides (map to_ascii_lowercase name) text).0 found in
    let read : get_or (map to_ascii_lowercase name) i 0 ≡ get_or text i 0 = ap (λ bs. get_or bs i 0) same in
    let here = get_or-map to_ascii_lowercase name i 0 0 (omega arith) in
    absurd (c.if-lower-text.true cc)))

pub returns : goal.returns
returns c =
    let name = c.args.name.now in
    let text = c.args.text.now in
    let i = c.loop-i.i in
    sym ((bytes_eq-Decides (map to_ascii_lowercase name) text).1
    (ap (map to_ascii_lowercase) (sym (take_all i name (omega arith))) ∙ c.loop-i.invariant
    ∙ take_all i text (omega arith)))
