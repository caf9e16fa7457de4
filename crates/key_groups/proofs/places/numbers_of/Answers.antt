use Rattle.std.proofs.Common.{◌≡◌, ◌+◌, ◌<◌, ◌≤◌, [], ◌∷◌, ◌++◌, length, take, Bor, sym, ap, ◌∙◌, arith}
use Rattle.std.specs.List.{position_from}
use Rattle.std.proofs.lemmas.List.{map_more, length-map, length-take-le}
use Rattle.key_groups.specs.Inner.Maps.{values_at}
use Rattle.key_groups.proofs.MapLemmas.{Numbers-push}
use Rattle.key_groups.proofs.places.numbers_of.Goals as goal

pub loop-index-preserved : goal.loop-index-preserved
loop-index-preserved g c = λ q.
    let same = g.K.PartialEq.eq in
    let laws = g.met.K.Eq.laws in
    let keys = c.args.keys.now in
    let i = c.loop-index.index in
    let key = c.index-keys-index.result in
    let inside : i < length keys = omega arith in
    let within : i ≤ length keys = omega arith in
    let number : i + 1 ≡ 1 + length (values_at (take i keys)) =
    let mapped : length (values_at (take i keys)) ≡ length (take i keys) =
    length-map (take i keys) (λ (k : Bor g.row.K.Denot). k.now) in
    let front : length (take i keys) ≡ i = length-take-le i keys within in
    omega arith in
    let more : values_at (take (i + 1) keys) ≡ values_at (take i keys) ++ key.now ∷ [] =
    map_more (λ (k : Bor g.row.K.Denot). k.now) keys i key inside
    ∙ ap (λ k. values_at (take i keys) ++ k.now ∷ []) (sym c.index-keys-index.is) in
    Numbers-push same laws (values_at (take i keys)) c.loop-index.numbers c.insert_new.new.numbers key.now (i + 1)
    c.in_ok-insert_new.ensures number c.loop-index.invariant q
    ∙ ap (position_from (λ other. same other q.now) 1) (sym more)
