use Rattle.std.proofs.Common.{◌≡◌, ◌+◌, ◌<◌, [], ◌∷◌, ◌++◌, length, get_or, take, drop}
use Rattle.std.proofs.Common.{append_assoc, sym, ap, ◌∙◌, arith}
use Rattle.std.specs.Prelude.{unwrap_or}
use Rattle.std.specs.List.{position_from}
use Rattle.std.proofs.lemmas.List.{get_or_read}
use Rattle.key_groups.specs.declared.place.Place.{Place}
use Rattle.key_groups.specs.Groups.{times, group_of, larger_groups, places_from}
use Rattle.key_groups.specs.Inner.Maps.{values_at}
use Rattle.key_groups.proofs.StepLemmas.{places_from-step, place_of-parts}
use Rattle.key_groups.proofs.places.places_of.Goals as goal

pub loop-index-preserved : goal.loop-index-preserved
loop-index-preserved g c =
    let same = g.K.PartialEq.eq in
    let keys = c.args.keys.now in
    let i = c.loop-index.index in
    let key = c.index-keys-index.result in
    let again = c.index-keys-index-in-loop-index.result in
    let here = get_or keys i key in
    let old = c.loop-index.places.items in
    let rest = places_from same keys (take (i + 1) keys) (drop (i + 1) keys) in
    let positions = c.in_ok-counted.counted.positions.items in
    let inside : i < length keys = omega arith in
    let held : i < length positions = let len = c.in_ok-counted.ensures.len in omega arith in
    let place : Place = record {
      position = c.index-position.result.now;
      size = c.unwrap_or-size.result;
      group = c.copied-group.result;
    } in
    let position : c.index-position.result.now ≡ times same here (take i keys) + 1 =
    get_or_read positions i c.index-position.result.now held c.index-position.ensures 0
    ∙ c.in_ok-counted.ensures.positions i key inside in
    let size : c.unwrap_or-size.result ≡ times same here keys =
    c.unwrap_or-size.ensures ∙ ap (λ o. unwrap_or o 0) (c.copied.ensures ∙ c.get.ensures.value)
    ∙ c.in_ok-counted.ensures.sizes (record { ref_ptr = (0, 0); now = key })
    ∙ ap (λ k. times same k keys) c.index-keys-index.is in
    let larger : values_at c.as_slice.result.now ≡ larger_groups same keys =
    ap (λ xs. values_at xs) c.as_slice.ensures.value ∙ c.in_ok-larger.ensures in
    let group : c.copied-group.result ≡ group_of same keys here =
    c.copied-group.ensures ∙ c.get-in-loop-index.ensures.value
    ∙ c.in_ok-numbers.ensures (record { ref_ptr = (0, 0); now = again })
    ∙ ap (λ xs. position_from (λ other. same other again) 1 xs) larger
    ∙ ap (λ k. position_from (λ other. same other k) 1 (larger_groups same keys))
    (get_or_read keys i again inside c.index-keys-index-in-loop-index.is key) in
    ap (λ xs. xs ++ rest) c.in_ok-push.ensures.items
    ∙ append_assoc old (place ∷ []) rest
    ∙ ap (λ t. old ++ t)
    (ap (λ p. p ∷ rest) (place_of-parts same keys i here place.position place.size place.group position size group)
    ∙ sym (places_from-step same keys i key inside))
    ∙ c.loop-index.invariant
