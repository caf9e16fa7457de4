use Rattle.std.proofs.Common.{◌≡◌, ◌+◌, ◌<◌, true, false, [], ◌∷◌, ◌++◌, length, take, drop}
use Rattle.std.proofs.Common.{append_assoc, Bor, sym, ap, ◌∙◌, arith}
use Rattle.std.specs.Prelude.{unwrap_or}
use Rattle.std.proofs.lemmas.List.{get_or_read, map_push}
use Rattle.key_groups.specs.Groups.{times, begins_larger, larger_from}
use Rattle.key_groups.specs.Inner.Maps.{values_at}
use Rattle.key_groups.proofs.StepLemmas.{begins_same, larger_from-step}
use Rattle.key_groups.proofs.places.larger_of.Goals as goal
use Rattle.key_groups.proofs.places.larger_of.Goals.{then-begins_larger+in_ok-push, else-begins_larger}

pub loop-index-preserved : goal.loop-index-preserved
loop-index-preserved g c =
    let same = g.K.PartialEq.eq in
    let keys = c.args.keys.now in
    let i = c.loop-index.index in
    let key = c.index-keys-index.result in
    let old = c.loop-index.larger.items in
    let rest = larger_from same keys (take (i + 1) keys) (drop (i + 1) keys) in
    let positions = c.args.counted.now.positions.items in
    let inside : i < length keys = omega arith in
    let held : i < length positions = let len = c.requires.len in omega arith in
    let position : c.index-position.result.now ≡ times same key (take i keys) + 1 =
    get_or_read positions i c.index-position.result.now held c.index-position.ensures 0
    ∙ c.requires.positions i key inside
    ∙ ap (λ k. times same k (take i keys) + 1) (sym c.index-keys-index.is) in
    let size : c.unwrap_or-size.result ≡ times same key keys =
    c.unwrap_or-size.ensures ∙ ap (λ o. unwrap_or o 0) (c.copied.ensures ∙ c.get.ensures.value)
    ∙ c.requires.sizes (record { ref_ptr = (0, 0); now = key }) in
    let begins : c.begins_larger.result ≡ begins_larger same keys (take i keys) key =
    begins_same same keys i key c.index-position.result.now c.unwrap_or-size.result c.begins_larger.result
    c.begins_larger.ensures position size in
    elim c.if-begins_larger.branch [
      | then-begins_larger+in_ok-push w ↦
          ap (λ v. values_at v.items ++ rest) w.larger-is
          ∙ ap (λ xs. values_at xs ++ rest) w.in_ok-push.ensures.items
          ∙ ap (λ xs. xs ++ rest) (map_push (λ (k : Bor g.row.K.Denot). k.now) old _)
          ∙ append_assoc (values_at old) (key ∷ []) rest
          ∙ ap (λ t. values_at old ++ t)
          (sym (larger_from-step same keys i key true inside c.index-keys-index.is
          (sym begins ∙ w.if-begins_larger.true)))
          ∙ c.loop-index.invariant
      | else-begins_larger w ↦
          ap (λ v. values_at v.items ++ rest) w.larger-is
          ∙ ap (λ t. values_at old ++ t)
          (sym (larger_from-step same keys i key false inside c.index-keys-index.is
          (sym begins ∙ w.if-begins_larger.false)))
          ∙ c.loop-index.invariant
    ]
