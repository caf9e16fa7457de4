use Rattle.std.proofs.Common.{◌≡◌, ◌+◌, ◌<◌, [], ◌∷◌, ◌++◌, length, get_or, take, sym, ap, ◌∙◌, arith}
use Rattle.std.specs.Prelude.{unwrap_or}
use Rattle.std.proofs.lemmas.List.{take_more, length_push, get_or_read}
use Rattle.key_groups.specs.Groups.{times}
use Rattle.key_groups.proofs.MapLemmas.{Counts-push, PositionsBelow-push}
use Rattle.key_groups.proofs.StepLemmas.{count_by-take-lt}
use Rattle.key_groups.proofs.places.count.Goals as goal

pub overflow_add-position : goal.overflow_add-position
overflow_add-position g c =
    let same = g.K.PartialEq.eq in
    let keys = c.args.keys.now in
    let i = c.loop-key.key-index in
    let key = c.key-item.result in
    let inside : i < length keys = omega arith in
    let counted : c.unwrap_or-position.result ≡ times same key (take i keys) =
    c.unwrap_or-position.ensures ∙ ap (λ o. unwrap_or o 0) (c.copied.ensures ∙ c.get.ensures.value)
    ∙ c.loop-key.invariant.counts (record { ref_ptr = (0, 0); now = key }) in
    let below = count_by-take-lt (λ other. same other key) keys i inside in
    omega arith

pub loop-key-preserved : goal.loop-key-preserved
loop-key-preserved g c =
    let same = g.K.PartialEq.eq in
    let laws = g.met.K.Eq.laws in
    let keys = c.args.keys.now in
    let i = c.loop-key.key-index in
    let key = c.key-item.result in
    let w = c.unwrap_or-position.result + 1 in
    let inside : i < length keys = omega arith in
    let counted : c.unwrap_or-position.result ≡ times same key (take i keys) =
    c.unwrap_or-position.ensures ∙ ap (λ o. unwrap_or o 0) (c.copied.ensures ∙ c.get.ensures.value)
    ∙ c.loop-key.invariant.counts (record { ref_ptr = (0, 0); now = key }) in
    let front : take (i + 1) keys ≡ take i keys ++ key ∷ [] =
    take_more keys i key inside ∙ ap (λ k. take i keys ++ k ∷ []) (sym c.key-item.is) in
    record {
      counts = λ q.
          Counts-push same laws (take i keys) c.loop-key.sizes c.insert.new.self key w c.in_ok-insert.ensures.updates.0
          (ap (λ n. n + 1) counted) c.loop-key.invariant.counts q
          ∙ ap (times same q.now) (sym front);
      len =
          ap length c.in_ok-push.ensures.items ∙ length_push c.loop-key.positions.items w
          ∙ ap (λ n. n + 1) c.loop-key.invariant.len;
      placed = λ j d below.
          ap (λ xs. get_or xs j 0) c.in_ok-push.ensures.items
          ∙ PositionsBelow-push same laws keys i c.loop-key.positions.items w c.loop-key.invariant.len
          (λ e. ap (λ n. n + 1) counted
          ∙ ap (λ k. times same k (take i keys) + 1) (get_or_read keys i key inside c.key-item.is e))
          c.loop-key.invariant.placed j d below;
    }
