use Rattle.std.proofs.Common.{◌+◌, ◌<◌, false, List, ◌++◌, All, length, map, drop, get_or, sym, ap, subst, ◌∙◌, arith}
use Rattle.request_journal.specs.Past.{placed_from}
use Rattle.request_journal.specs.declared.mapping.Mapping.{Mapping}
use Rattle.mapping_store.specs.Kept.{Fits, placed_of}
use Rattle.mapping_store.proofs.SeveralLemmas.{fit_pushed, default_pushed, lasts_at, length-lasts}
use Rattle.mapping_store.proofs.defaults.push_defaults.Goals as goal

pub bounds-lasts-at : goal.bounds-lasts-at
bounds-lasts-at c =
    subst (λ n. c.loop-at.at < n)
    (sym (ap length c.requires.lasts ∙ length-lasts c.args.defaults.now)) c.loop-at-test.true

pub loop-at-preserved : goal.loop-at-preserved
loop-at-preserved c =
    let l = c.loop-at in
    let defaults : List Mapping = c.args.defaults.now in
    let e = c.of_default.result in
    let m : Mapping = (placed_of e).mapping in
    let within : l.at < length defaults = c.loop-at-test.true in
    record {
      fit = subst (All (Fits defaults)) (sym c.push_if.ensures.items)
          (fit_pushed defaults l.entries.items e (get_or c.args.lasts.now l.at false)
          c.of_default.ensures.fits l.invariant.fit);
      added = ap (λ es. map placed_of es ++ placed_from c.args.number (l.at + 1) (drop (l.at + 1) defaults))
          c.push_if.ensures.items
          ∙ default_pushed c.args.number l.at defaults m l.entries.items e (get_or c.args.lasts.now l.at false)
          (placed_from c.args.number 0 defaults) within
          (c.of_default.ensures.placed m)
          (ap (λ bs. get_or bs l.at false) c.requires.lasts ∙ lasts_at defaults l.at false m within)
          l.invariant.added;
      few = omega (arith, l.invariant.few, c.push_if.ensures.len);
      capacity = omega (arith, l.invariant.capacity, c.push_if.ensures.capacity);
    }
