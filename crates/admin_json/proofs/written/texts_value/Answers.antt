use Rattle.std.proofs.Common.{◌≡◌, map, ap, sym, ◌∙◌}
use Rattle.std.proofs.lemmas.Iterator.Adapters.{YieldsList-from_vec}
use Rattle.std.proofs.lemmas.Iterator.Consumers.{YieldsList-end}
use Rattle.std.proofs.lemmas.List.{map-id}
use Rattle.serde_json.proofs.Views.{view-Array}
use Rattle.serde_json.specs.Data.{array, string}
use Rattle.serde_json.specs.View.{items_of}
use Rattle.admin_json.proofs.written.texts_value.Goals as goal

pub returns : goal.returns
returns c =
    let same = c.into_iter-text-iterator.ensures.into_iter_gives in
    let given = YieldsList-from_vec c.args.texts.items same.0 (same.1 ∙ c.args.texts.ok.0) in
    let end =
    YieldsList-end given c.loop-text.yielded c.loop-text.text-iterator c.loop-text.yielded_by c.next.result
    c.next.new.self c.in-None.is c.next.ensures.steps in
    let whole : c.loop-text.yielded ≡ c.args.texts.items = sym (map-id c.loop-text.yielded) ∙ end.0 in
    view-Array c.loop-text.values ∙ ap (λ ds. array (items_of ds)) c.loop-text.invariant
    ∙ ap (λ ts. array (items_of (map string ts))) whole
