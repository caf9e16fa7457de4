use Rattle.std.proofs.Common.{take}
use Rattle.har_export.specs.Document.{AreEntries}
use Rattle.serde_json.specs.View.{items_view}
use Rattle.har_export.proofs.har.entries.Given as goal

abbrev pub invariant-loop-shared : goal.invariant-loop-shared
invariant-loop-shared l = AreEntries l.fn.target (take l.shared-index l.fn.exchanges) (items_view l.values.items)
