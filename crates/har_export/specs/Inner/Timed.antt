-- Exchanges with what a clock at UTC showed when they were started.
use Rattle.std.specs.Prelude.{ℕ, List, map}
use Rattle.har_export.specs.Document.{json_of_entry}
use Rattle.har_export.specs.Moment.{moment_text}
use Rattle.har_export.specs.declared.timed.Timed.{Timed}
use Rattle.serde_json.specs.Written.{compact_text}

abbrev pub text_of : List ℕ → Timed → List ℕ
text_of target timed = compact_text (json_of_entry target (moment_text timed.shown) timed.exchange)

abbrev pub texts_of_timed : List ℕ → List Timed → List (List ℕ)
texts_of_timed target timed = map (text_of target) timed
