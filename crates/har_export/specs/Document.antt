-- The HAR 1.2 document of exchanges (W3C Web Performance, "HTTP Archive (HAR) format"): a log with an entry for each,
-- in their order.
use Rattle.std.specs.Prelude.{◌≡◌, ℕ, List, [], ◌∷◌, All, codes}
use Rattle.recorder.specs.declared.exchange.Exchange.{Exchange}
use Rattle.serde_json.specs.Data.{Data, number, unsigned, string, array, object, Items, no_items, item, no_members, put}
use Rattle.serde_json.specs.Written.{compact_text}
use Rattle.har_export.specs.Message.{json_of_request, json_of_reply}
use Rattle.har_export.specs.Moment.{IsMoment, IsInRange}

-- all of the time was spent waiting
abbrev pub json_of_timings : ℕ → Data
json_of_timings wait =
    object (put (codes "wait") (number (unsigned wait))
    (put (codes "send") (number (unsigned 0)) (put (codes "receive") (number (unsigned 0)) no_members)))

-- an exchange with the target that started at that moment
unfoldable pub json_of_entry : List ℕ → List ℕ → Exchange → Data
json_of_entry target started exchange =
    object (put (codes "timings") (json_of_timings exchange.wait_ms)
    (put (codes "time") (number (unsigned exchange.wait_ms))
    (put (codes "startedDateTime") (string started)
    (put (codes "response") (json_of_reply exchange.reply)
    (put (codes "request") (json_of_request target exchange.request)
    (put (codes "cache") (object no_members) no_members))))))

pub record IsEntry (target : List ℕ) (exchange : Exchange) (entry : Data) : Type 0 where
  pub started : List ℕ
  pub moment : IsMoment exchange.started_ms started
  pub same : entry ≡ json_of_entry target started exchange

-- one for each, in their order
abbrev pub AreEntries : List ℕ → List Exchange → Items → Type 0
AreEntries target [] no_items = Unit {0}
AreEntries target (exchange ∷ exchanges) (item entry entries) =
    IsEntry target exchange entry × AreEntries target exchanges entries
AreEntries target exchanges entries = ⊥

-- the compact texts of values
abbrev pub texts_of : Items → List (List ℕ)
texts_of no_items = []
texts_of (item value values) = compact_text value ∷ texts_of values

-- the program that made the document
abbrev pub creator : Data
creator = object (put (codes "version") (string (codes "1")) (put (codes "name") (string (codes "mock")) no_members))

abbrev pub json_of_log : Items → Data
json_of_log entries =
    object (put (codes "version") (string (codes "1.2"))
    (put (codes "entries") (array entries) (put (codes "creator") creator no_members)))

abbrev pub json_of_har : Items → Data
json_of_har entries = object (put (codes "log") (json_of_log entries) no_members)

-- the document of exchanges with the target
abbrev pub IsHar : List ℕ → List Exchange → Data → Type 0
IsHar target exchanges har = (entries : Items) × AreEntries target exchanges entries × (har ≡ json_of_har entries)

-- the compact text of that document
abbrev pub IsHarText : List ℕ → List Exchange → List ℕ → Type 0
IsHarText target exchanges text = (har : Data) × IsHar target exchanges har × (text ≡ compact_text har)

-- each of them started at a moment that HAR can write
abbrev pub AreInRange : List Exchange → Type 0
AreInRange exchanges = All (λ exchange. IsInRange exchange.started_ms) exchanges
