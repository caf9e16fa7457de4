-- Exchanges with their moments are the entries of a document.
use Rattle.std.proofs.Common.{◌≡◌, ℕ, List, [], ◌∷◌, map, refl, ap}
use Rattle.har_export.specs.Document.{AreEntries, json_of_entry, texts_of}
use Rattle.har_export.specs.Inner.Timed.{text_of, texts_of_timed}
use Rattle.har_export.specs.Moment.{moment_text}
use Rattle.har_export.specs.declared.timed.Timed.{Timed}
use Rattle.serde_json.specs.Data.{Items, no_items, item}

abbrev pub items_of_timed : List ℕ → List Timed → Items
items_of_timed target [] = no_items
items_of_timed target (t ∷ ts) =
    item (json_of_entry target (moment_text t.shown) t.exchange) (items_of_timed target ts)

pub timed_are
    : (target : List ℕ) (timed : List Timed)
    → AreEntries target (map (λ t. t.exchange) timed) (items_of_timed target timed)
timed_are target [] = tt
timed_are target (t ∷ ts) = (
  record {
    started = moment_text t.shown;
    moment = record { shown = t.shown; at = t.at; spelled = refl };
    same = refl;
  },
  timed_are target ts,
)

pub timed_texts
    : (target : List ℕ) (timed : List Timed)
    → texts_of_timed target timed ≡ texts_of (items_of_timed target timed)
timed_texts target [] = refl
timed_texts target (t ∷ ts) = ap (λ texts. text_of target t ∷ texts) (timed_texts target ts)
