-- The texts of a header as they are written.
use Rattle.std.proofs.Common.{◌≡◌, ◌≢◌, List, [], ◌∷◌, length, map, refl}
use Rattle.response_json.specs.Writing.{json_of_texts}
use Rattle.serde_json.specs.Data.{array}
use Rattle.serde_json.specs.View.{view, items_view}
use Rattle.serde_json.specs.declared.value.Value.{Value}

-- other than one
pub several : (texts : List Value) → length texts ≢ 1
    → json_of_texts (map view texts) ≡ array (items_view texts)
several [] other = refl
several (x ∷ []) other = absurd (other refl)
several (x ∷ y ∷ texts) other = refl
