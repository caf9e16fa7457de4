-- An option that is no value.
use Rattle.std.proofs.Common.{◌≡◌, Option, Some, None, refl}

pub none_without_value : {X : Type 0} (o : Option X) → ((x : X) → o ≡ Some x → ⊥) → None ≡ o
none_without_value None never = refl
none_without_value (Some x) never = absurd (never x refl)
