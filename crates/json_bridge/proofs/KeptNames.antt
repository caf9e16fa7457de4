-- A name among the names of which members are kept.
use Rattle.std.proofs.Common.{◌≡◌, ℕ, Bool, false, List, [], ◌∷◌, map, refl, ap, ◌∙◌, Bor, ◌+◌, ◌<◌, length, take}
use Rattle.std.proofs.Common.{get_or, sym}
use Rattle.std.specs.Prelude.{◌||◌}
use Rattle.std.specs.List.{list_any}
use Rattle.std.specs.Str.{bytes_eq}
use Rattle.std.proofs.lemmas.List.Folds.{list_any_more}
use Rattle.json_bridge.specs.Part.{is_kept}

-- where the next name is another one, none is so far
pub none_more : (names : List (Bor (List ℕ))) (i : ℕ) (next : Bor (List ℕ)) (name : List ℕ) (found : Bool)
    → i < length names → found ≡ bytes_eq (get_or names i next).now name → found ≡ false
    → list_any (λ n. bytes_eq n.now name) (take i names) ≡ false
    → list_any (λ n. bytes_eq n.now name) (take (i + 1) names) ≡ false
none_more names i next name found within is other none =
    list_any_more (λ n. bytes_eq n.now name) names i next within
    ∙ ap (λ b. b || bytes_eq (get_or names i next).now name) none ∙ sym is ∙ other

pub kept_name : (name : List ℕ) (names : List (Bor (List ℕ)))
    → list_any (λ n. bytes_eq n.now name) names ≡ is_kept (map (λ n. n.now) names) name
kept_name name [] = refl
kept_name name (n ∷ names) = ap (λ b. bytes_eq n.now name || b) (kept_name name names)
