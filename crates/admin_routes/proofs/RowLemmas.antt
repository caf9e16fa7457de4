-- The rows of the router, and the paths that fit them.
use Rattle.std.proofs.Common.{◌≡◌, inl, inr, ℕ, List, [], ◌∷◌, ◌++◌, true, Some, None, codes, map}
use Rattle.std.proofs.Common.{refl, sym, ap, ◌∙◌, subst, append-nil}
use Rattle.std.specs.Str.{IsUtf8}
use Rattle.matchit.specs.Level.{IsText}
use Rattle.matchit.specs.Params.{walk}
use Rattle.matchit.specs.Router.{RouteOf}
use Rattle.matchit.specs.Rows.{param_token}
use Rattle.matchit.specs.Seek.{first}
use Rattle.admin_routes.specs.Inner.Table.{ShowsFirst, pattern_at, text_at, names_at, route_row, row_at, places, rows}
use Rattle.admin_routes.specs.Places.{path_at, HasParameter, IsPath}
use Rattle.admin_routes.specs.declared.place.Place.{Place}
use Rattle.admin_routes.specs.declared.place.Place.TheVariants as place
use Rattle.route_search.proofs.Literals.{are_bytes, all_are_bytes, all_are_whole, only_bytes, bytes_fit, fits_after}
use Rattle.route_search.proofs.Parameters.{IsAround, around, around_takes}
use Rattle.route_search.proofs.Search.{Hit, found_fits, fitting_is_found}
use Rattle.route_search.proofs.Texts.{is_text}
use Rattle.route_search.specs.Segment.{slash, IsSegment}
use Rattle.route_search.proofs.Fits.{AllWhole, Fits, Has}

rows_are_whole : AllWhole rows
rows_are_whole = all_are_whole rows refl

-- ---- the rows are those of the places

row_of
    : (ps : List Place) (pattern : List ℕ) (key : RouteOf Place) → Has pattern key (map row_at ps)
    → (p : Place) × (pattern_at p ≡ pattern) × (route_row p ≡ key)
row_of [] pattern key has = absurd has
row_of (p ∷ ps) pattern key (inl same) = (p, same.0, same.1)
row_of (p ∷ ps) pattern key (inr later) = row_of ps pattern key later

has_row : (p : Place) → Has (pattern_at p) (route_row p) rows
has_row place.Mapping = inl (refl, refl)
has_row place.Mappings = inr (inl (refl, refl))
has_row place.RecordingHar = inr (inr (inl (refl, refl)))
has_row place.RecordingStart = inr (inr (inr (inl (refl, refl))))
has_row place.RecordingStatus = inr (inr (inr (inr (inl (refl, refl)))))
has_row place.RecordingStop = inr (inr (inr (inr (inr (inl (refl, refl))))))
has_row place.Count = inr (inr (inr (inr (inr (inr (inl (refl, refl)))))))
has_row place.Find = inr (inr (inr (inr (inr (inr (inr (inl (refl, refl))))))))
has_row place.Unmatched = inr (inr (inr (inr (inr (inr (inr (inr (inl (refl, refl)))))))))
has_row place.Requests = inr (inr (inr (inr (inr (inr (inr (inr (inr (inl (refl, refl))))))))))
has_row place.Reset = inr (inr (inr (inr (inr (inr (inr (inr (inr (inr (inl (refl, refl)))))))))))
has_row place.ScenariosReset = inr (inr (inr (inr (inr (inr (inr (inr (inr (inr (inr (inl (refl, refl))))))))))))
has_row place.ScenarioState =
    inr (inr (inr (inr (inr (inr (inr (inr (inr (inr (inr (inr (inl (refl, refl)))))))))))))
has_row place.Scenarios =
    inr (inr (inr (inr (inr (inr (inr (inr (inr (inr (inr (inr (inr (inl (refl, refl))))))))))))))

-- ---- a path that fits the row of a place is the place's

only : (text path : List ℕ) → are_bytes text ≡ true → Fits text path → path ≡ text
only text path bytes fits = only_bytes text path (all_are_bytes text bytes) fits

shown
    : {part value text : List ℕ} (parts : List (List ℕ × List ℕ)) → parts ≡ (part, value) ∷ [] → IsUtf8 value
    → ShowsFirst parts text → text ≡ value
shown {part} {value} {text} parts same utf8 shows = (subst (λ ps. ShowsFirst ps text) same shows) utf8

at_mapping
    : (path parameter : List ℕ) → IsUtf8 path → Fits (pattern_at place.Mapping) path
    → ShowsFirst (walk (pattern_at place.Mapping) (text_at place.Mapping) path (names_at place.Mapping) 0 0) parameter
    → IsPath place.Mapping parameter path
at_mapping path parameter utf8 fits shows = by (around (codes "/__admin/mappings") [] path bytes fits)
  where
    bytes : IsText (codes "/__admin/mappings" ++ slash ∷ [])
    bytes = all_are_bytes (codes "/__admin/mappings/") refl

    by : (value : List ℕ) × (rest : List ℕ) × IsAround (codes "/__admin/mappings") [] path value rest
        → IsPath place.Mapping parameter path
    by (value, rest, is) =
        let takes = around_takes (codes "/__admin/mappings") [] path value rest (text_at place.Mapping) (19, 21) bytes tt is utf8 in
        let same = shown _ takes.0 takes.1 shows in
        let end : value ++ rest ≡ parameter = ap (λ r. value ++ r) is.left ∙ append-nil value ∙ sym same in
        record {
          same_path = is.whole ∙ ap (λ x. codes "/__admin/mappings/" ++ x) end;
          has_parameter = subst IsSegment (sym same) is.segment;
        }

at_scenario
    : (path parameter : List ℕ) → IsUtf8 path → Fits (pattern_at place.ScenarioState) path
    → ShowsFirst (walk (pattern_at place.ScenarioState) (text_at place.ScenarioState) path (names_at place.ScenarioState) 0 0) parameter
    → IsPath place.ScenarioState parameter path
at_scenario path parameter utf8 fits shows = by (around (codes "/__admin/scenarios") (codes "/state") path bytes fits)
  where
    bytes : IsText (codes "/__admin/scenarios" ++ slash ∷ [])
    bytes = all_are_bytes (codes "/__admin/scenarios/") refl

    by : (value : List ℕ) × (rest : List ℕ) × IsAround (codes "/__admin/scenarios") (codes "/state") path value rest
        → IsPath place.ScenarioState parameter path
    by (value, rest, is) =
        let takes = around_takes (codes "/__admin/scenarios") (codes "/state") path value rest (text_at place.ScenarioState) (20, 24) bytes refl is utf8 in
        let same = shown _ takes.0 takes.1 shows in
        let end : value ++ rest ≡ parameter ++ codes "/state" =
        ap (λ r. value ++ r) (only (codes "/state") rest refl is.left) ∙ ap (λ v. v ++ codes "/state") (sym same) in
        record {
          same_path = is.whole ∙ ap (λ x. codes "/__admin/scenarios/" ++ x) end;
          has_parameter = subst IsSegment (sym same) is.segment;
        }

abbrev IsAt : Place → Type 0
IsAt p =
    (path parameter : List ℕ) → IsUtf8 path → Fits (pattern_at p) path
    → ShowsFirst (walk (pattern_at p) (text_at p) path (names_at p) 0 0) parameter → IsPath p parameter path

at_place : (p : Place) → IsAt p
at_place place.Mappings path parameter utf8 fits shows =
    record { same_path = only (pattern_at place.Mappings) path refl fits; has_parameter = tt }
at_place place.Mapping path parameter utf8 fits shows = at_mapping path parameter utf8 fits shows
at_place place.Reset path parameter utf8 fits shows =
    record { same_path = only (pattern_at place.Reset) path refl fits; has_parameter = tt }
at_place place.Requests path parameter utf8 fits shows =
    record { same_path = only (pattern_at place.Requests) path refl fits; has_parameter = tt }
at_place place.Unmatched path parameter utf8 fits shows =
    record { same_path = only (pattern_at place.Unmatched) path refl fits; has_parameter = tt }
at_place place.Find path parameter utf8 fits shows =
    record { same_path = only (pattern_at place.Find) path refl fits; has_parameter = tt }
at_place place.Count path parameter utf8 fits shows =
    record { same_path = only (pattern_at place.Count) path refl fits; has_parameter = tt }
at_place place.Scenarios path parameter utf8 fits shows =
    record { same_path = only (pattern_at place.Scenarios) path refl fits; has_parameter = tt }
at_place place.ScenariosReset path parameter utf8 fits shows =
    record { same_path = only (pattern_at place.ScenariosReset) path refl fits; has_parameter = tt }
at_place place.ScenarioState path parameter utf8 fits shows = at_scenario path parameter utf8 fits shows
at_place place.RecordingStart path parameter utf8 fits shows =
    record { same_path = only (pattern_at place.RecordingStart) path refl fits; has_parameter = tt }
at_place place.RecordingStop path parameter utf8 fits shows =
    record { same_path = only (pattern_at place.RecordingStop) path refl fits; has_parameter = tt }
at_place place.RecordingStatus path parameter utf8 fits shows =
    record { same_path = only (pattern_at place.RecordingStatus) path refl fits; has_parameter = tt }
at_place place.RecordingHar path parameter utf8 fits shows =
    record { same_path = only (pattern_at place.RecordingHar) path refl fits; has_parameter = tt }

-- ---- the path of a place fits its row

whole : (text : List ℕ) → are_bytes text ≡ true → Fits text text
whole text bytes = bytes_fit text (all_are_bytes text bytes)

fits_place : (p : Place) (parameter : List ℕ) → HasParameter p parameter → Fits (pattern_at p) (path_at p parameter)
fits_place place.Mappings parameter has = whole (pattern_at place.Mappings) refl
fits_place place.Mapping parameter has =
    fits_after (codes "/__admin/mappings/") (param_token ∷ []) parameter
    (all_are_bytes (codes "/__admin/mappings/") refl)
    ([], inr (refl, (parameter, has, sym (append-nil parameter))), refl)
fits_place place.Reset parameter has = whole (pattern_at place.Reset) refl
fits_place place.Requests parameter has = whole (pattern_at place.Requests) refl
fits_place place.Unmatched parameter has = whole (pattern_at place.Unmatched) refl
fits_place place.Find parameter has = whole (pattern_at place.Find) refl
fits_place place.Count parameter has = whole (pattern_at place.Count) refl
fits_place place.Scenarios parameter has = whole (pattern_at place.Scenarios) refl
fits_place place.ScenariosReset parameter has = whole (pattern_at place.ScenariosReset) refl
fits_place place.ScenarioState parameter has =
    fits_after (codes "/__admin/scenarios/") (param_token ∷ codes "/state") (parameter ++ codes "/state")
    (all_are_bytes (codes "/__admin/scenarios/") refl)
    (codes "/state", inr (refl, (parameter, has, refl)), whole (codes "/state") refl)
fits_place place.RecordingStart parameter has = whole (pattern_at place.RecordingStart) refl
fits_place place.RecordingStop parameter has = whole (pattern_at place.RecordingStop) refl
fits_place place.RecordingStatus parameter has = whole (pattern_at place.RecordingStatus) refl
fits_place place.RecordingHar parameter has = whole (pattern_at place.RecordingHar) refl

-- ---- the whole

pub found_is_path
    : (path parameter : List ℕ) (route : RouteOf Place) → IsUtf8 path → first rows path ≡ Some route
    → ShowsFirst (walk route.pattern route.text path route.names 0 0) parameter → IsPath route.value parameter path
found_is_path path parameter route utf8 e shows = by (found_fits 0 rows path route rows_are_whole (is_text path utf8) e)
  where
    at : (p : Place) → route_row p ≡ route → Fits (pattern_at p) path → IsPath route.value parameter path
    at p same fits =
        subst (λ r. IsPath r.value parameter path) same
        (at_place p path parameter utf8 fits
        (subst (λ r. ShowsFirst (walk r.pattern r.text path r.names 0 0) parameter) (sym same) shows))

    by : Hit rows route path → IsPath route.value parameter path
    by (pattern, has, fits) =
        let row = row_of places pattern route has in
        at row.0 row.2 (subst (λ t. Fits t path) (sym row.1) fits)

pub none_is_path
    : (path : List ℕ) → first rows path ≡ None → (p : Place) (parameter : List ℕ) → ¬ (IsPath p parameter path)
none_is_path path e p parameter is =
    fitting_is_found 0 rows path (pattern_at p) (route_row p) rows_are_whole (has_row p)
    (subst (Fits (pattern_at p)) (sym is.same_path) (fits_place p parameter is.has_parameter)) e
