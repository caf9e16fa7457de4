-- The call of a place by its method is the call that the method and the place name, and no other.
use Rattle.std.proofs.Common.{◌≡◌, ◌≢◌, ℕ, List, [], ◌∷◌, ◌++◌, length, drop, take, Bool, true, false, ◌&&◌}
use Rattle.std.proofs.Common.{Option, Some, None, codes, IfSome, IsNone, true≢false, refl, sym, ap, subst, ◌∙◌, cond}
use Rattle.std.proofs.Common.{nat_eq, ◌==◌, arith, length-append}
use Rattle.std.proofs.Math.Seq.{take-append_seam}
use Rattle.std.specs.List.{starts_with}
use Rattle.std.specs.Str.{bytes_eq}
use Rattle.std.proofs.lemmas.Bool.{and_parts}
use Rattle.std.proofs.lemmas.Slice.Eq.{bytes_eq-Decides}
use Rattle.matchit.specs.Seek.{has_slash}
use Rattle.mock_request.specs.Url.{path_of}
use Rattle.admin_routes.specs.Inner.Methods.{call_at, when, mappings_at, mapping_at, requests_at}
use Rattle.admin_routes.specs.Places.{path_at, HasParameter, IsPath}
use Rattle.admin_routes.specs.Routes.{method_of, place_of, parameter_of, Names}
use Rattle.admin_routes.specs.declared.place.Place.{Place}
use Rattle.admin_routes.specs.declared.place.Place.TheVariants as place
use Rattle.admin_routes.specs.declared.route.Route.{Route}
use Rattle.admin_routes.specs.declared.route.Route.TheVariants as route
use Rattle.route_search.specs.Segment.{slash, IsSegment}

is_text : {x y : List ℕ} → bytes_eq x y ≡ true → x ≡ y
is_text {x} {y} e = (bytes_eq-Decides x y).0 e

-- a chain of tests gives what one of its tests gives
pick
    : {A R : Type 0} (b : Bool) (here there : Option A) (a : A) → (b ≡ true → here ≡ Some a → R)
    → (there ≡ Some a → R) → cond b here there ≡ Some a → R
pick true here there a first rest e = first refl e
pick false here there a first rest e = rest e

abbrev IsThere : {A : Type 0} → Option A → Type 0
IsThere None = ⊥
IsThere (Some a) = Unit {0}

nothing : {A : Type 0} (a : A) → None ≡ Some a → ⊥
nothing a e = subst IsThere (sym e) tt

-- ---- methods

-- the method, the path and the parameter are those of the route
abbrev IsCallAt : List ℕ → Place → List ℕ → Route → Type 0
IsCallAt method p parameter r =
    (method ≡ method_of r) × (path_at p parameter ≡ path_at (place_of r) (parameter_of r))
    × HasParameter (place_of r) (parameter_of r)

call : (method : List ℕ) (p : Place) (parameter : List ℕ) (q r : Route)
    → path_at p parameter ≡ path_at (place_of q) (parameter_of q) → HasParameter (place_of q) (parameter_of q)
    → bytes_eq method (method_of q) ≡ true → Some q ≡ Some r → IsCallAt method p parameter r
call method p parameter q r same has test e =
    subst (IsCallAt method p parameter) (cc e) (is_text test, same, has)

mappings_found
    : (method parameter : List ℕ) (r : Route) → mappings_at method ≡ Some r
    → IsCallAt method place.Mappings parameter r
mappings_found method parameter r =
    pick _ _ _ r (call method place.Mappings parameter route.ListMappings r refl tt)
    (pick _ _ _ r (call method place.Mappings parameter route.AddMapping r refl tt)
    (pick _ _ _ r (call method place.Mappings parameter route.DeleteMappings r refl tt) (λ e. absurd (nothing r e))))

requests_found
    : (method parameter : List ℕ) (r : Route) → requests_at method ≡ Some r
    → IsCallAt method place.Requests parameter r
requests_found method parameter r =
    pick _ _ _ r (call method place.Requests parameter route.ListRequests r refl tt)
    (pick _ _ _ r (call method place.Requests parameter route.ClearRequests r refl tt) (λ e. absurd (nothing r e)))

mapping_found
    : (method id : List ℕ) (r : Route) → IsSegment id → mapping_at method id ≡ Some r
    → IsCallAt method place.Mapping id r
mapping_found method id r segment =
    pick _ _ _ r (call method place.Mapping id (route.ReadMapping id) r refl segment)
    (pick _ _ _ r (call method place.Mapping id (route.EditMapping id) r refl segment)
    (pick _ _ _ r (call method place.Mapping id (route.DeleteMapping id) r refl segment)
    (pick _ _ _ r (λ e.
    let tests = and_parts (bytes_eq method (codes "POST")) (bytes_eq id (codes "reset")) e in
    let same : id ≡ codes "reset" = is_text tests.1 in
    call method place.Mapping id route.ResetMappings r (ap (λ x. codes "/__admin/mappings/" ++ x) same)
    (subst IsSegment same segment) tests.0)
    (λ e. absurd (nothing r e)))))

when_found
    : (method : List ℕ) (p : Place) (parameter : List ℕ) (q r : Route)
    → path_at p parameter ≡ path_at (place_of q) (parameter_of q) → HasParameter (place_of q) (parameter_of q)
    → when method (method_of q) q ≡ Some r → IsCallAt method p parameter r
when_found method p parameter q r same has =
    pick _ _ _ r (call method p parameter q r same has) (λ e. absurd (nothing r e))

call_found
    : (method : List ℕ) (p : Place) (parameter : List ℕ) (r : Route) → HasParameter p parameter
    → call_at method p parameter ≡ Some r → IsCallAt method p parameter r
call_found method place.Mappings parameter r has e = mappings_found method parameter r e
call_found method place.Mapping parameter r has e = mapping_found method parameter r has e
call_found method place.Reset parameter r has e = when_found method place.Reset parameter route.ResetAll r refl tt e
call_found method place.Requests parameter r has e = requests_found method parameter r e
call_found method place.Unmatched parameter r has e =
    when_found method place.Unmatched parameter route.ListUnmatched r refl tt e
call_found method place.Find parameter r has e = when_found method place.Find parameter route.FindRequests r refl tt e
call_found method place.Count parameter r has e =
    when_found method place.Count parameter route.CountRequests r refl tt e
call_found method place.Scenarios parameter r has e =
    when_found method place.Scenarios parameter route.ListScenarios r refl tt e
call_found method place.ScenariosReset parameter r has e =
    when_found method place.ScenariosReset parameter route.ResetScenarios r refl tt e
call_found method place.ScenarioState parameter r has e =
    when_found method place.ScenarioState parameter (route.SetScenario parameter) r refl has e
call_found method place.RecordingStart parameter r has e =
    when_found method place.RecordingStart parameter route.StartRecording r refl tt e
call_found method place.RecordingStop parameter r has e =
    when_found method place.RecordingStop parameter route.StopRecording r refl tt e
call_found method place.RecordingStatus parameter r has e =
    when_found method place.RecordingStatus parameter route.ReadRecordingStatus r refl tt e
call_found method place.RecordingHar parameter r has e =
    when_found method place.RecordingHar parameter route.ReadRecordingHar r refl tt e

named_call : (r : Route) → call_at (method_of r) (place_of r) (parameter_of r) ≡ Some r
named_call route.ListMappings = refl
named_call route.AddMapping = refl
named_call route.DeleteMappings = refl
named_call (route.ReadMapping id) = refl
named_call (route.EditMapping id) = refl
named_call (route.DeleteMapping id) = refl
named_call route.ResetMappings = refl
named_call route.ResetAll = refl
named_call route.ListRequests = refl
named_call route.ClearRequests = refl
named_call route.ListUnmatched = refl
named_call route.FindRequests = refl
named_call route.CountRequests = refl
named_call route.ListScenarios = refl
named_call route.ResetScenarios = refl
named_call (route.SetScenario name) = refl
named_call route.StartRecording = refl
named_call route.StopRecording = refl
named_call route.ReadRecordingStatus = refl
named_call route.ReadRecordingHar = refl

-- ---- a path is of one place, with one parameter

-- the place of a path that is one's
abbrev place_in : List ℕ → Option Place
place_in path =
    cond (starts_with nat_eq path (codes "/__admin/mappings/")) (Some place.Mapping)
    (cond (starts_with nat_eq path (codes "/__admin/scenarios/") && has_slash (drop 19 path)) (Some place.ScenarioState)
    (cond (bytes_eq path (codes "/__admin/mappings")) (Some place.Mappings)
    (cond (bytes_eq path (codes "/__admin/reset")) (Some place.Reset)
    (cond (bytes_eq path (codes "/__admin/requests")) (Some place.Requests)
    (cond (bytes_eq path (codes "/__admin/requests/unmatched")) (Some place.Unmatched)
    (cond (bytes_eq path (codes "/__admin/requests/find")) (Some place.Find)
    (cond (bytes_eq path (codes "/__admin/requests/count")) (Some place.Count)
    (cond (bytes_eq path (codes "/__admin/scenarios")) (Some place.Scenarios)
    (cond (bytes_eq path (codes "/__admin/scenarios/reset")) (Some place.ScenariosReset)
    (cond (bytes_eq path (codes "/__admin/recordings/start")) (Some place.RecordingStart)
    (cond (bytes_eq path (codes "/__admin/recordings/stop")) (Some place.RecordingStop)
    (cond (bytes_eq path (codes "/__admin/recordings/status")) (Some place.RecordingStatus)
    (Some place.RecordingHar)))))))))))))

slash_after : (text rest : List ℕ) → has_slash (text ++ slash ∷ rest) ≡ true
slash_after [] rest = refl
slash_after (b ∷ bs) rest = elim (b == slash) as (λ v. cond v true (has_slash (bs ++ slash ∷ rest)) ≡ true) [
  | true ↦ refl
  | false ↦ slash_after bs rest
]

place_is_in : (p : Place) (parameter : List ℕ) → place_in (path_at p parameter) ≡ Some p
place_is_in place.Mappings parameter = refl
place_is_in place.Mapping parameter = refl
place_is_in place.Reset parameter = refl
place_is_in place.Requests parameter = refl
place_is_in place.Unmatched parameter = refl
place_is_in place.Find parameter = refl
place_is_in place.Count parameter = refl
place_is_in place.Scenarios parameter = refl
place_is_in place.ScenariosReset parameter = refl
place_is_in place.ScenarioState parameter = rw (slash_after parameter (codes "state")) refl
place_is_in place.RecordingStart parameter = refl
place_is_in place.RecordingStop parameter = refl
place_is_in place.RecordingStatus parameter = refl
place_is_in place.RecordingHar parameter = refl

same_front : (xs ys end : List ℕ) → xs ++ end ≡ ys ++ end → xs ≡ ys
same_front xs ys end e =
    let long : length xs ≡ length ys =
    let x = length-append xs end in
    let y = length-append ys end in
    let both = ap length e in
    omega arith in
    sym (take-append_seam xs end) ∙ ap (λ n. take n (xs ++ end)) long ∙ ap (take (length ys)) e ∙ take-append_seam ys end

same_call
    : (method : List ℕ) (p : Place) (x y : List ℕ) → path_at p x ≡ path_at p y
    → call_at method p x ≡ call_at method p y
same_call method place.Mappings x y e = refl
same_call method place.Mapping x y e = ap (mapping_at method) (ap (drop 18) e)
same_call method place.Reset x y e = refl
same_call method place.Requests x y e = refl
same_call method place.Unmatched x y e = refl
same_call method place.Find x y e = refl
same_call method place.Count x y e = refl
same_call method place.Scenarios x y e = refl
same_call method place.ScenariosReset x y e = refl
same_call method place.ScenarioState x y e =
    ap (λ name. when method (codes "PUT") (route.SetScenario name)) (same_front x y (codes "/state") (ap (drop 19) e))
same_call method place.RecordingStart x y e = refl
same_call method place.RecordingStop x y e = refl
same_call method place.RecordingStatus x y e = refl
same_call method place.RecordingHar x y e = refl

one_call
    : (method : List ℕ) (p q : Place) (x y : List ℕ) → path_at p x ≡ path_at q y
    → call_at method p x ≡ call_at method q y
one_call method p q x y e =
    let places : Some p ≡ Some q = sym (place_is_in p x) ∙ ap place_in e ∙ place_is_in q y in
    let same : p ≡ q = cc places in
    same_call method p x y (e ∙ ap (λ q. path_at q y) (sym same)) ∙ ap (λ q. call_at method q y) same

-- ---- the whole

pub found_is_named
    : (method url : List ℕ) (p : Place) (parameter : List ℕ) (o : Option Route) → IsPath p parameter (path_of url)
    → o ≡ call_at method p parameter → IfSome o (Names method url)
found_is_named method url p parameter None is e = tt
found_is_named method url p parameter (Some r) is e =
    let found = call_found method p parameter r is.has_parameter (sym e) in record {
      same_method = found.0;
      is_path = record { same_path = is.same_path ∙ found.1; has_parameter = found.2 };
    }

pub none_is_named
    : (method url : List ℕ) (p : Place) (parameter : List ℕ) (o : Option Route) → IsPath p parameter (path_of url)
    → o ≡ call_at method p parameter → IsNone o → (r : Route) → ¬ (Names method url r)
none_is_named method url p parameter None is e none r names =
    let same : path_at p parameter ≡ path_at (place_of r) (parameter_of r) =
    sym is.same_path ∙ names.is_path.same_path in
    nothing r
    (e ∙ one_call method p (place_of r) parameter (parameter_of r) same
    ∙ ap (λ m. call_at m (place_of r) (parameter_of r)) names.same_method ∙ named_call r)
none_is_named method url p parameter (Some found) is e none r names = absurd (true≢false none)
