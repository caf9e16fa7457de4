-- The test of one matcher decides its condition.
use Rattle.std.proofs.Common.{◌≡◌, ◌↔◌, ℕ, List, [], ◌∷◌, map, Option, Some, subst}
use Rattle.std.specs.Prelude.{IfSome}
use Rattle.std.specs.Char.{to_ascii_lowercase}
use Rattle.mapping_model.specs.declared.named_matcher.NamedMatcher.{NamedMatcher}
use Rattle.match_difference.proofs.AllLemmas.{by_one}
use Rattle.match_difference.specs.Conditions.{values_in}
use Rattle.match_difference.specs.declared.condition.Source.TheVariants.{Header}
use Rattle.mock_request.specs.HeaderFields.{texts_of}
use Rattle.mock_request.specs.Request.{Request}
use Rattle.mock_request.specs.Values.{values_of}
use Rattle.path_template.specs.Matching.{Binding}
use Rattle.request_match.specs.Parts.Matching.{MeetsAny, MeetHeaders, MeetPairs}

pub by_header : (T : Type 0) (m : NamedMatcher) (request : Request) (tests : List NamedMatcher)
    → tests ≡ m ∷ [] → T ↔ MeetHeaders tests request → T ↔ MeetsAny m.matcher (values_in Header m.name request)
by_header T m request tests e decided =
    by_one (λ (n : NamedMatcher). MeetsAny n.matcher (texts_of (map to_ascii_lowercase n.name) request.headers)) T m
    (subst (λ ts. T ↔ MeetHeaders ts request) e decided)

pub by_pairs : (T : Type 0) (m : NamedMatcher) (pairs : List (List ℕ × List ℕ)) (tests : List NamedMatcher)
    → tests ≡ m ∷ [] → T ↔ MeetPairs tests pairs → T ↔ MeetsAny m.matcher (values_of m.name pairs)
by_pairs T m pairs tests e decided =
    by_one (λ (n : NamedMatcher). MeetsAny n.matcher (values_of n.name pairs)) T m
    (subst (λ ts. T ↔ MeetPairs ts pairs) e decided)

pub by_bindings : (T : Type 0) (m : NamedMatcher) (bindings : List Binding) (found : Option (List Binding))
    (tests : List NamedMatcher) → tests ≡ m ∷ [] → Some bindings ≡ found → T ↔ MeetPairs tests bindings
    → T ↔ IfSome found (λ bs. MeetsAny m.matcher (values_of m.name bs))
by_bindings T m bindings found tests e is decided =
    subst (λ f. T ↔ IfSome f (λ bs. MeetsAny m.matcher (values_of m.name bs))) is
    (by_pairs T m bindings tests e decided)
