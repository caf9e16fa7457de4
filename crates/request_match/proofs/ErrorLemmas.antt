-- The first error of body matchers: what one more adds, and what it says of the whole matcher.
use Rattle.std.proofs.Common.{◌≡◌, ℕ, ◌≤◌, List, ◌++◌, All, Any, Option, None, Some, arith, length, sym, subst, take}
use Rattle.std.proofs.lemmas.List.{take_all}
use Rattle.std.specs.List.{filter_map}
use Rattle.std.proofs.lemmas.List.Elements.{All-append, filter_map-append}
use Rattle.json_bridge.specs.Path.{IsPath}
use Rattle.json_bridge.specs.Reading.{IsJson, tree_of_text}
use Rattle.mapping_model.specs.declared.body_pattern.BodyPattern.{BodyPattern}
use Rattle.request_match.proofs.AnyLemmas.{any_left, any_right}
use Rattle.request_match.specs.Inner.FirstError.{rank_of, known_rank, Passed, Failed, KnownFailed, IsFirstError}
use Rattle.request_match.specs.Parts.Refusal.{matcher_in, text_in, path_in, HasTree, IsBodyRefusal}
use Rattle.request_match.specs.declared.error.RequestMatchError.{RequestMatchError}
use Rattle.request_match.specs.declared.error.RequestMatchError.TheVariants.{BadUrl, BadPattern, NotJson}
use Rattle.request_match.specs.declared.error.RequestMatchError.TheVariants.{NumberNotWhole, BadPath, OutOfMemory}
use Rattle.value_match.specs.Refusal.{HasPattern, MayBeRefused}

module _ {X : Type 0} (P : X → Type 0) (part : BodyPattern → Option X) (ps qs : List BodyPattern) where
  all_joined : All P (filter_map part ps) → All P (filter_map part qs) → All P (filter_map part (ps ++ qs))
  all_joined a b = subst (All P) (sym (filter_map-append part ps qs)) (All-append P _ _ a b)

  some_left : Any P (filter_map part ps) → Any P (filter_map part (ps ++ qs))
  some_left a = subst (Any P) (sym (filter_map-append part ps qs)) (any_left P _ _ a)

  some_right : Any P (filter_map part qs) → Any P (filter_map part (ps ++ qs))
  some_right a = subst (Any P) (sym (filter_map-append part ps qs)) (any_right P (filter_map part ps) _ a)

pub passed_both : (k n m : ℕ) (ps qs : List BodyPattern) → k ≤ n → k ≤ m → Passed n ps → Passed m qs →
    Passed k (ps ++ qs)
passed_both k n m ps qs kn km p q = record {
  patterns_are =
      λ lt. all_joined HasPattern matcher_in ps qs (p.patterns_are (omega arith)) (q.patterns_are (omega arith));
  json = λ lt. all_joined IsJson text_in ps qs (p.json (omega arith)) (q.json (omega arith));
  trees = λ lt. all_joined HasTree text_in ps qs (p.trees (omega arith)) (q.trees (omega arith));
  paths = λ lt. all_joined IsPath path_in ps qs (p.paths (omega arith)) (q.paths (omega arith));
}

pub failed_left : (e : RequestMatchError) (ps qs : List BodyPattern) → Failed e ps → Failed e (ps ++ qs)
failed_left OutOfMemory ps qs f = f
failed_left BadUrl ps qs f = f
failed_left BadPattern ps qs f = some_left MayBeRefused matcher_in ps qs f
failed_left NotJson ps qs f = some_left (λ text. ¬ (IsJson text)) text_in ps qs f
failed_left NumberNotWhole ps qs f = some_left (λ text. tree_of_text text ≡ None) text_in ps qs f
failed_left BadPath ps qs f = some_left (λ path. ¬ (IsPath path)) path_in ps qs f

pub failed_right : (e : RequestMatchError) (ps qs : List BodyPattern) → Failed e qs → Failed e (ps ++ qs)
failed_right OutOfMemory ps qs f = f
failed_right BadUrl ps qs f = f
failed_right BadPattern ps qs f = some_right MayBeRefused matcher_in ps qs f
failed_right NotJson ps qs f = some_right (λ text. ¬ (IsJson text)) text_in ps qs f
failed_right NumberNotWhole ps qs f = some_right (λ text. tree_of_text text ≡ None) text_in ps qs f
failed_right BadPath ps qs f = some_right (λ path. ¬ (IsPath path)) path_in ps qs f

-- the known error is reported before the new one
pub known_first : (known error : RequestMatchError) (ps qs : List BodyPattern) → rank_of known ≤ rank_of error →
    IsFirstError (Some known) ps → IsFirstError (Some error) qs → IsFirstError (Some known) (ps ++ qs)
known_first known error ps qs le p q = record {
  passed = passed_both (rank_of known) (rank_of known) (rank_of error) ps qs (omega arith) le p.passed q.passed;
  failed = failed_left known ps qs p.failed;
}

-- the new one is reported first
pub error_first : (known : Option RequestMatchError) (error : RequestMatchError) (ps qs : List BodyPattern) →
    rank_of error ≤ known_rank known → IsFirstError known ps → IsFirstError (Some error) qs →
    IsFirstError (Some error) (ps ++ qs)
error_first known error ps qs le p q = record {
  passed = passed_both (rank_of error) (known_rank known) (rank_of error) ps qs le (omega arith) p.passed q.passed;
  failed = failed_right error ps qs q.failed;
}

failed_still : (known : Option RequestMatchError) (ps qs : List BodyPattern) → KnownFailed known ps →
    KnownFailed known (ps ++ qs)
failed_still None ps qs f = f
failed_still (Some error) ps qs f = failed_left error ps qs f

pub at_most_six : (known : Option RequestMatchError) → known_rank known ≤ 6
at_most_six None = omega arith
at_most_six (Some OutOfMemory) = omega arith
at_most_six (Some BadUrl) = omega arith
at_most_six (Some BadPattern) = omega arith
at_most_six (Some NotJson) = omega arith
at_most_six (Some NumberNotWhole) = omega arith
at_most_six (Some BadPath) = omega arith

-- one more that has none
pub none_added : (known : Option RequestMatchError) (ps qs : List BodyPattern) → IsFirstError known ps →
    IsFirstError None qs → IsFirstError known (ps ++ qs)
none_added known ps qs p q = record {
  passed = passed_both (known_rank known) (known_rank known) 6 ps qs (omega arith) (at_most_six known)
      p.passed q.passed;
  failed = failed_still known ps qs p.failed;
}

-- what holds of the first ones holds of all, once these are all
pub of_all : (first known : Option RequestMatchError) (i : ℕ) (ps : List BodyPattern) → length ps ≤ i →
    first ≡ known → IsFirstError first (take i ps) → IsFirstError known ps
of_all first known i ps all is f =
    subst (λ k. IsFirstError k ps) is (subst (IsFirstError first) (take_all i ps all) f)

pub body_error : (error : RequestMatchError) (ps : List BodyPattern) → IsFirstError (Some error) ps
    → IsBodyRefusal ps error
body_error OutOfMemory ps f = f.failed
body_error BadUrl ps f = f.failed
body_error BadPattern ps f = f.failed
body_error NotJson ps f = (f.passed.patterns_are (omega arith), f.failed)
body_error NumberNotWhole ps f = (f.passed.patterns_are (omega arith), f.passed.json (omega arith), f.failed)
body_error BadPath ps f = (f.passed.patterns_are (omega arith), f.passed.trees (omega arith), f.failed)
