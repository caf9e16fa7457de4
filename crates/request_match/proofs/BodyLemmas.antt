-- Which error of a body matcher the error of one of its parts is.
use Rattle.std.proofs.Common.{◌≡◌, ℕ, List, [], ◌∷◌, None, Some, Result, Ok, Err, IfErr, arith, refl, sym, subst}
use Rattle.std.specs.Result.{IsErrAnd}
use Rattle.std.proofs.lemmas.List.Elements.{All-cons, All-nil}
use Rattle.json_bridge.specs.Path.{IsPath}
use Rattle.json_bridge.specs.Reading.{IsJson, tree_of_text}
use Rattle.json_bridge.specs.declared.error.JsonPathError.{JsonPathError}
use Rattle.json_bridge.specs.declared.error.JsonPathError.TheVariants as path
use Rattle.json_match.specs.Refusal.{IsNotJson, HasNumberNotWhole, HasBadPath}
use Rattle.json_match.specs.declared.error.JsonMatchError.{JsonMatchError}
use Rattle.json_match.specs.declared.error.JsonMatchError.TheVariants as json
use Rattle.json_match.specs.declared.json_spec.JsonSpec.{JsonSpec}
use Rattle.json_match.specs.declared.json_spec.JsonSpec.TheVariants.{EqualTo, Path}
use Rattle.mapping_model.specs.declared.body_pattern.BodyPattern.TheVariants as body
use Rattle.request_match.proofs.AnyLemmas.{any_here}
use Rattle.request_match.specs.Errors.{error_of_json, error_of_path}
use Rattle.request_match.specs.Inner.FirstError.{IsFirstError}
use Rattle.request_match.specs.Parts.Refusal.{HasTree}
use Rattle.value_match.specs.Refusal.{HasPattern}
use Rattle.value_match.specs.declared.value_spec.ValueSpec.{ValueSpec}

-- what a `?` returned
pub err_is : {T E : Type 0} (r : Result T E) (x : E) (P : E → Type 0) → IsErrAnd r (λ e. e ≡ x)
    → P x → IfErr r P
err_is (Ok v) x P h p = absurd h
err_is (Err e) x P h p = subst P (sym h) p

pub json_error : (spec : JsonSpec) (e : JsonMatchError) → (e ≡ json.NotJson → IsNotJson spec) →
    (e ≡ json.NumberNotWhole → HasNumberNotWhole spec) → (e ≡ json.BadPath → HasBadPath spec) →
    IsFirstError (Some (error_of_json e)) (body.Json spec ∷ [])
json_error (EqualTo text order more) json.NotJson a b p = record {
  passed = record {
    patterns_are = λ lt. All-nil HasPattern;
    json = λ lt. absurd (omega arith);
    trees = λ lt. absurd (omega arith);
    paths = λ lt. absurd (omega arith);
  };
  failed = any_here (λ t. ¬ (IsJson t)) text [] (a refl);
}
json_error (Path text) json.NotJson a b p = absurd (a refl)
json_error (EqualTo text order more) json.NumberNotWhole a b p = record {
  passed = record {
    patterns_are = λ lt. All-nil HasPattern;
    json = λ lt. All-cons IsJson text [] (b refl).0 (All-nil IsJson);
    trees = λ lt. absurd (omega arith);
    paths = λ lt. absurd (omega arith);
  };
  failed = any_here (λ t. tree_of_text t ≡ None) text [] (b refl).1;
}
json_error (Path text) json.NumberNotWhole a b p = absurd (b refl)
json_error (EqualTo text order more) json.BadPath a b p = absurd (p refl)
json_error (Path text) json.BadPath a b p = record {
  passed = record {
    patterns_are = λ lt. All-nil HasPattern;
    json = λ lt. All-nil IsJson;
    trees = λ lt. All-nil HasTree;
    paths = λ lt. absurd (omega arith);
  };
  failed = any_here (λ t. ¬ (IsPath t)) text [] (p refl);
}
json_error spec json.OutOfMemory a b p = record {
  passed = record {
    patterns_are = λ lt. absurd (omega arith);
    json = λ lt. absurd (omega arith);
    trees = λ lt. absurd (omega arith);
    paths = λ lt. absurd (omega arith);
  };
  failed = tt;
}

pub path_error : (expression : List ℕ) (matcher : ValueSpec) (e : JsonPathError) → HasPattern matcher →
    (e ≡ path.BadPath → ¬ (IsPath expression)) →
    IsFirstError (Some (error_of_path e)) (body.JsonPath expression matcher ∷ [])
path_error expression matcher path.BadPath h p = record {
  passed = record {
    patterns_are = λ lt. All-cons HasPattern matcher [] h (All-nil HasPattern);
    json = λ lt. All-nil IsJson;
    trees = λ lt. All-nil HasTree;
    paths = λ lt. absurd (omega arith);
  };
  failed = any_here (λ t. ¬ (IsPath t)) expression [] (p refl);
}
path_error expression matcher path.OutOfMemory h p = record {
  passed = record {
    patterns_are = λ lt. absurd (omega arith);
    json = λ lt. absurd (omega arith);
    trees = λ lt. absurd (omega arith);
    paths = λ lt. absurd (omega arith);
  };
  failed = tt;
}
