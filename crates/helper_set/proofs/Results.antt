-- When a helper has a result, and of which kind.
use Rattle.std.proofs.Common.{◌≡◌, ℕ, Bool, true, false, ◌⊎◌, inl, inr, ⊎_elim, List, [], ◌∷◌}
use Rattle.std.proofs.Common.{map, length, Some, is_some, suc, refl, ap, ◌∙◌}
use Rattle.std.proofs.lemmas.Bool.{and_parts}
use Rattle.helper_set.specs.Values.{Value, a_datum, a_text, a_number, a_truth, kind_of, count_of}
use Rattle.helper_set.specs.Helpers.{applied, argument_kinds, fit, is_looked_up, result_kind}
use Rattle.helper_set.specs.Helpers.{on_text, on_texts, on_data_or_text, on_truth, counted}
use Rattle.helper_set.specs.declared.kind.Kind.{Kind}
use Rattle.helper_set.specs.declared.helper.Helper.{Helper}
use Rattle.helper_set.specs.declared.helper.Helper.TheVariants.{Upper, Lower, Trim, Size, Eq, Neq, Contains, Not}
use Rattle.helper_set.specs.declared.helper.Helper.TheVariants.{Base64, UrlEncode, DefaultIfEmpty, JsonPath}

abbrev pub size_result : Value → Value
size_result v = counted (count_of v)

abbrev text_kinds : List Kind
text_kinds = Kind.Text ∷ []

has_text : (f : List ℕ → Value) (vs : List Value) → fit (text_kinds ∷ []) (map kind_of vs) ≡ true
    → is_some (on_text f vs) ≡ true
has_text f [] e = cc
has_text f (a_text s ∷ []) e = refl
has_text f (a_datum t ∷ vs) e = cc
has_text f (a_number n ∷ vs) e = cc
has_text f (a_truth b ∷ vs) e = cc
has_text f (a_text s ∷ v ∷ vs) e = cc

has_truth : (f : Bool → Value) (vs : List Value) → fit ((Kind.Truth ∷ []) ∷ []) (map kind_of vs) ≡ true
    → is_some (on_truth f vs) ≡ true
has_truth f [] e = cc
has_truth f (a_truth b ∷ []) e = refl
has_truth f (a_datum t ∷ vs) e = cc
has_truth f (a_number n ∷ vs) e = cc
has_truth f (a_text s ∷ vs) e = cc
has_truth f (a_truth b ∷ v ∷ vs) e = cc

has_data_or_text : (f : Value → Value) (vs : List Value)
    → fit ((Kind.Data ∷ Kind.Text ∷ []) ∷ []) (map kind_of vs) ≡ true
    → is_some (on_data_or_text f vs) ≡ true
has_data_or_text f [] e = cc
has_data_or_text f (a_text s ∷ []) e = refl
has_data_or_text f (a_datum t ∷ []) e = refl
has_data_or_text f (a_number n ∷ vs) e = cc
has_data_or_text f (a_truth b ∷ vs) e = cc
has_data_or_text f (a_text s ∷ v ∷ vs) e = cc
has_data_or_text f (a_datum t ∷ v ∷ vs) e = cc

has_texts : (f : List ℕ → List ℕ → Value) (vs : List Value)
    → fit (text_kinds ∷ text_kinds ∷ []) (map kind_of vs) ≡ true → is_some (on_texts f vs) ≡ true
has_texts f [] e = cc
has_texts f (a_datum t ∷ vs) e = cc
has_texts f (a_number n ∷ vs) e = cc
has_texts f (a_truth b ∷ vs) e = cc
has_texts f (a_text s ∷ []) e = cc
has_texts f (a_text s ∷ a_datum t ∷ vs) e = cc
has_texts f (a_text s ∷ a_number n ∷ vs) e = cc
has_texts f (a_text s ∷ a_truth b ∷ vs) e = cc
has_texts f (a_text s ∷ a_text t ∷ []) e = refl
has_texts f (a_text s ∷ a_text t ∷ v ∷ vs) e = cc

pub is_some_applied : (h : Helper) (vs : List Value) → is_looked_up h ≡ false
    → fit (argument_kinds h) (map kind_of vs) ≡ true → is_some (applied h vs) ≡ true
is_some_applied Upper vs l e = has_text _ vs e
is_some_applied Lower vs l e = has_text _ vs e
is_some_applied Trim vs l e = has_text _ vs e
is_some_applied Size vs l e = has_data_or_text size_result vs e
is_some_applied Eq vs l e = has_texts _ vs e
is_some_applied Neq vs l e = has_texts _ vs e
is_some_applied Contains vs l e = has_texts _ vs e
is_some_applied Not vs l e = has_truth _ vs e
is_some_applied Base64 vs l e = has_text _ vs e
is_some_applied UrlEncode vs l e = has_text _ vs e
is_some_applied DefaultIfEmpty vs l e = has_texts _ vs e
is_some_applied JsonPath vs l e = cc

-- what the arguments of a result are
pub record IsOfText (f : List ℕ → Value) (vs : List Value) (made : Value) : Type 0 where
  pub text : List ℕ
  pub given : vs ≡ a_text text ∷ []
  pub result : made ≡ f text

pub of_text : (f : List ℕ → Value) (vs : List Value) (made : Value) → on_text f vs ≡ Some made
    → IsOfText f vs made
of_text f [] made e = cc
of_text f (a_text s ∷ []) made e = record { text = s; given = refl; result = cc }
of_text f (a_datum t ∷ vs) made e = cc
of_text f (a_number n ∷ vs) made e = cc
of_text f (a_truth b ∷ vs) made e = cc
of_text f (a_text s ∷ v ∷ vs) made e = cc

pub record IsOfTruth (f : Bool → Value) (vs : List Value) (made : Value) : Type 0 where
  pub truth : Bool
  pub given : vs ≡ a_truth truth ∷ []
  pub result : made ≡ f truth

pub of_truth : (f : Bool → Value) (vs : List Value) (made : Value) → on_truth f vs ≡ Some made
    → IsOfTruth f vs made
of_truth f [] made e = cc
of_truth f (a_truth b ∷ []) made e = record { truth = b; given = refl; result = cc }
of_truth f (a_datum t ∷ vs) made e = cc
of_truth f (a_number n ∷ vs) made e = cc
of_truth f (a_text s ∷ vs) made e = cc
of_truth f (a_truth b ∷ v ∷ vs) made e = cc

pub record IsOfOne (f : Value → Value) (vs : List Value) (made : Value) : Type 0 where
  pub value : Value
  pub given : vs ≡ value ∷ []
  pub result : made ≡ f value

pub of_one : (f : Value → Value) (vs : List Value) (made : Value) → on_data_or_text f vs ≡ Some made
    → IsOfOne f vs made
of_one f [] made e = cc
of_one f (a_text s ∷ []) made e = record { value = a_text s; given = refl; result = cc }
of_one f (a_datum t ∷ []) made e = record { value = a_datum t; given = refl; result = cc }
of_one f (a_number n ∷ vs) made e = cc
of_one f (a_truth b ∷ vs) made e = cc
of_one f (a_text s ∷ v ∷ vs) made e = cc
of_one f (a_datum t ∷ v ∷ vs) made e = cc

pub record IsOfTexts (f : List ℕ → List ℕ → Value) (vs : List Value) (made : Value) : Type 0 where
  pub first : List ℕ
  pub second : List ℕ
  pub given : vs ≡ a_text first ∷ a_text second ∷ []
  pub result : made ≡ f first second

pub of_texts : (f : List ℕ → List ℕ → Value) (vs : List Value) (made : Value) → on_texts f vs ≡ Some made
    → IsOfTexts f vs made
of_texts f [] made e = cc
of_texts f (a_datum t ∷ vs) made e = cc
of_texts f (a_number n ∷ vs) made e = cc
of_texts f (a_truth b ∷ vs) made e = cc
of_texts f (a_text s ∷ []) made e = cc
of_texts f (a_text s ∷ a_datum t ∷ vs) made e = cc
of_texts f (a_text s ∷ a_number n ∷ vs) made e = cc
of_texts f (a_text s ∷ a_truth b ∷ vs) made e = cc
of_texts f (a_text s ∷ a_text t ∷ []) made e = record { first = s; second = t; given = refl; result = cc }
of_texts f (a_text s ∷ a_text t ∷ v ∷ vs) made e = cc

pub kind_of_applied : (h : Helper) (vs : List Value) (made : Value) → applied h vs ≡ Some made
    → kind_of made ≡ result_kind h
kind_of_applied Upper vs made e = ap kind_of (of_text _ vs made e).result
kind_of_applied Lower vs made e = ap kind_of (of_text _ vs made e).result
kind_of_applied Trim vs made e = ap kind_of (of_text _ vs made e).result
kind_of_applied Size vs made e = ap kind_of (of_one size_result vs made e).result
kind_of_applied Eq vs made e = ap kind_of (of_texts _ vs made e).result
kind_of_applied Neq vs made e = ap kind_of (of_texts _ vs made e).result
kind_of_applied Contains vs made e = ap kind_of (of_texts _ vs made e).result
kind_of_applied Not vs made e = ap kind_of (of_truth _ vs made e).result
kind_of_applied Base64 vs made e = ap kind_of (of_text _ vs made e).result
kind_of_applied UrlEncode vs made e = ap kind_of (of_text _ vs made e).result
kind_of_applied DefaultIfEmpty vs made e = ap kind_of (of_texts _ vs made e).result
kind_of_applied JsonPath vs made e = cc

-- a helper has one parameter or two
parameters : (h : Helper) → (length (argument_kinds h) ≡ 1) ⊎ (length (argument_kinds h) ≡ 2)
parameters Upper = inl refl
parameters Lower = inl refl
parameters Trim = inl refl
parameters Size = inl refl
parameters Eq = inr refl
parameters Neq = inr refl
parameters Contains = inr refl
parameters Not = inl refl
parameters Base64 = inl refl
parameters UrlEncode = inl refl
parameters DefaultIfEmpty = inr refl
parameters JsonPath = inr refl

rest_fits : (p : List Kind) (k : Kind) (ps : List (List Kind)) (ks : List Kind) → fit (p ∷ ps) (k ∷ ks) ≡ true
    → fit ps ks ≡ true
rest_fits p k ps ks e = (and_parts _ _ e).1

length_fit : (ps : List (List Kind)) (ks : List Kind) → fit ps ks ≡ true → length ks ≡ length ps
length_fit [] [] e = refl
length_fit [] (k ∷ ks) e = cc
length_fit (p ∷ ps) [] e = cc
length_fit (p ∷ ps) (k ∷ ks) e = ap suc (length_fit ps ks (rest_fits p k ps ks e))

-- so it has one argument or two
pub arguments_are_few : (h : Helper) (ks : List Kind) → fit (argument_kinds h) ks ≡ true
    → (length ks ≡ 1) ⊎ (length ks ≡ 2)
arguments_are_few h ks e = let l = length_fit (argument_kinds h) ks e in
    ⊎_elim (λ one. inl (l ∙ one)) (λ two. inr (l ∙ two)) (parameters h)
