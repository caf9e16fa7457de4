-- The helper of a name, and texts that are JSON paths.
use Rattle.std.proofs.Common.{◌≡◌, ◌≢◌, ℕ, Bool, true, false, List, [], ◌∷◌, Option, Some, None}
use Rattle.std.proofs.Common.{IfSome, IfNone, ◌↔◌, inl, inr, refl, sym, ap, ◌∙◌}
use Rattle.std.specs.Prelude.{is_some, IsTrue}
use Rattle.std.specs.Str.{bytes_eq}
use Rattle.std.proofs.lemmas.Bool.{cases_Bool}
use Rattle.std.proofs.lemmas.Slice.Eq.{bytes_eq-Decides}
use Rattle.helper_set.specs.Helpers.{name_of}
use Rattle.helper_set.specs.declared.helper.Helper.{Helper}
use Rattle.helper_set.specs.declared.helper.Helper.TheVariants.{Upper, Lower, Trim, Size, Eq, Neq, Contains, Not}
use Rattle.helper_set.specs.declared.helper.Helper.TheVariants.{Base64, UrlEncode, DefaultIfEmpty, JsonPath}
use Rattle.json_bridge.proofs.Found.{path_found_is_spelled}
use Rattle.json_bridge.specs.Path.{IsPath}
use Rattle.json_bridge.specs.PathFound.{path_of}
use Rattle.data_tree.specs.declared.step.Step.{Step}
use Rattle.template_tags.specs.Words.{helpers, helper_among, helper_named}

named : (h : Helper) → helper_named (name_of h) ≡ Some h
named Upper = refl
named Lower = refl
named Trim = refl
named Size = refl
named Eq = refl
named Neq = refl
named Contains = refl
named Not = refl
named Base64 = refl
named UrlEncode = refl
named DefaultIfEmpty = refl
named JsonPath = refl

no_name : (text : List ℕ) (h : Helper) → text ≢ name_of h → bytes_eq text (name_of h) ≡ false
no_name text h other = elim (cases_Bool (bytes_eq text (name_of h))) [
  | inl t ↦ absurd (other ((bytes_eq-Decides text (name_of h)).0 t))
  | inr f ↦ f
]

none_among : (text : List ℕ) (hs : List Helper) → ((h : Helper) → text ≢ name_of h)
    → helper_among hs text ≡ None
none_among text [] other = refl
none_among text (h ∷ hs) other = rw (no_name text h (other h)) (none_among text hs other)

pub helper_is : (text : List ℕ) (r : Option Helper) → IfSome r (λ h. text ≡ name_of h)
    → IfNone r ((h : Helper) → text ≢ name_of h) → r ≡ helper_named text
helper_is text None found unknown = sym (none_among text helpers unknown)
helper_is text (Some h) found unknown = sym (ap helper_named found ∙ named h)

found_or_not : (b : Bool) (s : List ℕ) (o : Option (List Step)) → path_of s ≡ o → IsTrue b ↔ IsPath s
    → b ≡ is_some o
found_or_not true s None e h =
    let path = h.0 refl in
    absurd (none_some path.0 (sym e ∙ (path_found_is_spelled s path.0).1 path.1))
  where
    none_some : (steps : List Step) → ◌≡◌ {A = Option (List Step)} None (Some steps) → ⊥
    none_some steps e = cc
found_or_not false s None e h = refl
found_or_not b s (Some steps) e h = h.1 (steps, (path_found_is_spelled s steps).0 e)

pub path_is : (b : Bool) (s : List ℕ) → IsTrue b ↔ IsPath s → b ≡ is_some (path_of s)
path_is b s h = found_or_not b s (path_of s) refl h
