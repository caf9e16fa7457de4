-- What the machine makes of a helper's converted arguments is what the template's meaning makes of them.
use Rattle.std.specs.Bool.{IsTrue}
use Rattle.std.proofs.Common.{◌≡◌, List, [], ◌∷◌, Some, refl, sym, true≢false}
use Rattle.data_tree.specs.Tree.{Tree}
use Rattle.helper_set.specs.Helpers.{signature_of, result_kind}
use Rattle.helper_set.specs.Values.{Value, a_datum, a_text, a_number, a_truth, kind_of}
use Rattle.helper_set.specs.declared.helper.Helper.{Helper}
use Rattle.helper_set.specs.declared.helper.Helper.TheVariants.{Upper, Lower, Trim, Size, Eq, Neq, Contains, Not}
use Rattle.helper_set.specs.declared.helper.Helper.TheVariants.{Base64, UrlEncode, DefaultIfEmpty, JsonPath}
use Rattle.template_code.specs.Code.{StackCode}
use Rattle.template_code.specs.Machine.{Loop, with_stack, effect}
use Rattle.template_code.specs.declared.instr.Instr.TheVariants.{Call}
use Rattle.template_tree.specs.Meaning.{converted, second_parameter, made_by}
use Rattle.template_tags.specs.Sound.{takes_one, takes_two}

module _ (code : StackCode) (root : Tree) (loops : List Loop) (stack : List Value) where
  pub call-one :
      (h : Helper) (v : Value) → IsTrue (takes_one h)
      → effect code root (Call h) loops (converted (signature_of h).first v ∷ stack)
      ≡ Some (with_stack (made_by h (converted (signature_of h).first v ∷ []) ∷ stack))
  call-one Upper v one = refl
  call-one Lower v one = refl
  call-one Trim v one = refl
  call-one Size (a_datum t) one = refl
  call-one Size (a_text s) one = refl
  call-one Size (a_number n) one = refl
  call-one Size (a_truth b) one = refl
  call-one Not v one = refl
  call-one Base64 v one = refl
  call-one UrlEncode v one = refl
  call-one Eq v one = absurd (true≢false (sym one))
  call-one Neq v one = absurd (true≢false (sym one))
  call-one Contains v one = absurd (true≢false (sym one))
  call-one DefaultIfEmpty v one = absurd (true≢false (sym one))
  call-one JsonPath v one = absurd (true≢false (sym one))

  pub call-two :
      (h : Helper) (v w : Value) → IsTrue (takes_two h)
      → effect code root (Call h) loops
      (converted (second_parameter h) w ∷ converted (signature_of h).first v ∷ stack)
      ≡ Some (with_stack
      (made_by h (converted (signature_of h).first v ∷ converted (second_parameter h) w ∷ []) ∷ stack))
  call-two Eq v w two = refl
  call-two Neq v w two = refl
  call-two Contains v w two = refl
  call-two DefaultIfEmpty v w two = refl
  call-two JsonPath v w two = absurd (true≢false (sym two))
  call-two Upper v w two = absurd (true≢false (sym two))
  call-two Lower v w two = absurd (true≢false (sym two))
  call-two Trim v w two = absurd (true≢false (sym two))
  call-two Size v w two = absurd (true≢false (sym two))
  call-two Not v w two = absurd (true≢false (sym two))
  call-two Base64 v w two = absurd (true≢false (sym two))
  call-two UrlEncode v w two = absurd (true≢false (sym two))

pub kind-one :
    (h : Helper) (v : Value) → IsTrue (takes_one h)
    → kind_of (made_by h (converted (signature_of h).first v ∷ [])) ≡ result_kind h
kind-one Upper v one = refl
kind-one Lower v one = refl
kind-one Trim v one = refl
kind-one Size (a_datum t) one = refl
kind-one Size (a_text s) one = refl
kind-one Size (a_number n) one = refl
kind-one Size (a_truth b) one = refl
kind-one Not v one = refl
kind-one Base64 v one = refl
kind-one UrlEncode v one = refl
kind-one h v one = absurd (true≢false (sym one))

pub kind-two :
    (h : Helper) (v w : Value) → IsTrue (takes_two h)
    → kind_of (made_by h (converted (signature_of h).first v ∷ converted (second_parameter h) w ∷ []))
    ≡ result_kind h
kind-two Eq v w two = refl
kind-two Neq v w two = refl
kind-two Contains v w two = refl
kind-two DefaultIfEmpty v w two = refl
kind-two JsonPath v w two = refl
kind-two h v w two = absurd (true≢false (sym two))
