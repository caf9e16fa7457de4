-- The values of a request and the JSON of its body as they are kept, and what a path finds in it.
use Rattle.std.proofs.Common.{◌≡◌, ◌↔◌, ℕ, Bool, List, Option, None, Some, Result, IfOk, IfSome, IsTrue, subst}
use Rattle.std.specs.Global.{Box}
use Rattle.std.specs.Option.{IsSomeAnd, option_map}
use Rattle.std.specs.Str.Lossy.{utf8_lossy}
use Rattle.std.specs.declared.alloc.AllocError.{AllocError}
use Rattle.data_tree.specs.LookUp.{at}
use Rattle.data_tree.specs.Tree.{Tree, view}
use Rattle.data_tree.specs.declared.data.Data.{Data}
use Rattle.data_tree.specs.declared.step.Step.{Step}
use Rattle.mock_request.specs.Request.{Request}
use Rattle.json_bridge.proofs.Unique.{one_path}
use Rattle.json_bridge.specs.Path.{SpellsPath}
use Rattle.json_bridge.specs.Reading.{tree_of_text}
use Rattle.request_match.specs.Inner.Read.{IsReadOf}
use Rattle.request_match.specs.Parts.Matching.{MeetsAtPath, found_text}
use Rattle.value_match.specs.Matching.{Matches}
use Rattle.value_match.specs.declared.value_spec.ValueSpec.{ValueSpec}

-- the values that were read are those of the request
pub are_of : (kept : Option (Box Request)) (values snapshot request : Request) →
    IsSomeAnd kept (λ read. read.value ≡ snapshot) → IfSome kept (λ read. read.value ≡ values) →
    snapshot ≡ request → values ≡ request
are_of None values snapshot request read is same = elim read [ ]
are_of (Some kept) values snapshot request read is same = cc

-- the value that was read is the tree of the body's text
pub was_read : (P : Tree → Type 0) (body : List ℕ) (kept : Option (Option Data)) (found : Option Data)
    (r : Result Bool AllocError) → IsSomeAnd kept (IsReadOf body) → kept ≡ Some found →
    IfOk r (λ b. IsTrue b ↔ IsSomeAnd (option_map view found) P) →
    IfOk r (λ b. IsTrue b ↔ IsSomeAnd (tree_of_text (utf8_lossy body)) P)
was_read P body kept found r read is h =
    let there : IsReadOf body found = subst (λ k. IsSomeAnd k (IsReadOf body)) is read in
    subst (λ t. IfOk r (λ b. IsTrue b ↔ IsSomeAnd t P)) there.tree h

-- a text spells one path only
pub at_path : (expression : List ℕ) (steps : List Step) (m : ValueSpec) (tree : Tree) →
    SpellsPath expression steps → Matches m (found_text (at steps tree)) ↔ MeetsAtPath expression m tree
at_path expression steps m tree spelled = (
  λ h. record { steps = steps; spelled = spelled; meets = h },
  λ there. subst (λ s. Matches m (found_text (at s tree)))
      (one_path expression there.steps steps there.spelled spelled)
      there.meets,
)

if_some : {X : Type 0} (P Q : X → Type 0) (o : Option X) → ((x : X) → P x ↔ Q x)
    → IsSomeAnd o P ↔ IsSomeAnd o Q
if_some P Q None f = (λ h. h, λ h. h)
if_some P Q (Some x) f = f x

pub at_path_of : (expression body : List ℕ) (steps : List Step) (m : ValueSpec) → SpellsPath expression steps →
    IsSomeAnd (tree_of_text (utf8_lossy body)) (λ tree. Matches m (found_text (at steps tree)))
    ↔ IsSomeAnd (tree_of_text (utf8_lossy body)) (MeetsAtPath expression m)
at_path_of expression body steps m spelled =
    if_some (λ tree. Matches m (found_text (at steps tree))) (MeetsAtPath expression m)
    (tree_of_text (utf8_lossy body)) (λ tree. at_path expression steps m tree spelled)
