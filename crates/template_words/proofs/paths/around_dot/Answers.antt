use Rattle.std.proofs.Common.{◌≡◌, ◌<◌, ℕ, List, length, slice_index, sym, subst, IsCharBoundary}
use Rattle.template_words.specs.Bytes.{dot}
use Rattle.template_words.proofs.Dots.{after_dot}
use Rattle.template_words.proofs.paths.around_dot.Goals as goal

pub split_at-requires-2 : goal.split_at-requires-2
split_at-requires-2 c =
    let bytes = c.as_bytes.ensures.value in
    let I : List ℕ → Type 0 = λ s. c.in_ok-offset.offset < length s in
    let D : List ℕ → Type 0 = λ s. slice_index s c.in_ok-offset.offset ≡ dot in
    let P : List ℕ → Type 0 = λ s. IsCharBoundary s 1 in
    subst P (sym c.split_at.ensures.back)
    (after_dot c.args.text.now c.in_ok-offset.offset c.utf8.text (subst I bytes c.in_ok-offset.ensures.inside)
    (subst D bytes c.in_ok-offset.ensures.dot))
