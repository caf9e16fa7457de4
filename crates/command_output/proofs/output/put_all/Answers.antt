use Rattle.std.proofs.Common.{◌≡◌, ◌+◌, List, ℕ, ◌++◌, drop, sym, ap, ◌∙◌, append_assoc, arith}
use Rattle.std.specs.Prelude.{flat_map}
use Rattle.std.specs.Borrow.{Bor}
use Rattle.std.proofs.lemmas.Result.{err_from_is_err_and}
use Rattle.std.proofs.KnownBytes.{Appends-trans}
use Rattle.std.proofs.lemmas.Grind.{common_steps}
use Rattle.command_output.proofs.PartsWritten.{part_after}
use Rattle.command_output.proofs.output.put_all.Goals as goal

abbrev bytes_of : List (Bor (List ℕ)) → List ℕ
bytes_of = flat_map (λ text. text.now)

pub returns-in_err-put : goal.returns-in_err-put
returns-in_err-put g c =
    let p = err_from_is_err_and c.from_residual.result c.from_residual.ensures.1 in
    let (front, split, written) = c.loop-text.invariant in
    let next : bytes_of (drop c.loop-text.text-index c.args.texts.now)
    ≡ c.as_bytes.result.now ++ bytes_of (drop (c.loop-text.text-index + 1) c.args.texts.now) =
    grind (arith, common_steps) in
    rw p.1 (part_after _ _ _ _ front _ _ written c.in_err-put.ensures (split ∙ ap (λ l. front ++ l) next))

pub loop-text-preserved : goal.loop-text-preserved
loop-text-preserved g c =
    let (front, split, written) = c.loop-text.invariant in
    let next : bytes_of (drop c.loop-text.text-index c.args.texts.now)
    ≡ c.as_bytes.result.now ++ bytes_of (drop (c.loop-text.text-index + 1) c.args.texts.now) =
    grind (arith, common_steps) in (
      front ++ c.as_bytes.result.now,
      split ∙ ap (λ l. front ++ l) next ∙ sym (append_assoc front _ _),
      Appends-trans _ _ _ _ _ written c.in_ok-put.ensures,
    )
