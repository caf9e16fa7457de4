use Rattle.std.proofs.Common.{ℕ, List, Bor, sym, ◌∙◌}
use Rattle.std.specs.Cmp.Derive.Mapped.{pointwise-map}
use Rattle.recorder.specs.Key.{same_header}
use Rattle.recorder.proofs.key.same_headers.Goals as goal

pub returns : goal.returns
returns c =
    c.eq.ensures
    ∙ sym (pointwise-map (λ (field : Bor (List ℕ) × Bor (List ℕ)).
    record { name = field.0.now; value = field.1.now })
    same_header c.args.a.now c.args.b.now)
