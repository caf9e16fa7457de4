use Rattle.std.proofs.Common.{◌++◌, drop, ap, sym, ◌∙◌}
use Rattle.std.specs.List.{position_or_len}
use Rattle.std.proofs.lemmas.List.{take-append-drop}
use Rattle.recorder.specs.Target.{is_slash}
use Rattle.recorder.proofs.target_text.path.Goals as goal

-- the text begins with what is before its first slash
pub unreachable-requires : goal.unreachable-requires
unreachable-requires c =
    let rest = c.args.rest.now in
    let at = position_or_len is_slash rest in
    c.in-None.ensures.cases (drop at rest)
    (sym (take-append-drop at rest) ∙ ap (λ bs. bs ++ drop at rest) (sym c.split_prefix.ensures.authority))
