use Rattle.std.proofs.Common.{◌≡◌, length, string_bytes, IsUtf8, sym, subst, rules, arith}
use Rattle.std.proofs.lemmas.List.{take_all}
use Rattle.std.proofs.lemmas.Str.{IsUtf8-string_bytes}
use Rattle.data_tree.proofs.draft.Draft.new.Goals as goal

pub invariant_of-result : goal.invariant_of-result
invariant_of-result c =
    let bytes = string_bytes c.args.text in
    let whole : c.len-start.result ≡ length bytes = search rules in (
      omega arith,
      subst IsUtf8 (sym (take_all c.len-start.result bytes (omega arith)))
          (IsUtf8-string_bytes c.args.text),
    )
