use Rattle.std.proofs.Common.{◌≡◌, ◌+◌, length}
use Rattle.std.specs.Prelude.{option_map}
use Rattle.template_tags.specs.Inner.Scan.{break_at}
use Rattle.template_tags.proofs.items.break_offset.Given as goal

abbrev pub invariant-loop-rest : goal.invariant-loop-rest
invariant-loop-rest l = record {
  counted : l.at + length l.rest ≡ length l.text;
  ahead : break_at l.fn.mode l.text ≡ option_map (λ n. n + l.at) (break_at l.mode l.rest);
}

abbrev pub decreases-loop-rest : goal.decreases-loop-rest
decreases-loop-rest l = length l.rest
