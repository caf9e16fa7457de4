use Rattle.std.proofs.Common.{◌≡◌, ◌+◌, length}
use Rattle.std.specs.Prelude.{option_map}
use Rattle.template_words.specs.declared.mode.Mode.TheVariants.{Start}
use Rattle.template_words.specs.Marks.{close_from}
use Rattle.template_words.proofs.marks.close_offset.Given as goal

abbrev pub invariant-loop-rest : goal.invariant-loop-rest
invariant-loop-rest l = record {
  counted : l.at + length l.rest ≡ length l.text;
  ahead : close_from l.close Start l.text ≡ option_map (λ n. n + l.at) (close_from l.close l.mode l.rest);
}

abbrev pub decreases-loop-rest : goal.decreases-loop-rest
decreases-loop-rest l = length l.rest
