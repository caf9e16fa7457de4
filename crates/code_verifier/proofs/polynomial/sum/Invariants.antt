use Rattle.std.proofs.Common.{◌≡◌, true, drop, ◌++◌}
use Rattle.code_rules.specs.Polynomial.{plus, fits}
use Rattle.code_verifier.proofs.polynomial.sum.Given as goal

-- what is summed and what is left to sum give the whole
abbrev pub invariant-loop-index : goal.invariant-loop-index
invariant-loop-index l =
    record {
      whole : l.sum.items ++ plus (drop l.index l.left) (drop l.index l.right) ≡ plus l.left l.right;
      small : fits l.sum.items ≡ true;
    }
