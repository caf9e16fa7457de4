use Rattle.std.proofs.Common.{rules}
use Rattle.recorder.proofs.ForwardingLemmas.{sorted_by_name, stable_by_name}
use Rattle.recorder.proofs.forwarding.sort.Goals as goal

pub returns-clause-in_order : goal.returns-clause-in_order
returns-clause-in_order c =
    sorted_by_name (λ a r q k. search rules) c.sort_by.new.self.items c.in_ok-sort_by.ensures.sorted

pub returns-clause-stable : goal.returns-clause-stable
returns-clause-stable c =
    stable_by_name (λ a r q k. search rules) c.args.headers.now.items c.sort_by.new.self.items c.sort_by.ensures.stable
