use Rattle.std.proofs.Common.{◌-◌, ◌∙◌, ap, option_map, rules}
use Rattle.http_connections.proofs.Accepted.{closed, handed_on, none_accepted}
use Rattle.http_connections.proofs.accept.accepting.AcceptingStream.poll_next.Goals as goal
use Rattle.http_connections.specs.Site.{IsConnectionOf, site_in}

pub returns-clause-same : goal.returns-clause-same
returns-clause-same g c = λ tasks last wanted.
    none_accepted (λ connects pool task. (socket : _) × IsConnectionOf g.M.Connects.makes connects socket
    (site_in pool) task.connection.value) c.args.self.now.connects c.poll_turn.new.self.connects
    c.args.self.now.pool c.poll_turn.new.self.pool c.args.self.now.left c.poll_turn.new.self.left tasks last
    c.poll_turn.ensures.connects c.poll_turn.ensures.pool c.poll_turn.ensures.left wanted

pub returns-2-clause-same : goal.returns-2-clause-same
returns-2-clause-same g c = λ tasks last wanted.
    none_accepted (λ connects pool task. (socket : _) × IsConnectionOf g.M.Connects.makes connects socket
    (site_in pool) task.connection.value) c.args.self.now.connects c.poll_socket.new.self.connects
    c.args.self.now.pool c.poll_socket.new.self.pool c.args.self.now.left c.poll_socket.new.self.left tasks last
    (c.poll_socket.ensures.connects ∙ (c.poll_turn.ensures.connects))
    (c.poll_socket.ensures.pool ∙ (c.poll_turn.ensures.pool))
    (c.poll_socket.ensures.left ∙ (c.poll_turn.ensures.left)) wanted

pub returns-in-Err-clause-same : goal.returns-in-Err-clause-same
returns-in-Err-clause-same g c = rw c.yield_now.ensures.pending (λ tasks last wanted.
    none_accepted (λ connects pool task. (socket : _) × IsConnectionOf g.M.Connects.makes connects socket
    (site_in pool) task.connection.value) c.args.self.now.connects c.refused.new.self.connects
    c.args.self.now.pool c.refused.new.self.pool c.args.self.now.left c.refused.new.self.left tasks last
    (c.refused.ensures.connects ∙ (c.poll_socket.ensures.connects ∙ (c.poll_turn.ensures.connects)))
    (c.refused.ensures.pool ∙ (c.poll_socket.ensures.pool ∙ (c.poll_turn.ensures.pool)))
    (c.refused.ensures.left ∙ (c.poll_socket.ensures.left ∙ (c.poll_turn.ensures.left))) wanted)

pub returns-in-Some-clause-value : goal.returns-in-Some-clause-value
returns-in-Some-clause-value g c = (
  (
    _,
    rw (
      c.poll_socket.ensures.connects ∙ c.poll_turn.ensures.connects,
      c.poll_socket.ensures.pool ∙ c.poll_turn.ensures.pool,
    ) at c.in-Some.ensures.made,
  ),
  (rw c.poll_turn.ensures.left at (c.is_done.ensures (search rules))),
)

pub returns-in-Some-clause-rest : goal.returns-in-Some-clause-rest
returns-in-Some-clause-rest g c = λ tasks last wanted.
    handed_on (λ connects pool task. (socket : _) × IsConnectionOf g.M.Connects.makes connects socket
    (site_in pool) task.connection.value) c.args.self.now.connects c.task.new.self.connects
    c.args.self.now.pool c.task.new.self.pool c.args.self.now.left c.task.new.self.left tasks last
    (c.task.ensures.connects ∙ (c.poll_socket.ensures.connects ∙ (c.poll_turn.ensures.connects)))
    (c.task.ensures.pool ∙ (c.poll_socket.ensures.pool ∙ (c.poll_turn.ensures.pool)))
    (c.task.ensures.left ∙ ap (option_map (λ left. left - 1)) (c.poll_socket.ensures.left ∙ c.poll_turn.ensures.left))
    (rw c.poll_turn.ensures.left at (c.is_done.ensures (search rules))) c.in-Some.task wanted

pub returns-in-None-clause-same : goal.returns-in-None-clause-same
returns-in-None-clause-same g c = rw c.yield_now-in-None.ensures.pending (λ tasks last wanted.
    closed (λ connects pool task. (socket : _) × IsConnectionOf g.M.Connects.makes connects socket
    (site_in pool) task.connection.value) c.args.self.now.connects c.task.new.self.connects
    c.args.self.now.pool c.task.new.self.pool c.args.self.now.left c.task.new.self.left tasks last
    (c.task.ensures.connects ∙ (c.poll_socket.ensures.connects ∙ (c.poll_turn.ensures.connects)))
    (c.task.ensures.pool ∙ (c.poll_socket.ensures.pool ∙ (c.poll_turn.ensures.pool)))
    (c.task.ensures.left ∙ ap (option_map (λ left. left - 1)) (c.poll_socket.ensures.left ∙ c.poll_turn.ensures.left)) wanted)

pub returns-in-Later-clause-same : goal.returns-in-Later-clause-same
returns-in-Later-clause-same g c = rw c.yield_now-in-Later.ensures.pending (λ tasks last wanted.
    none_accepted (λ connects pool task. (socket : _) × IsConnectionOf g.M.Connects.makes connects socket
    (site_in pool) task.connection.value) c.args.self.now.connects c.wait_for_room.new.self.connects
    c.args.self.now.pool c.wait_for_room.new.self.pool c.args.self.now.left c.wait_for_room.new.self.left tasks last
    (c.wait_for_room.ensures.connects ∙ (c.poll_socket.ensures.connects ∙ (c.poll_turn.ensures.connects)))
    (c.wait_for_room.ensures.pool ∙ (c.poll_socket.ensures.pool ∙ (c.poll_turn.ensures.pool)))
    (c.wait_for_room.ensures.left ∙ (c.poll_socket.ensures.left ∙ (c.poll_turn.ensures.left))) wanted)

pub returns-then-is_done-clause-same : goal.returns-then-is_done-clause-same
returns-then-is_done-clause-same g c = λ tasks last wanted.
    none_accepted (λ connects pool task. (socket : _) × IsConnectionOf g.M.Connects.makes connects socket
    (site_in pool) task.connection.value) c.args.self.now.connects c.poll_end.new.self.connects
    c.args.self.now.pool c.poll_end.new.self.pool c.args.self.now.left c.poll_end.new.self.left tasks last
    (c.poll_end.ensures.connects ∙ (c.poll_turn.ensures.connects))
    (c.poll_end.ensures.pool ∙ (c.poll_turn.ensures.pool))
    (c.poll_end.ensures.left ∙ (c.poll_turn.ensures.left)) wanted

pub returns-in-Never-clause-same : goal.returns-in-Never-clause-same
returns-in-Never-clause-same g c = rw c.yield_now-in-Never.ensures.pending (λ tasks last wanted.
    none_accepted (λ connects pool task. (socket : _) × IsConnectionOf g.M.Connects.makes connects socket
    (site_in pool) task.connection.value) c.args.self.now.connects c.poll_socket.new.self.connects
    c.args.self.now.pool c.poll_socket.new.self.pool c.args.self.now.left c.poll_socket.new.self.left tasks last
    (c.poll_socket.ensures.connects ∙ (c.poll_turn.ensures.connects))
    (c.poll_socket.ensures.pool ∙ (c.poll_turn.ensures.pool))
    (c.poll_socket.ensures.left ∙ (c.poll_turn.ensures.left)) wanted)
