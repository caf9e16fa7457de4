use Rattle.mock_program.proofs.OneStream.{nothing_written}
use Rattle.mock.proofs.command_line.own_help.Goals as goal

pub returns-in-None-clause-streams : goal.returns-in-None-clause-streams
returns-in-None-clause-streams g c = nothing_written g.O.Write.contents g.E.Write.contents c.args.out.now c.args.err.now
