use Rattle.mock.proofs.command_line.run_words.Goals as goal

pub returns-in-Err : goal.returns-in-Err
returns-in-Err g c = c.write_parser_message.ensures.streams.range
