use Rattle.server_cases.proofs.cases.play.Given as goal

abbrev pub ghosts-play_on-L-Origin : goal.ghosts-play_on-L-Origin
ghosts-play_on-L-Origin g a = record { origin = a.book }

abbrev pub ghosts-play_on-L-Ledger : goal.ghosts-play_on-L-Ledger
ghosts-play_on-L-Ledger g a = record { name = a.blank.name; parts = a.blank.parts }

abbrev pub ghosts-play_on-L-Naming : goal.ghosts-play_on-L-Naming
ghosts-play_on-L-Naming g a = record { book = a.opened.0 }
