use Rattle.server_cases.proofs.broken.serve_one.Given as goal

abbrev pub ghosts-serve_over-L-Origin : goal.ghosts-serve_over-L-Origin
ghosts-serve_over-L-Origin g a = record { origin = a.book }

abbrev pub ghosts-serve_over-L-Ledger : goal.ghosts-serve_over-L-Ledger
ghosts-serve_over-L-Ledger g a = record { name = a.blank.name; parts = a.blank.parts }

abbrev pub ghosts-serve_over-L-Naming : goal.ghosts-serve_over-L-Naming
ghosts-serve_over-L-Naming g a = record { book = a.opened.0 }
