use Rattle.mock.proofs.serve.serve.Given as goal

abbrev pub ghosts-serve_book-L-Origin : goal.ghosts-serve_book-L-Origin
ghosts-serve_book-L-Origin g a = record { origin = a.book }

abbrev pub ghosts-serve_book-L-Ledger : goal.ghosts-serve_book-L-Ledger
ghosts-serve_book-L-Ledger g a = record { name = a.blank.name; parts = a.blank.parts }

abbrev pub ghosts-serve_book-L-Naming : goal.ghosts-serve_book-L-Naming
ghosts-serve_book-L-Naming g a = record { book = a.opened.0 }
