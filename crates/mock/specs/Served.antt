-- What `mock serve` writes.
use Rattle.std.specs.Prelude.{◌≡◌, ◌⊎◌, ℕ, List, Option}
use Rattle.hyper_service.specs.Report.{ReportsServed}
use Rattle.logbook.specs.Pages.{Book as HistoryName}
use Rattle.request_journal.specs.Past.{Past}

-- Nothing is written to standard output, and the status is 1: there is no such book, nothing to listen with, or no
-- memory. Or a book that had the past `origin` is served, after lines on standard error that warn of its files, and
-- what is written is what a server writes of some history of it.
abbrev pub ServesBook : {O E : Type 0} → (O → Option (List ℕ)) → (E → Option (List ℕ)) → (Past → Type 0) → O → O → E
    → ℕ → Type 0
ServesBook {E = E} out_holds err_holds IsOrigin out out' err' status =
    ((out' ≡ out) × (status ≡ 1))
    ⊎ ((origin : Past) × IsOrigin origin × (parts : ℕ) × (name : HistoryName) × (ready : E)
    × ReportsServed out_holds err_holds origin parts name out out' ready err' status)
