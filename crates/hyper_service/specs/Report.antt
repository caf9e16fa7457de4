-- What is written once no more connections are accepted, to which stream, and the exit status.
use Rattle.std.specs.Prelude.{◌≡◌, ◌⊎◌, ℕ, List, [], ◌++◌, codes, decimal, Option, Result, Ok, Err}
use Rattle.std.specs.Io.KnownBytes.{Appends}
use Rattle.std.specs.Net.Text.{socket_text}
use Rattle.std.specs.declared.net.socket_addr.SocketAddr.{SocketAddr}
use Rattle.command_output.specs.Lines.{error_line, out_of_memory}
use Rattle.command_output.specs.Output.{AppendsFront, AppendsPart}
use Rattle.http_connections.specs.declared.serve_on.End.{End}
use Rattle.http_connections.specs.declared.serve_on.End.TheVariants as end
use Rattle.logbook.specs.Pages.{Book as HistoryName}
use Rattle.request_journal.specs.Past.{Past}
use Rattle.shared_book.specs.Held.{Held}
use Rattle.shared_book.specs.Settled.{AreSettled, AreUnsettled}
use Rattle.shared_book.specs.declared.settled.SettleRefusal.{SettleRefusal}
use Rattle.shared_book.specs.declared.settled.SettleRefusal.TheVariants as refusal
use Rattle.shared_book.specs.declared.settled.Settled.{Settled}

abbrev pub settled_line : ℕ → List ℕ
settled_line events = codes "settled " ++ (decimal events ++ codes " events\n")

-- why the seats aren't settled
abbrev pub refusal_line : SettleRefusal → List ℕ
refusal_line refusal.SeatsMissing = codes "error: seats missing\n"
refusal_line (refusal.Mismatch number kept) = codes "error: history mismatch\n"
refusal_line refusal.OutOfMemory = error_line out_of_memory

-- Why no more connections were accepted is reported, as far as standard error takes the line (1), unless as many as
-- were wanted were served or the end was asked for (0).
abbrev pub ReportsEnd : {E : Type 0} → (E → Option (List ℕ)) → End → E → E → ℕ → Type 0
ReportsEnd holds end.AllServed err err' status = (status ≡ 0) × (err' ≡ err)
ReportsEnd holds end.Asked err err' status = (status ≡ 0) × (err' ≡ err)
ReportsEnd holds end.AcceptFailed err err' status =
    (status ≡ 1) × AppendsFront (holds err) (holds err') (codes "error: accept failed\n")
ReportsEnd holds end.OutOfMemory err err' status =
    (status ≡ 1) × AppendsFront (holds err) (holds err') (error_line out_of_memory)

-- The number of events is on standard output, and then the end is reported; or standard output took a part of that line
-- alone (1); or, where the seats aren't settled, standard error says why (1). The other stream is as it was.
abbrev pub ReportsSeats : {O E : Type 0} → (O → Option (List ℕ)) → (E → Option (List ℕ))
    → Result ℕ SettleRefusal → End → O → O → E → E → ℕ → Type 0
ReportsSeats out_holds err_holds (Ok events) why out out' err err' status =
    (Appends (out_holds out) (out_holds out') (settled_line events) × ReportsEnd err_holds why err err' status)
    ⊎ ((status ≡ 1) × AppendsPart (out_holds out) (out_holds out') (settled_line events) × (err' ≡ err))
ReportsSeats out_holds err_holds (Err refused) why out out' err err' status =
    (status ≡ 1) × AppendsFront (err_holds err) (err_holds err') (refusal_line refused) × (out' ≡ out)

-- the number of events in the one history of these seats; or why they have none
abbrev pub IsSettling : Past → ℕ → HistoryName → List Held → Result ℕ SettleRefusal → Type 0
IsSettling origin parts name seats (Ok events) =
    (settled : Settled) × AreSettled origin parts name seats settled × (settled.events ≡ events)
IsSettling origin parts name seats (Err reason) = AreUnsettled origin parts name seats reason

-- some seats were settled, and that is reported, and the end
pub record ReportsSettled {O E : Type 0} (out_holds : O → Option (List ℕ)) (err_holds : E → Option (List ℕ))
    (origin : Past) (parts : ℕ) (name : HistoryName) (out out' : O) (err err' : E) (status : ℕ) : Type 0 where
  pub seats : List Held
  pub settled : Result ℕ SettleRefusal
  pub settling : IsSettling origin parts name seats settled
  pub why : End
  pub reported : ReportsSeats out_holds err_holds settled why out out' err err' status

-- the line that says where the server listens
abbrev pub listening_line : SocketAddr → List ℕ
listening_line address = codes "listening on " ++ (socket_text address ++ codes "\n")

-- nothing of such a line is written, or as much of it as the writer took
abbrev pub AnnouncesInPart : Option (List ℕ) → Option (List ℕ) → Type 0
AnnouncesInPart old new =
    Appends old new [] ⊎ ((address : SocketAddr) × AppendsFront old new (listening_line address))

-- the whole line is
abbrev pub IsAnnounced : Option (List ℕ) → Option (List ℕ) → Type 0
IsAnnounced old new = (address : SocketAddr) × Appends old new (listening_line address)

-- the whole line is, or at an error so much
abbrev pub Announces : {T E : Type 0} → Result T E → Option (List ℕ) → Option (List ℕ) → Type 0
Announces (Ok _) old new = IsAnnounced old new
Announces (Err _) old new = AnnouncesInPart old new

-- the stream is as it was; or that memory ran out is on it, as far as it takes the line
abbrev pub MayReportMemory : {E : Type 0} → (E → Option (List ℕ)) → E → E → Type 0
MayReportMemory holds err err' = (err' ≡ err) ⊎ AppendsFront (holds err) (holds err') (error_line out_of_memory)

-- the seats were settled, and that is reported; or memory ran out, as standard error says (1)
abbrev pub ReportsEnded : {O E : Type 0} → (O → Option (List ℕ)) → (E → Option (List ℕ)) → Past → ℕ → HistoryName → O → O
    → E → E → ℕ → Type 0
ReportsEnded out_holds err_holds origin parts name out out' err err' status =
    ReportsSettled out_holds err_holds origin parts name out out' err err' status
    ⊎ ((out' ≡ out) × AppendsFront (err_holds err) (err_holds err') (error_line out_of_memory) × (status ≡ 1))

-- What a server writes: the line that says where it listens, which standard output may not take (1), or for which there
-- may be no memory, as standard error then says (1); then that its seats were settled, or that memory ran out (1).
abbrev pub ReportsServed : {O E : Type 0} → (O → Option (List ℕ)) → (E → Option (List ℕ)) → Past → ℕ → HistoryName → O → O
    → E → E → ℕ → Type 0
ReportsServed {O = O} out_holds err_holds origin parts name out out' err err' status =
    (AnnouncesInPart (out_holds out) (out_holds out') × MayReportMemory err_holds err err' × (status ≡ 1))
    ⊎ ((address : SocketAddr) × (listening : O)
    × Appends (out_holds out) (out_holds listening) (listening_line address)
    × ReportsEnded out_holds err_holds origin parts name listening out' err err' status)

-- what a server writes that has served nothing, whatever the book is
abbrev pub ReportsUnserved : {O E : Type 0} → (O → Option (List ℕ)) → (E → Option (List ℕ)) → O → O → E → E → ℕ
    → Type 0
ReportsUnserved out_holds err_holds out out' err err' status =
    (origin : Past) (parts : ℕ) (name : HistoryName)
    → ReportsServed out_holds err_holds origin parts name out out' err err' status
