-- What a book that was just opened answers.
use Rattle.request_journal.specs.declared.event.ServeAnswer.{ServeAnswer}
use Rattle.request_journal.specs.declared.event.ServeAnswer.TheVariants.{Stub, Proxy, Unmatched}

-- the answer doesn't send the request on
abbrev pub IsOwn : ServeAnswer → Type 0
IsOwn (Stub captured) = Unit {0}
IsOwn (Proxy target) = ⊥
IsOwn Unmatched = Unit {0}
