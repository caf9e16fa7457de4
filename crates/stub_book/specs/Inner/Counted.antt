-- How the mappings that give way are counted.
use Rattle.std.specs.Prelude.{◌+◌, ◌-◌, ℕ, length}
use Rattle.request_journal.specs.declared.event.Event.{Event}
use Rattle.request_journal.specs.declared.event.Event.TheVariants as event

-- how many fewer mappings there are after the event than before it and those that it adds together
abbrev pub fewer : Event → ℕ → ℕ → ℕ
fewer (event.Add mapping) before after = before + 1 - after
fewer (event.StopRecording mappings skipped) before after = before + length mappings - after
fewer other before after = 0
