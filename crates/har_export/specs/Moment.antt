-- A moment as HAR writes it: ISO 8601 in UTC (HAR 1.2, `startedDateTime`; RFC 3339), always with three digits of a
-- second's fraction.
use Rattle.std.specs.Prelude.{◌≡◌, ℕ, ◌*◌, ◌≤◌, pos, false, List, ◌++◌, Some, codes}
use Rattle.jiff_core.specs.DateTime.{civil_nanos}
use Rattle.jiff_core.specs.declared.civil.datetime.DateTime.{DateTime}
use Rattle.jiff_fmt.specs.Text.{datetime_text}
use Rattle.har_export.specs.declared.moment.TheConstants.{LAST_MOMENT}

-- b'T'
abbrev pub letter_t : ℕ
letter_t = 84

-- what a clock shows, as 1970-01-01T00:00:01.000Z
abbrev pub moment_text : DateTime → List ℕ
moment_text shown = datetime_text false letter_t (Some 3) shown ++ codes "Z"

-- the text of so many milliseconds after 1970 began: what a clock at UTC shows then
pub record IsMoment (ms : ℕ) (text : List ℕ) : Type 0 where
  pub shown : DateTime
  pub at : civil_nanos shown ≡ pos (ms * 1_000_000)
  pub spelled : text ≡ moment_text shown

-- before the year 9999
abbrev pub IsInRange : ℕ → Type 0
IsInRange ms = ms ≤ LAST_MOMENT
