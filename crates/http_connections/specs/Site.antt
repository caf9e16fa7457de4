-- Which site answers, and by which seat.
use Rattle.std.specs.Prelude.{◌≡◌, ℕ}
use Rattle.std.specs.Arc.{arc_value}
use Rattle.std.specs.declared.sync.Arc.{Arc}
use Rattle.http_connections.specs.Sent.{Giver}
use Rattle.http_connections.specs.declared.seats.pool.SeatPool.{SeatPool}
use Rattle.http_connections.specs.declared.seats.slot.SeatSlot.{SeatSlot}
use Rattle.http_connections.specs.declared.serve_on.Server.{Server}
use Rattle.http_connections.specs.declared.request.service.MessageService.{MessageService}
use Rattle.http_connections.specs.declared.settings.Settings.{Settings}

module _ {A Seat Reply Exchange Content : Type 0} where
  -- the site of a slot, and the number that its seat has to have
  abbrev pub giver : SeatSlot A Seat Reply Exchange Content → Giver A
  giver slot = record { site = arc_value slot.site; number = slot.number }

  abbrev pub giver_of : {Z : Type 0} → Arc (SeatSlot A Seat Reply Exchange Content) Z → Giver A
  giver_of slot = giver (arc_value slot)

  -- the site of a pool of seats
  abbrev pub site_in : {Z : Type 0} → Arc (SeatPool A Seat Reply Exchange Content) Z → A
  site_in pool = arc_value (arc_value pool).site

  -- the site by which a server answers, and its settings
  abbrev pub site_of : Server A Seat Reply Exchange Content → A
  site_of server = site_in server.pool

  abbrev pub settings_of : Server A Seat Reply Exchange Content → Settings
  settings_of server = server.settings

  module _ {M I F R : Type 0} (makes : M → I → MessageService R A Seat Reply Exchange Content → F → Type 0)
      (connects : M) (io : I) where
    -- a connection was made so over this reader and writer, and its requests are answered by a service of the site and
    -- the seat
    abbrev pub IsConnectionFor : Giver A → F → Type 0
    IsConnectionFor by made =
        (service : MessageService R A Seat Reply Exchange Content) × (giver_of service.slot ≡ by)
        × makes connects io service made

    -- the same, by some seat of the site
    abbrev pub IsConnectionOf : A → F → Type 0
    IsConnectionOf site made = (number : ℕ) × IsConnectionFor (record { site = site; number = number }) made
