use Rattle.std.proofs.Common.{ℕ, List, ap, subst, refl, ◌∙◌}
use Rattle.mock_request.specs.Request.{Request}
use Rattle.stub_book.specs.Growth.{IsServed}
use Rattle.shared_book.proofs.LetGoLemmas.{gains}
use Rattle.shared_book.proofs.SeatLemmas.{caught_up, err_of, refused_serve, seat_entered, seat_refused, told_on}
use Rattle.shared_book.specs.Held.{Gained, Held}
use Rattle.shared_book.specs.Inner.Keeps.{Keeps}
use Rattle.shared_book.specs.Inner.Seat.{line_of, lines_in}
use Rattle.shared_book.specs.Refused.{IsServeRefused}
use Rattle.shared_book.specs.Seen.{Enters}
use Rattle.shared_book.specs.declared.receipt.Receipt.{Receipt}
use Rattle.stub_book.specs.declared.error.BookError.{BookError}
use Rattle.shared_book.proofs.seat.Seat.keep_served.Goals as goal

pub invariant_of-self-2 : goal.invariant_of-self-2
invariant_of-self-2 g c =
    let keeps : Keeps c.keep.new.self.told (line_of c.self.inside.lines.own) (line_of c.keep.new.self.own)
    c.in_ok-entered.entered.receipt =
    subst (λ (held : List Receipt). Keeps c.keep.new.self.told
    (record { let_go = c.self.inside.lines.own.let_go; held = held }) (line_of c.keep.new.self.own)
    c.in_ok-entered.entered.receipt) c.in_ok-reserve.ensures.items c.keep.ensures.own in
    seat_entered g.L.Origin.origin c.self.inside.place c.serve.new.place c.in_ok-entered.entered.receipt _ _ _ _ _ _ _ _
    _ _ _ _ _ _ c.self.invariant c.in_ok-entered.ensures.ok.1 c.in_ok-entered.ensures.base c.keep.ensures.told
    keeps c.keep.ensures.joined c.serve.ensures.parts c.in_ok-entered.ensures.entered.0

pub returns-clause-ok : goal.returns-clause-ok
returns-clause-ok g c =
    let receipt : Receipt = c.in_ok-entered.entered.receipt in
    let old : Held = record {
      number = c.self.inside.place.number;
      seen = c.self.inside.place.seen;
      parts = c.self.inside.parts;
      own = line_of c.self.inside.lines.own;
      joined = lines_in c.self.inside.lines.joined.items;
      replaced = c.self.inside.replaced;
    } in
    let new : Held = record {
      number = c.serve.new.place.number;
      seen = c.serve.new.place.seen;
      parts = c.self.inside.parts;
      own = line_of c.keep.new.self.own;
      joined = lines_in c.keep.new.self.joined.items;
      replaced = c.in_ok-entered.entered.replaced;
    } in
    let keeps : Keeps c.keep.new.self.told old.own new.own receipt =
    subst (λ (held : List Receipt). Keeps c.keep.new.self.told
    (record { let_go = c.self.inside.lines.own.let_go; held = held }) (line_of c.keep.new.self.own)
    receipt) c.in_ok-reserve.ensures.items c.keep.ensures.own in (
      receipt,
      record {
        gained = subst (λ (s : Held). Gained g.L.Origin.origin s receipt new) c.self.view_is
            (gains g.L.Origin.origin c.keep.new.self.told old new receipt
            (told_on g.L.Origin.origin c.self.inside.place c.serve.new.place receipt c.self.inside.lines.told
            c.in_ok-entered.entered.base c.keep.new.self.told c.in_ok-entered.ensures.ok.1
            c.self.invariant.dropped c.in_ok-entered.ensures.base c.keep.ensures.told)
            refl keeps c.keep.ensures.joined);
        asked_for = subst (λ (r : Request). IsServed r receipt.event) (c.in_ok-kept.ensures.cases ∙ c.in_ok-request.ensures)
            c.in_ok-entered.ensures.ok.0;
        entered = subst (λ (s : Held). Enters g.L.Origin.origin g.L.Naming.book s new receipt) c.self.view_is
            c.in_ok-entered.ensures.ok.1;
      },
    )

pub invariant_of-self-in_err-entered : goal.invariant_of-self-in_err-entered
invariant_of-self-in_err-entered g c =
    seat_refused g.L.Origin.origin c.self.inside.place c.serve.new.place _ _ _ _ _ _ _ _
    c.self.inside.lines.own.let_go c.self.inside.lines.own.held.items c.reserve.new.self.items _
    c.self.invariant c.in_err-entered.ensures.seen c.serve.ensures.parts c.in_err-entered.ensures.not_entered
    c.in_ok-reserve.ensures.items

pub returns-in_err-entered-clause-why : goal.returns-in_err-entered-clause-why
returns-in_err-entered-clause-why g c =
    let let_go : List ℕ = c.self.inside.lines.own.let_go in
    let old : Held = record {
      number = c.self.inside.place.number;
      seen = c.self.inside.place.seen;
      parts = c.self.inside.parts;
      own = line_of c.self.inside.lines.own;
      joined = lines_in c.self.inside.lines.joined.items;
      replaced = c.self.inside.replaced;
    } in
    let new : Held = record {
      number = c.serve.new.place.number;
      seen = c.serve.new.place.seen;
      parts = c.self.inside.parts;
      own = record { let_go = let_go; held = c.reserve.new.self.items };
      joined = lines_in c.self.inside.lines.joined.items;
      replaced = c.self.inside.replaced;
    } in
    err_of (λ (error : BookError). IsServeRefused g.L.Origin.origin g.L.Naming.book c.args.self.now new error.code)
    c.from_residual-in_err-entered.result c.in_err-entered.field-0.0 c.from_residual-in_err-entered.ensures.1
    (subst (λ (s : Held).
    IsServeRefused g.L.Origin.origin g.L.Naming.book s new c.in_err-entered.field-0.0.code) c.self.view_is
    (refused_serve g.L.Origin.origin old new c.in_err-entered.field-0.0.code
    (caught_up g.L.Origin.origin old new c.in_err-entered.ensures.seen refl
    (ap (λ (rs : List Receipt). record { let_go = let_go; held = rs }) c.in_ok-reserve.ensures.items) refl refl)
    c.in_err-entered.ensures.why))
