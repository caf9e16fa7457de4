-- What references to parts of a text are seen as.
use Rattle.std.specs.Prelude.{ℕ, List, Option, Some, None}
use denote.Ref.{Bor}

abbrev pub part_view : Option (Bor (List ℕ)) → Option (List ℕ)
part_view None = None
part_view (Some x) = Some x.now

abbrev pub parts_view : Option (Bor (List ℕ) × Bor (List ℕ)) → Option (List ℕ × List ℕ)
parts_view None = None
parts_view (Some x) = Some (x.0.now, x.1.now)
