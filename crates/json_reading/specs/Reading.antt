-- A part of a document is read, or it is wrong in a way. Of two ways the one that is reported first counts, wherever in
-- the document they are, so a reading of a whole is put together from those of its parts.
use Rattle.std.specs.Prelude.{List, [], ◌∷◌, ◌++◌, Option, Some, None}
use Rattle.json_reading.specs.declared.kind.Kind.{Kind}
use Rattle.json_reading.specs.declared.kind.Kind.TheVariants.{NotJson, NumberNotWhole, Unsupported, Misshapen, TwoUrls}
use Rattle.json_reading.specs.declared.reading.Reading.{Reading}
use Rattle.json_reading.specs.declared.reading.Reading.TheVariants.{Read, Wrong}

-- the one of the two that is reported
abbrev pub first : Kind → Kind → Kind
first NotJson k = NotJson
first k NotJson = NotJson
first NumberNotWhole k = NumberNotWhole
first k NumberNotWhole = NumberNotWhole
first Unsupported k = Unsupported
first k Unsupported = Unsupported
first Misshapen k = Misshapen
first k Misshapen = Misshapen
first TwoUrls TwoUrls = TwoUrls

-- two parts
abbrev pub both : {A B : Type 0} → Reading A → Reading B → Reading (A × B)
both (Read a) (Read b) = Read (a, b)
both (Read a) (Wrong k) = Wrong k
both (Wrong j) (Read b) = Wrong j
both (Wrong j) (Wrong k) = Wrong (first j k)

-- what is made of a part
abbrev pub read_map : {A B : Type 0} → (A → B) → Reading A → Reading B
read_map f (Read a) = Read (f a)
read_map f (Wrong k) = Wrong k

-- a part that is judged further
abbrev pub read_then : {A B : Type 0} → (A → Reading B) → Reading A → Reading B
read_then f (Read a) = f a
read_then f (Wrong k) = Wrong k

-- the one of two that is there; both are wrong together, in this way
abbrev pub one_of : {A : Type 0} → Kind → Option A → Option A → Reading (Option A)
one_of k None b = Read b
one_of k (Some a) None = Read (Some a)
one_of k (Some a) (Some b) = Wrong k

abbrev pub either : {A : Type 0} → Kind → Reading (Option A) → Reading (Option A) → Reading (Option A)
either k a b = read_then (λ p. one_of k p.0 p.1) (both a b)

-- a part that may not be missing
abbrev pub there : {A : Type 0} → Option A → Reading A
there (Some a) = Read a
there None = Wrong Misshapen

abbrev pub needed : {A : Type 0} → Reading (Option A) → Reading A
needed part = read_then there part

-- a part that is wrong in this way too
abbrev pub wrong_also : {A : Type 0} → Kind → Reading A → Reading A
wrong_also k (Read a) = Wrong k
wrong_also k (Wrong j) = Wrong (first k j)

-- a list of parts, and one more after them
abbrev pub pushed : {A : Type 0} → Reading (List A) → Reading A → Reading (List A)
pushed list item = read_map (λ p. p.0 ++ p.1 ∷ []) (both list item)
