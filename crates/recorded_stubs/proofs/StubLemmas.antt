-- The exchanges that are kept, and the mappings of those that are left.
use Rattle.std.proofs.Common.{◌≡◌, ℕ, suc, ◌+◌, ◌-◌, ◌<◌, ◌≤◌, Bool, true, false, List, [], ◌∷◌, ◌++◌, Bor, Option}
use Rattle.std.proofs.Common.{length, get_or, take, drop, append_assoc, append-nil, cond, refl, sym, ap, ◌∙◌, arith}
use Rattle.std.specs.Prelude.{nat_le, not}
use Rattle.std.specs.List.{filter, list_all}
use Rattle.std.proofs.lemmas.Bool.{and_from, and_parts}
use Rattle.std.proofs.lemmas.List.{drop_all, drop_more, get_or-map, length-append, length-map}
use Rattle.std.proofs.lemmas.List.Elements.{filter_more, filter_passes}
use Rattle.std.proofs.lemmas.List.Filters.{length-filter_both}
use Rattle.key_groups.specs.Groups.{places_of}
use Rattle.key_groups.specs.declared.place.Place.{Place}
use Rattle.key_groups.proofs.StepLemmas.{length-places_from}
use Rattle.mapping_model.specs.declared.mapping_spec.MappingSpec.{MappingSpec}
use Rattle.mapping_model.specs.declared.scenario_spec.ScenarioSpec.{ScenarioSpec}
use Rattle.mock_request.specs.Request.{Header}
use Rattle.recorder.specs.Key.{KeyParts, headers_named, key_of, same_key}
use Rattle.recorder.specs.declared.exchange.Exchange.{Exchange}
use Rattle.recorder.specs.Stubs.{is_kept, is_text_once, kept_of, keys_of, mapping_of, numbered, part_of, parts_of}
use Rattle.recorder.specs.Stubs.{skipped_of}
use Rattle.recorded_stubs.specs.Inner.Lent.{lent}
use Rattle.recorded_stubs.proofs.HeaderLemmas.{is_text}

-- ---- one element more of a filter

module _ {X : Type 0} (p : X → Bool) (xs : List X) (i : ℕ) (x : X) (within : i < length xs)
    (here : x ≡ get_or xs i x) where
  more : filter p (take (i + 1) xs) ≡ filter p (take i xs) ++ cond (p x) (x ∷ []) []
  more =
      filter_more p xs i x within
      ∙ ap (λ y. filter p (take i xs) ++ cond (p y) (y ∷ []) []) (sym here)

  pub passing : p x ≡ true → filter p (take (i + 1) xs) ≡ filter p (take i xs) ++ x ∷ []
  passing passes = more ∙ ap (λ b. filter p (take i xs) ++ cond b (x ∷ []) []) passes

  pub failing : p x ≡ false → filter p (take (i + 1) xs) ≡ filter p (take i xs)
  failing fails =
      more ∙ ap (λ b. filter p (take i xs) ++ cond b (x ∷ []) []) fails ∙ append-nil (filter p (take i xs))

-- ---- the exchanges that are kept

module _ (captured : List (List ℕ)) (exchanges : List Exchange) (kept : List (Bor Exchange))
    (all : lent kept ≡ kept_of captured exchanges) where
  length-kept : length kept ≡ length (kept_of captured exchanges)
  length-kept = sym (length-map kept (λ (e : Bor Exchange). e.now)) ∙ ap length all

  both : length kept + skipped_of captured exchanges ≡ length exchanges
  both =
      ap (λ n. n + skipped_of captured exchanges) length-kept
      ∙ length-filter_both (is_kept captured) (λ e. not (is_kept captured e)) (λ e. refl) exchanges

  pub few : length kept ≤ length exchanges
  few = omega (arith, both)

  pub skipped_is : length exchanges - length kept ≡ skipped_of captured exchanges
  skipped_is = omega (arith, both)

  module _ (i : ℕ) (exchange : Bor Exchange) (within : i < length kept)
      (here : exchange ≡ get_or kept i exchange) where
    pub lent_read : exchange.now ≡ get_or (lent kept) i exchange.now
    lent_read =
        ap (λ (e : Bor Exchange). e.now) here
        ∙ sym (get_or-map (λ (e : Bor Exchange). e.now) kept i exchange exchange.now within)

    pub is_kept_at : is_kept captured exchange.now ≡ true
    is_kept_at =
        let inside : i < length (kept_of captured exchanges) = omega (arith, length-kept) in
        ap (is_kept captured) (lent_read ∙ ap (λ es. get_or es i exchange.now) all)
        ∙ filter_passes (is_kept captured) exchanges i exchange.now inside

-- its headers of captured names are texts
pub texts_from_kept
    : (headers : List Header) (names : List (List ℕ))
    → list_all (λ name. is_text_once (headers_named name headers)) names ≡ true
    → list_all (λ name. list_all is_text (headers_named name headers)) names ≡ true
texts_from_kept headers [] all = refl
texts_from_kept headers (name ∷ names) all =
    let first : Bool = is_text_once (headers_named name headers) in
    let later : Bool = list_all (λ n. is_text_once (headers_named n headers)) names in
    let parts = and_parts first later all in
    let few : Bool = nat_le (length (headers_named name headers)) 1 in
    and_from (list_all is_text (headers_named name headers))
    (list_all (λ n. list_all is_text (headers_named n headers)) names)
    (and_parts few (list_all is_text (headers_named name headers)) parts.0).1 (texts_from_kept headers names parts.1)

-- each has its place
length-places
    : (captured : List (List ℕ)) (kept : List (Bor Exchange))
    → length (places_of same_key (keys_of captured (lent kept))) ≡ length kept
length-places captured kept =
    let keys : List KeyParts = keys_of captured (lent kept) in
    length-places_from same_key keys [] keys
    ∙ length-map (lent kept) (λ (e : Exchange). key_of e.request captured)
    ∙ length-map kept (λ (e : Bor Exchange). e.now)

-- the same, of the lists that the code lends
pub length-placed
    : (captured : List (List ℕ)) (kept lent_kept : List (Bor Exchange)) (keys lent_keys : List KeyParts)
    (places : List Place) → lent_kept ≡ kept → keys ≡ keys_of captured (lent lent_kept) → lent_keys ≡ keys
    → places ≡ places_of same_key lent_keys → length places ≡ length kept
length-placed captured kept lent_kept keys lent_keys places a b c d =
    ap length
    (d ∙ ap (places_of same_key) (c ∙ b ∙ ap (λ es. keys_of captured (lent es)) a))
    ∙ length-places captured kept

-- ---- numbered mappings

abbrev Parts : Type 0
Parts = List (Exchange × Option ScenarioSpec)

module _ (captured : List (List ℕ)) (number : ℕ) where
  length-numbered : (index : ℕ) (parts : Parts) → length (numbered captured number index parts) ≡ length parts
  length-numbered index [] = refl
  length-numbered index (part ∷ parts) = ap suc (length-numbered (suc index) parts)

  numbered-append
      : (index : ℕ) (parts more : Parts)
      → numbered captured number index (parts ++ more)
      ≡ numbered captured number index parts ++ numbered captured number (index + length parts) more
  numbered-append index [] more =
      let same : index ≡ index + 0 = omega arith in
      ap (λ n. numbered captured number n more) same
  numbered-append index (part ∷ parts) more =
      let same : suc index + length parts ≡ index + suc (length parts) = omega arith in
      ap (λ ms. mapping_of captured number index part.0 part.1 ∷ ms)
      (numbered-append (suc index) parts more
      ∙ ap (λ n. numbered captured number (suc index) parts ++ numbered captured number n more) same)

  -- the mappings so far and those of the parts that are left, before and after a part gives its mappings
  pub one_further
      : (old new : List MappingSpec) (part rest : Parts)
      → new ≡ old ++ numbered captured number (length old) part
      → new ++ numbered captured number (length new) rest
      ≡ old ++ numbered captured number (length old) (part ++ rest)
  one_further old new part rest pushed =
      let own : List MappingSpec = numbered captured number (length old) part in
      let long : length new ≡ length old + length part =
      ap length pushed ∙ length-append old own ∙ ap (λ n. length old + n) (length-numbered (length old) part) in
      let later : List MappingSpec = numbered captured number (length old + length part) rest in
      ap (λ n. new ++ numbered captured number n rest) long
      ∙ ap (λ ms. ms ++ later) pushed
      ∙ append_assoc old own later
      ∙ ap (λ ms. old ++ ms) (sym (numbered-append (length old) part rest))

-- ---- the parts of what is left

module _ (repeats : Bool) (number : ℕ) (exchanges : List Exchange) (places : List Place) (i : ℕ) where
  pub parts_more
      : (exchange : Exchange) (place : Place) → i < length exchanges → i < length places
      → exchange ≡ get_or exchanges i exchange → place ≡ get_or places i place
      → parts_of repeats number (drop i exchanges) (drop i places)
      ≡ part_of repeats number exchange place
      ++ parts_of repeats number (drop (i + 1) exchanges) (drop (i + 1) places)
  parts_more exchange place within inside here there =
      let rest : Parts = parts_of repeats number (drop (i + 1) exchanges) (drop (i + 1) places) in
      (λ j. parts_of repeats number (drop_more exchanges i exchange within j) (drop_more places i place inside j))
      ∙ (λ j. part_of repeats number (sym here j) (sym there j) ++ rest)

  pub no_parts : length exchanges ≤ i → parts_of repeats number (drop i exchanges) (drop i places) ≡ []
  no_parts all = ap (λ es. parts_of repeats number es (drop i places)) (drop_all i exchanges all)
