-- The lines of results, one more at their end.
use Rattle.std.proofs.Common.{◌≡◌, ◌≢◌, ℕ, suc, ◌+◌, List, [], ◌∷◌, ◌++◌, Bool, true, false}
use Rattle.std.proofs.Common.{◌||◌, length, Some, Result, Ok, Err, refl, sym, ap, ap₂, subst, ◌∙◌}
use Rattle.std.proofs.Common.{append_assoc, arith, take, drop, take-append-drop, map, string_bytes}
use Rattle.std.proofs.lemmas.List.{append-nil, length_push, map-append}
use Rattle.std.proofs.lemmas.List.Folds.{list_any-append}
use Rattle.std.proofs.lemmas.Slice.Zip.{AllZip-long}
use Rattle.std.specs.Prelude.{is_err}
use Rattle.json_reading.specs.Document.{IsDocument}
use Rattle.mapping_json.specs.Documents.{IsResultOf, mappings_in}
use Rattle.mapping_json.specs.Errors.{error_code_of}
use Rattle.mapping_json.specs.Spelling.{IsValueError, SpellsResponse}
use Rattle.mapping_json.specs.declared.error.MappingError.{MappingError}
use Rattle.mapping_json.specs.declared.error.MappingError.TheVariants.{OutOfMemory}
use Rattle.mapping_json.proofs.Zips.{zip_push}
use Rattle.mapping_model.specs.declared.mapping_spec.MappingSpec.{MappingSpec}
use Rattle.mapping_model.specs.declared.response_spec.ResponseSpec.{ResponseSpec}
use Rattle.mapping_commands.specs.Checking.{AreLines, HasValues, IsContentLine, IsMappingLine, IsReportOf, refused_line}
use Rattle.mapping_commands.specs.Inner.Reports.{Adds, AddsDocument, AreReported, IsChecked, Reports}
use Rattle.mapping_commands.specs.declared.check.Checked.{Checked}
use Rattle.serde_json.specs.Data.{Data}
use Rattle.template_tree.specs.declared.escape.Escape.{Escape}

lines_push : (n : ℕ) (rs : List (Result MappingSpec MappingError)) (text : List ℕ)
    (r : Result MappingSpec MappingError) (line : List ℕ) → AreLines n rs text → IsMappingLine (n + length rs) r line
    → AreLines n (rs ++ r ∷ []) (text ++ line)
lines_push n [] text r line lines is =
    let here : n + 0 ≡ n = omega arith in
    (line, [], subst (λ k. IsMappingLine k r line) here is, refl, ap (λ t. t ++ line) lines ∙ sym (append-nil line))
lines_push n (x ∷ xs) text r line lines is =
    let here : n + suc (length xs) ≡ suc n + length xs = omega arith in (
      lines.0,
      lines.1 ++ line,
      lines.2,
      lines_push (suc n) xs lines.1 r line lines.3 (subst (λ k. IsMappingLine k r line) here is),
      ap (λ t. t ++ line) lines.4 ∙ append_assoc lines.0 lines.1 line,
    )

or_false : (b : Bool) → (b || false) ≡ b
or_false true = refl
or_false false = refl

-- the first values, and the one after them
pub one_more : (escape : Escape) (ds : List Data) (text : List ℕ) (refused : Bool) (d : Data)
    (new : List ℕ) (more : Bool)
    → AreReported escape ds text refused → Reports escape (length ds + 1) d text new more
    → AreReported escape (ds ++ d ∷ []) new (refused || more)
one_more escape ds text refused d new more so_far next =
    let long = AllZip-long (IsResultOf escape) ds so_far.results so_far.read in
    let number : length ds + 1 ≡ 1 + length so_far.results = omega (arith, long) in
    let line = subst (λ n. IsMappingLine n next.result next.line) number next.is_line in
    record {
      results = so_far.results ++ next.result ∷ [];
      read = zip_push (IsResultOf escape) ds so_far.results d next.result so_far.read next.read;
      lines = subst (AreLines 1 (so_far.results ++ next.result ∷ [])) (sym next.text)
          (lines_push 1 so_far.results text next.result next.line so_far.lines line);
      is_refused = ap₂ (λ a b. a || b) so_far.is_refused (next.is_refused ∙ sym (or_false (is_err next.result)))
          ∙ sym (list_any-append is_err so_far.results (next.result ∷ []));
    }

-- a value that is a mapping, and one that is refused
pub taken : (escape : Escape) (number : ℕ) (d : Data) (old new : List ℕ) (response : ResponseSpec)
    → SpellsResponse escape d response
    → ((line : List ℕ) × IsContentLine number response.content line × (new ≡ old ++ line))
    → Reports escape number d old new false
taken escape number d old new response (mapping, spells, same) (line, is, text) = record {
  result = Ok mapping;
  line = line;
  read = spells;
  is_line = subst (λ r. IsContentLine number r.content line) (sym same) is;
  text = text;
  is_refused = refl;
}

pub refused : (escape : Escape) (number : ℕ) (d : Data) (old new : List ℕ) (error : MappingError)
    → IsValueError escape d error → error ≢ OutOfMemory
    → new ≡ old ++ refused_line number (error_code_of error) → Reports escape number d old new true
refused escape number d old new error is other text = record {
  result = Err error;
  line = refused_line number (error_code_of error);
  read = (is, other);
  is_line = refl;
  text = text;
  is_refused = refl;
}

-- ---- several documents

pub nothing : (escape : Escape) (c : Checked)
    → string_bytes c.text ≡ [] → c.is_refused ≡ false → c.count ≡ 0
    → IsChecked escape [] c
nothing escape c text refused count = record {
  lines = record {
    results = [];
    read = tt;
    lines = text;
    is_refused = refused;
  };
  counted = count;
}

-- the values so far, and one more
pub value_more : (escape : Escape) (values : List Data) (old new : Checked) (d : Data) (more : Bool)
    → IsChecked escape values old
    → Reports escape (old.count + 1) d (string_bytes old.text) (string_bytes new.text) more
    → new.count ≡ old.count + 1 → new.is_refused ≡ (old.is_refused || more)
    → IsChecked escape (values ++ d ∷ []) new
value_more escape values old new d more so_far next count refused = record {
  lines = subst (AreReported escape (values ++ d ∷ []) (string_bytes new.text)) (sym refused)
      (one_more escape values (string_bytes old.text) old.is_refused d (string_bytes new.text) more so_far.lines
      (subst (λ n. Reports escape (n + 1) d (string_bytes old.text) (string_bytes new.text) more)
      so_far.counted next));
  counted = count ∙ ap (λ n. n + 1) so_far.counted ∙ sym (length_push values d);
}

-- the values of the documents so far, and those of one more
pub values_push : (documents : List (List ℕ)) (values : List Data) (bytes : List ℕ) (d : Data) (own : List Data)
    → HasValues documents values → IsDocument bytes d → mappings_in d ≡ Some own
    → HasValues (documents ++ bytes ∷ []) (values ++ own)
values_push [] values bytes d own none document listed =
    (d, own, [], document, listed, refl, ap (λ vs. vs ++ own) none ∙ sym (append-nil own))
values_push (x ∷ xs) values bytes d own (d', own', rest, document', listed', more, whole) document listed = (
  d',
  own',
  rest ++ own,
  document',
  listed',
  values_push xs rest bytes d own more document listed,
  ap (λ vs. vs ++ own) whole ∙ append_assoc own' rest own,
)

-- the list up to an element, that element, and the rest
pub split_mapped : {A B : Type 0} (f : A → B) (xs : List A) (i : ℕ) (x : A)
    → take (i + 1) xs ≡ take i xs ++ x ∷ []
    → map f xs ≡ map f (take i xs) ++ f x ∷ map f (drop (i + 1) xs)
split_mapped f xs i x more =
    ap (map f) (sym (take-append-drop (i + 1) xs) ∙ ap (λ l. l ++ drop (i + 1) xs) more
    ∙ append_assoc (take i xs) (x ∷ []) (drop (i + 1) xs))
    ∙ map-append f (take i xs) (x ∷ drop (i + 1) xs)

-- the report of documents is that of their values
pub whole : (escape : Escape) (documents : List (List ℕ)) (values : List Data) (c : Checked)
    → HasValues documents values → IsChecked escape values c
    → IsReportOf escape documents (string_bytes c.text) c.is_refused
whole escape documents values c has is =
    (values, is.lines.results, has, is.lines.read, is.lines.lines, is.lines.is_refused)

-- the values of a document are added
pub added : (escape : Escape) (bytes : List ℕ) (d : Data) (own : List Data) (old new : Checked) → IsDocument bytes d
    → mappings_in d ≡ Some own → Adds escape own old new → AddsDocument escape bytes old new
added escape bytes d own old new document listed adds = record {
  d = d;
  own = own;
  document = document;
  listed = listed;
  adds = adds;
}
