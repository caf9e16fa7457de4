use Rattle.std.proofs.Common.{◌≡◌, ◌+◌, ◌∷◌, ◌++◌, [], inr, take, sym, ap, subst, arith, ◌∙◌, string_bytes, Vec, ℕ}
use Rattle.std.proofs.lemmas.List.{take_all, take_more}
use Rattle.std.specs.List.{AllZip}
use Rattle.command_output.specs.Files.{IsFile, IsFileError}
use Rattle.command_output.proofs.Documents.{contains_mapped, zip_maps, zip_push}
use Rattle.command_output.proofs.files.read_each.Goals as goal

pub returns-in-Err-clause-err : goal.returns-in-Err-clause-err
returns-in-Err-clause-err g c =
    inr (
      string_bytes c.path-item.result,
      contains_mapped string_bytes c.args.paths.now c.loop-path.path-index c.path-item.result (omega arith)
          c.path-item.is,
      subst (λ path. IsFileError (g.F.FileReader.content c.args.files.now path) c.in-Err.error) c.as_str.ensures.value
          c.in-Err.ensures.err,
    )

pub loop-path-preserved : goal.loop-path-preserved
loop-path-preserved g c =
    let items = c.args.paths.now in
    let i = c.loop-path.path-index in
    let path = c.path-item.result in
    let known = g.F.FileReader.content c.args.files.now in
    let more : take (i + 1) items ≡ take i items ++ path ∷ [] =
    take_more items i path (omega arith) ∙ ap (λ p. take i items ++ p ∷ []) (sym c.path-item.is) in
    let is = subst (λ bytes. IsFile (known bytes) c.in-Ok.text.items) c.as_str.ensures.value c.in-Ok.ensures.ok in
    subst (λ ps. AllZip (λ path text. IsFile (known (string_bytes path)) text.items) ps c.push.new.texts.items)
    (sym more)
    (subst (AllZip (λ path text. IsFile (known (string_bytes path)) text.items) (take i items ++ path ∷ []))
    (sym c.in_ok-push-in-Ok.ensures.ok)
    (zip_push (λ path text. IsFile (known (string_bytes path)) text.items) (take i items) c.loop-path.texts.items path
    c.in-Ok.text c.loop-path.invariant is))

pub returns-clause-ok : goal.returns-clause-ok
returns-clause-ok g c =
    let all : take c.loop-path.path-index c.args.paths.now ≡ c.args.paths.now =
    take_all c.loop-path.path-index c.args.paths.now (omega arith) in
    zip_maps (λ path bytes. IsFile (g.F.FileReader.content c.args.files.now path) bytes) string_bytes
    (λ (text : Vec ℕ _). text.items) c.args.paths.now c.loop-path.texts.items
    (subst (λ ps. AllZip (λ path text.
    IsFile (g.F.FileReader.content c.args.files.now (string_bytes path)) text.items)
    ps c.loop-path.texts.items) all c.loop-path.invariant)
