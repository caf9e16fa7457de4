use Rattle.std.proofs.Common.{◌≡◌, ◌+◌, ◌∷◌, ◌++◌, ◌∙◌, [], ℕ, Vec, ap, arith, map, subst, sym, take}
use Rattle.std.proofs.lemmas.List.{map-append, take_more}
use Rattle.mapping_files.proofs.AcceptedLemmas.{accepted_push}
use Rattle.mapping_files.specs.Served.{AreAccepted, SpellAccepted}
use Rattle.mapping_files.proofs.accepted.accepted_of.Goals as goal

pub loop-text-preserved : goal.loop-text-preserved
loop-text-preserved c =
    let texts = c.args.texts.now in
    let i = c.loop-text.text-index in
    let text = c.text-item.result in
    let bytes = λ (document : Vec ℕ _). document.items in
    let more : map bytes (take (i + 1) texts) ≡ map bytes (take i texts) ++ text.items ∷ [] =
    ap (map bytes) (take_more texts i text (omega arith) ∙ ap (λ t. take i texts ++ t ∷ []) (sym c.text-item.is))
    ∙ map-append bytes (take i texts) (text ∷ []) in
    let (own, read, grown) = c.in_ok-add_document.ensures in
    subst (λ ds. SpellAccepted c.args.escape ds c.add_document.new.accepted.mappings.items) (sym more)
    (subst (SpellAccepted c.args.escape (map bytes (take i texts) ++ text.items ∷ [])) (sym grown)
    (accepted_push c.args.escape (map bytes (take i texts)) c.loop-text.accepted.mappings.items text.items own
    c.loop-text.invariant (subst (λ b. AreAccepted c.args.escape b own) c.as_slice.ensures.value read)))
