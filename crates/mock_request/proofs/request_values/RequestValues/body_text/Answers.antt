use Rattle.std.proofs.Common.{sym, ◌∙◌, ap}
use Rattle.std.specs.Str.Lossy.{utf8_lossy}
use Rattle.std.proofs.lemmas.Str.{utf8_lossy-IsUtf8}
use Rattle.mock_request.proofs.request_values.RequestValues.body_text.Goals as goal

pub returns-in-None : goal.returns-in-None
returns-in-None c =
    sym (utf8_lossy-IsUtf8 c.from_utf8_unchecked.result.now c.from_utf8_unchecked.utf8)
    ∙ ap utf8_lossy (c.from_utf8_unchecked.ensures ∙ c.body.ensures.value
    ∙ ap (λ request. request.body) c.self.view_is)
