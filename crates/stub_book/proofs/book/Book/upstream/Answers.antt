use Rattle.std.proofs.Common.{rules, ◌≡◌, ◌⊎◌, inl, inr, refl, ap}
use Rattle.std.proofs.lemmas.Result.{err_from_is_err_and}
use Rattle.error_code.specs.declared.error_code.ErrorCode.TheVariants as code
use Rattle.recorder.specs.Errors.{error_code_of}
use Rattle.recorder.specs.Recording.{IsOn}
use Rattle.recorder.specs.Target.{IsTarget}
use Rattle.recorder.specs.declared.error.RecordingError.TheVariants as RecordingError
use Rattle.request_journal.specs.Recording.{recording}
use Rattle.stub_book.proofs.book.Book.upstream.Goals as goal

pub returns-in_err-parse : goal.returns-in_err-parse
returns-in_err-parse c =
    let none : ¬ (IsOn (recording c.args.self.now)) = search rules in
    let p = err_from_is_err_and c.from_residual.result c.from_residual.ensures.1 in
    record {
      ok = rw p.1 tt;
      why = rw (p.1, p.2) (elim (c.in_err-parse.ensures.why refl) as (λ _.
          (error_code_of c.in_err-parse.field-0.0 ≡ code.OutOfMemory)
          ⊎ ((error_code_of c.in_err-parse.field-0.0 ≡ code.AlreadyRecording) × IsOn (recording c.args.self.now))
          ⊎ ((error_code_of c.in_err-parse.field-0.0 ≡ code.BadTarget) × ¬ (IsOn (recording c.args.self.now))
          × ¬ (IsTarget c.args.target.now))) [
            | inl bad ↦
                let is : c.in_err-parse.field-0.0 ≡ RecordingError.BadTarget = cc in
                inr (inr (ap error_code_of is, none, c.in_err-parse.ensures.bad_target.0 bad))
            | inr out ↦ let is : c.in_err-parse.field-0.0 ≡ RecordingError.OutOfMemory = cc in
                inl (ap error_code_of is)
          ]);
    }
