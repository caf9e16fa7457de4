-- Header lines with one more, if there was memory for it.
use Rattle.std.proofs.Common.{◌≡◌, ◌⊎◌, ℕ, Bool, true, false, List, [], ◌∷◌, ◌++◌, codes, inl, inr, refl}
use Rattle.std.specs.Prelude.{if◌then◌else◌}
use Rattle.call_refusal.specs.Reason.{IsReason}
use Rattle.answering.specs.Reason.{IsRefusalReply}
use Rattle.mapping_model.specs.declared.reply.Reply.{Reply}
use Rattle.mapping_model.specs.declared.reply.ReplyHeader.{ReplyHeader}

pub either : {A : Type 0} (was_pushed : Bool) (lines more made : List A)
    → made ≡ (if was_pushed then more else lines) → (made ≡ lines) ⊎ (made ≡ more)
either true lines more made is = inr is
either false lines more made is = inl is

pub told : (plain : Reply) (headers : List ReplyHeader) (line : ReplyHeader) (reason : List ℕ) → IsReason reason
    → line ≡ record { name = codes "x-mock-reason"; value = reason }
    → (headers ≡ plain.headers) ⊎ (headers ≡ plain.headers ++ line ∷ [])
    → IsRefusalReply plain (record { status = plain.status; headers = headers; body = plain.body })
told plain headers line reason is_reason is (inl same) = inl (rw same refl)
told plain headers line reason is_reason is (inr more) = inr (reason, is_reason, rw (more, is) refl)
