-- The reply to an admin call that is refused: its client is told why.
use Rattle.std.specs.Prelude.{◌≡◌, ◌⊎◌, ℕ, List, [], ◌∷◌, ◌++◌, codes}
use Rattle.call_refusal.specs.Reason.{IsReason}
use Rattle.mapping_model.specs.declared.reply.Reply.{Reply}

-- with one header line more
abbrev pub with_reason : Reply → List ℕ → Reply
with_reason reply reason =
    record {
      status = reply.status;
      headers = reply.headers ++ (record { name = codes "x-mock-reason"; value = reason } ∷ []);
      body = reply.body;
    }

-- This one; or with a header that says why. There may be no memory for that, so it may always be left out.
abbrev pub IsRefusalReply : Reply → Reply → Type 0
IsRefusalReply plain reply =
    (reply ≡ plain) ⊎ ((reason : List ℕ) × IsReason reason × (reply ≡ with_reason plain reason))
