-- Replies that a call gives, or would give if it had the memory.
use Rattle.std.proofs.Common.{◌≡◌, Ok, Err, inl, refl, sym, subst}
use Rattle.std.specs.Prelude.{Result, IfOk, MatchResult}
use Rattle.answering.specs.Inner.Outcome.{reply_in}
use Rattle.answering.specs.Inner.Sent.{HasBegun, IsBegunOf}
use Rattle.answering.specs.Reason.{IsRefusalReply}
use Rattle.answering.specs.declared.admin_answer.AdminOutcome.{AdminOutcome}
use Rattle.answering.specs.declared.begun.Begun.{Begun}
use Rattle.answering.specs.declared.begun.Begun.TheVariants.{Answered, Refused, ToForward, ToRender}
use Rattle.answering.specs.declared.forward.Forward.{Forward}
use Rattle.answering.specs.declared.rendering.Rendering.{Rendering}
use Rattle.mapping_model.specs.declared.reply.Reply.{Reply}

-- the reply that an outcome is, is right
pub given : {E : Type 0} (P : Reply → Type 0) (right : Reply) (result : Result AdminOutcome E) → P right
    → IfOk result (λ outcome. reply_in outcome ≡ right)
    → MatchResult result (λ outcome. P (reply_in outcome)) (λ _. (r : Reply) × P r)
given P right (Ok outcome) is e = subst P (sym e) is
given P right (Err error) is e = (right, is)

-- the same of a call that is refused with this reply
pub refused_with : {E : Type 0} (P : Reply → Type 0) (plain : Reply) (result : Result AdminOutcome E)
    → ((r : Reply) → IsRefusalReply plain r → P r)
    → IfOk result (λ outcome. IsRefusalReply plain (reply_in outcome))
    → MatchResult result (λ outcome. P (reply_in outcome)) (λ _. (r : Reply) × P r)
refused_with P plain (Ok outcome) right is = right (reply_in outcome) is
refused_with P plain (Err error) right is = (plain, right plain (inl refl))

-- what is right in one sense is right in another
pub weaker : {E : Type 0} (P Q : Reply → Type 0) → ((r : Reply) → P r → Q r) → (result : Result AdminOutcome E)
    → MatchResult result (λ outcome. P (reply_in outcome)) (λ _. (r : Reply) × P r)
    → MatchResult result (λ outcome. Q (reply_in outcome)) (λ _. (r : Reply) × Q r)
weaker P Q f (Ok outcome) h = f (reply_in outcome) h
weaker P Q f (Err error) h = (h.0, f h.0 h.1)

-- what is begun is the response of a reply which is right
pub begun_of : {E : Type 0} (P : Reply → Type 0) (F : Forward → Type 0) (R : Rendering → Type 0) (reply : Reply)
    → P reply → (result : Result Begun E) → IfOk result (IsBegunOf reply)
    → MatchResult result (HasBegun P F R) (λ _. (r : Reply) × P r)
begun_of P F R reply is (Ok (Answered response)) h = (reply, is, h)
begun_of P F R reply is (Ok (Refused refused)) h = (reply, is, h)
begun_of P F R reply is (Ok (ToForward forward)) h = absurd h
begun_of P F R reply is (Ok (ToRender rendering)) h = absurd h
begun_of P F R reply is (Err error) h = (reply, is)

-- what begins in one sense begins in another
pub begun_weaker : {E : Type 0} (P Q : Reply → Type 0) (F G : Forward → Type 0) (R S : Rendering → Type 0)
    → ((r : Reply) → P r → Q r) → ((f : Forward) → F f → G f) → ((r : Rendering) → R r → S r)
    → (result : Result Begun E)
    → MatchResult result (HasBegun P F R) (λ _. (r : Reply) × P r)
    → MatchResult result (HasBegun Q G S) (λ _. (r : Reply) × Q r)
begun_weaker P Q F G R S reply to_forward to_render (Ok (Answered response)) h = (h.0, reply h.0 h.1, h.2)
begun_weaker P Q F G R S reply to_forward to_render (Ok (Refused refused)) h = (h.0, reply h.0 h.1, h.2)
begun_weaker P Q F G R S reply to_forward to_render (Ok (ToForward forward)) h = to_forward forward h
begun_weaker P Q F G R S reply to_forward to_render (Ok (ToRender rendering)) h = to_render rendering h
begun_weaker P Q F G R S reply to_forward to_render (Err error) h = (h.0, reply h.0 h.1)
