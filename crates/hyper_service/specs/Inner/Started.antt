-- What becomes of a response that a thread is to render.
use Rattle.std.specs.Prelude.{◌≡◌, IfOk, IfSome, IsSome}
use Rattle.answering.specs.Rendering.{IsRenderedReply}
use Rattle.answering.specs.declared.rendering.Rendering.{Rendering}
use Rattle.hyper_service.specs.declared.renderer.Started.{Started}
use Rattle.hyper_service.specs.declared.renderer.Started.TheVariants.{Done, Running}

-- it was rendered, or a thread has promised to give its reply
abbrev pub IsStarted : Rendering → Started → Type 0
IsStarted rendering (Done reply) = IfOk reply (IsRenderedReply rendering)
IsStarted rendering (Running running) =
    IsSome running.thread × IfSome running.thread (λ thread. thread.promise.0.value ≡ rendering)
