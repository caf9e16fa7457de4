-- Reading that may find an error, and what a function that reads answers where memory may run out.
use Rattle.std.specs.Prelude.{◌≡◌, Result, Ok, Err}
use Rattle.template_words.specs.declared.error.TagError.{TagError}
use Rattle.template_words.specs.declared.error.ReadError.{ReadError}
use Rattle.template_words.specs.declared.error.ReadError.TheVariants.{OutOfMemory, Tag}

infixl 10 ◌>>=◌
abbrev pub ◌>>=◌ : {A B : Type 0} → Result A TagError → (A → Result B TagError) → Result B TagError
(Ok x) >>= f = f x
(Err e) >>= f = Err e

-- where the answer is an error, it is the one that reading finds, or memory ran out
abbrev pub Fails : {B : Type 0} → ReadError → Result B TagError → Type 0
Fails OutOfMemory read = Unit {0}
Fails (Tag e) read = read ≡ Err e

-- the answer, seen by the view, is what reading gives, unless memory ran out
abbrev pub Gives : {A B : Type 0} → (A → B) → Result A ReadError → Result B TagError → Type 0
Gives view (Ok x) read = read ≡ Ok (view x)
Gives view (Err e) read = Fails e read
