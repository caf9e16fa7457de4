-- What the definitions of marks and closes mean, by splits of the text.
use Rattle.std.specs.Prelude.{◌≡◌, ℕ, ◌<◌, ◌≤◌, true, false, List, ◌++◌, length}
use Rattle.template_words.specs.declared.mode.Mode.TheVariants.{Start}
use Rattle.template_words.specs.Modes.{mode_after_bytes, is_literal}

-- the mark is between before and after, and nowhere earlier
pub record IsFirstMark (mark text before after : List ℕ) : Type 0 where
  pub split : text ≡ before ++ (mark ++ after)
  pub first : (a b : List ℕ) → text ≡ a ++ (mark ++ b) → length before ≤ length a

-- the close is between content and rest, outside of literals; an earlier one is inside of a literal
pub record IsFirstClose (close text content rest : List ℕ) : Type 0 where
  pub split : text ≡ content ++ (close ++ rest)
  pub outside : is_literal (mode_after_bytes Start content) ≡ false
  pub first : (a b : List ℕ) → text ≡ a ++ (close ++ b) → length a < length content
      → is_literal (mode_after_bytes Start a) ≡ true
