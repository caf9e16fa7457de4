-- Where the marks and the closes of tags are in a text.
use Rattle.std.specs.Prelude.{ℕ, suc, ◌+◌, ◌==◌, Bool, ◌&&◌, not, List, [], ◌∷◌, length, take, drop}
use Rattle.std.specs.Prelude.{Option, Some, None, option_map, if◌then◌else◌}
use Rattle.std.specs.List.{starts_with}
use Rattle.template_words.specs.declared.mode.Mode.{Mode}
use Rattle.template_words.specs.Modes.{mode_after, is_literal}

-- the text begins with the mark
abbrev pub begins : List ℕ → List ℕ → Bool
begins mark text = starts_with ◌==◌ text mark

-- the byte offset of the first such mark in the text
abbrev pub offset_of : List ℕ → List ℕ → Option ℕ
offset_of mark [] = None
offset_of mark (b ∷ bs) = if begins mark (b ∷ bs) then Some 0 else option_map suc (offset_of mark bs)

-- the byte offset of the first close outside of literals, in what is left of a tag's text
abbrev pub close_from : List ℕ → Mode → List ℕ → Option ℕ
close_from close mode [] = None
close_from close mode (b ∷ bs) =
    if not (is_literal mode) && begins close (b ∷ bs) then Some 0
    else option_map suc (close_from close (mode_after mode b) bs)

-- the text before a mark at that offset, and after it
abbrev pub around : List ℕ → List ℕ → Option ℕ → Option (List ℕ × List ℕ)
around mark text None = None
around mark text (Some n) = Some (take n text, drop (n + length mark) text)
