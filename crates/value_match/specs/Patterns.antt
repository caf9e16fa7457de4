-- What a pattern means: what `regex` finds for it as a pattern of the whole value.
use Rattle.std.specs.Prelude.{ℕ, ◌≤◌, List, ◌++◌, codes, chars, is_some, IsTrue, IsSomeAnd}
use Rattle.regex.specs.Patterns.{find_str, default_config}
use Rattle.regex_syntax.specs.Grammar.{read}

-- the pattern between `\A(?:` and `)\z`: from the start of the value to its end
abbrev pub whole_of : List ℕ → List ℕ
whole_of source = codes "\\A(?:" ++ source ++ codes ")\\z"

-- the text is a pattern, nested no deeper than `regex` takes
abbrev pub IsPattern : List ℕ → Type 0
IsPattern source = IsSomeAnd (read default_config (chars source)) (λ (re, _). re.depth ≤ default_config.nest_limit)

-- what the text is read as finds a match in the value
abbrev pub FindsIn : List ℕ → List ℕ → Type 0
FindsIn source value =
    IsSomeAnd (read default_config (chars source)) (λ (re, _). IsTrue (is_some (find_str re.value value 0)))
