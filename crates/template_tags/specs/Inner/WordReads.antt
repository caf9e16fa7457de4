-- The values of words, each with the error that is reported of it.
use Rattle.std.specs.Prelude.{ℕ, List, Result, Ok, Err, if◌then◌else◌}
use Rattle.template_words.specs.Names.{is_hash_argument}
use Rattle.template_words.specs.declared.error.TagError.{TagError}
use Rattle.template_words.specs.declared.error.TagError.TheVariants.{UnknownHelper, WrongArguments, UnsupportedTag}
use Rattle.template_tags.specs.Expression.{Expression, datum, number, truth}
use Rattle.template_tags.specs.Expression as expressions
use Rattle.template_tags.specs.Levels.{loops_open}
use Rattle.template_tags.specs.Words.{Word, text_word, number_word, truth_word, loop_word, helper_word, foreign_word}
use Rattle.template_tags.specs.Words.{path_word, wrong_word, word_of, loop_value, datum_of}
use Rattle.template_tags.specs.declared.level.Level.{Level}

abbrev pub word_value : List Level → List ℕ → Word → Result Expression TagError
word_value levels text (text_word literal) = Ok (expressions.text_literal literal)
word_value levels text (number_word n) = Ok (number n)
word_value levels text (truth_word b) = Ok (truth b)
word_value levels text (loop_word w) = Ok (loop_value (loops_open levels) w)
word_value levels text (helper_word h) = Err WrongArguments
word_value levels text foreign_word = Err UnknownHelper
word_value levels text (path_word reference) = Ok (datum (datum_of levels text reference))
word_value levels text (wrong_word e) = Err e

abbrev pub argument_word : List Level → List ℕ → Result Expression TagError
argument_word levels text =
    if is_hash_argument text then Err UnsupportedTag else word_value levels text (word_of text)

-- a word alone in a tag; a literal is none
abbrev pub lone_value : List Level → List ℕ → Word → Result Expression TagError
lone_value levels text (text_word literal) = Err UnsupportedTag
lone_value levels text (number_word n) = Err UnsupportedTag
lone_value levels text (truth_word b) = Err UnsupportedTag
lone_value levels text w = word_value levels text w
