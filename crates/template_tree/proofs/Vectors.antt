-- The examples, computed.
use Rattle.std.proofs.Common.{◌≡◌, ℕ, zero, suc, ◌+◌, ◌≤◌, List, [], ◌∷◌, length, drop, None}
use Rattle.std.proofs.Common.{inl, inr, codes, refl, ap, subst, arith}
use Rattle.template_words.specs.declared.error.TagError.{TagError}
use Rattle.template_words.specs.declared.error.TagError.TheVariants as errors
use Rattle.template_words.specs.Marks.{offset_of}
use Rattle.template_words.specs.PathReads.{reference_from, step_of}
use Rattle.template_tags.specs.declared.level.Block.TheVariants.{If}
use Rattle.template_tags.specs.declared.level.Level.{Level}
use Rattle.template_tags.specs.Said.{tag_said}
use Rattle.template_tags.specs.Words.{word_of}
use Rattle.template_tree.specs.declared.escape.Escape.{Escape}
use Rattle.template_tree.specs.declared.escape.Escape.TheVariants.{Off, Html}
use Rattle.template_tree.specs.declared.parser.TheConstants.{TEXT_LIMIT}
use Rattle.template_tree.specs.Shown.Examples.{AreExamples, AreBlocks, Gives, text_before}
use Rattle.template_tree.specs.Grammar.{opened, token_levels, Leads, Spells, IsTagErrorAt}
use Rattle.template_tree.specs.Parts.{parts_of, spell}
use Rattle.template_tree.specs.Source.{with_escape}
use Rattle.template_tree.specs.Tags.{tag_of}
use Rattle.template_tree.specs.Tokens.{Token, text_token, Next, token, tag_error, ended, next_at, next_of}
use Rattle.template_tree.specs.Tree.{Nodes, no_nodes}

-- a row of tokens, with the blocks that are open after it and what is left of the text
record Row : Type 0 where
  tokens : List Token
  levels : List Level
  rest : List ℕ

abbrev no_token : List Level → List ℕ → Row
no_token levels text = record { tokens = []; levels = levels; rest = text }

abbrev with_first : Token → Row → Row
with_first t row = record { tokens = t ∷ row.tokens; levels = row.levels; rest = row.rest }

abbrev row_at : (List Level → List ℕ → Row) → List Level → List ℕ → Next → Row
row_at later levels text (token t more) = with_first t (later (token_levels (length text) t levels) more)
row_at later levels text (tag_error f mark) = no_token levels text
row_at later levels text ended = no_token levels text

-- the row that the text begins with, of that many tokens at most
abbrev row : ℕ → List Level → List ℕ → Row
row zero levels text = no_token levels text
row (suc n) levels text = row_at (row n) levels text (next_of levels text)

abbrev IsRow : List Level → List ℕ → Row → Type 0
IsRow levels text r = Leads r.tokens levels text r.levels r.rest

row_leads : (n : ℕ) (levels : List Level) (text : List ℕ) → IsRow levels text (row n levels text)
row_leads zero levels text = (refl, refl)
row_leads (suc n) levels text = by (row n) (row_leads n) (next_of levels text) refl
  where
    by : (later : List Level → List ℕ → Row)
        → ((ls : List Level) (more : List ℕ) → IsRow ls more (later ls more))
        → (next : Next) → next_of levels text ≡ next → IsRow levels text (row_at later levels text next)
    by later h (token t more) e = (more, e, h (token_levels (length text) t levels) more)
    by later h (tag_error f mark) e = (refl, refl)
    by later h ended e = (refl, refl)

spells : (n : ℕ) (escape : Escape) (text : List ℕ) (tree : Nodes) → length text ≤ TEXT_LIMIT
    → (row n [] text).levels ≡ [] → (row n [] text).rest ≡ []
    → parts_of escape (row n [] text).tokens [] ≡ spell tree []
    → Spells (with_escape escape text) tree
spells n escape text tree short e f same = record {
  short = short;
  tokens = (row n [] text).tokens;
  leads =
      subst (λ rest. Leads (row n [] text).tokens [] text [] rest) f
      (subst (λ levels. Leads (row n [] text).tokens [] text levels (row n [] text).rest) e (row_leads n [] text));
  same = same;
}

fails : (n : ℕ) (text : List ℕ) (f : TagError) (at : ℕ) → length text ≤ TEXT_LIMIT
    → next_of (row n [] text).levels (row n [] text).rest ≡ tag_error f (drop at text)
    → at + length (drop at text) ≡ length text → IsTagErrorAt text f at
fails n text f at short wrong offset =
    inl (record {
      short = short;
      tokens = (row n [] text).tokens;
      levels = (row n [] text).levels;
      rest = (row n [] text).rest;
      mark = drop at text;
      leads = row_leads n [] text;
      wrong = wrong;
      offset = offset;
    })

is_open : (n : ℕ) (text : List ℕ) (at : ℕ) (level : Level) (levels : List Level) → length text ≤ TEXT_LIMIT
    → (row n [] text).levels ≡ level ∷ levels → (row n [] text).rest ≡ [] → at + level.left ≡ length text
    → IsTagErrorAt text errors.UnclosedTag at
is_open n text at level levels short e f offset =
    inr (
      refl,
      record {
        short = short;
        tokens = (row n [] text).tokens;
        level = level;
        levels = levels;
        leads =
            subst (λ rest. Leads (row n [] text).tokens [] text (level ∷ levels) rest) f
            (subst (λ ls. Leads (row n [] text).tokens [] text ls (row n [] text).rest) e (row_leads n [] text));
        offset = offset;
      },
    )

longest : (b : ℕ) (bs : List ℕ) → length (b ∷ bs) ≡ TEXT_LIMIT → offset_of (codes "{{") (b ∷ bs) ≡ None
    → Gives (b ∷ bs) (text_before (b ∷ bs) no_nodes)
unfolding next_of
longest b bs long none = record {
  short = omega (arith, long);
  tokens = text_token (b ∷ bs) ∷ [];
  leads = ([], ap (next_at [] (b ∷ bs)) none, (refl, refl));
  same = refl;
}

pub are_examples : AreExamples
unfolding next_of tag_of tag_said word_of reference_from step_of
are_examples = record {
  empty = spells 1 Off _ _ (omega arith) refl refl refl;
  text_alone = spells 9 Off (codes "a } {b") _ (omega arith) refl refl refl;
  path = spells 9 Off (codes "Hello {{request.path.[1]}}!") _ (omega arith) refl refl refl;
  three_braces = spells 9 Off (codes "{{{ request.[a b] }}}") _ (omega arith) refl refl refl;
  out_of_loops = spells 9 Off (codes "{{../this.x}}{{..}}{{x}}") _ (omega arith) refl refl refl;
  escaped = spells 9 Html (codes "{{request.url}}<{{{request.url}}}") _ (omega arith) refl refl refl;
  not_escaped = spells 9 Off (codes "{{request.url}}<{{{request.url}}}") _ (omega arith) refl refl refl;
  header = spells 9 Off (codes "{{request.headers.X-Id}}") _ (omega arith) refl refl refl;
  comment = spells 9 Off (codes "a{{!-- }} --}}b{{!}}") _ (omega arith) refl refl refl;
  no_close = fails 9 (codes "{{x") errors.UnclosedTag 0 (omega arith) refl refl;
  no_close_of_three = fails 9 (codes "{{{x}}") errors.UnclosedTag 0 (omega arith) refl refl;
  no_close_of_comment = fails 9 (codes "a{{!-- x }}") errors.UnclosedTag 1 (omega arith) refl refl;
  hidden_close = fails 9 (codes "{{\"}}") errors.UnclosedTag 0 (omega arith) refl refl;
  literal_alone = fails 9 (codes "{{\"}}\"}}") errors.UnsupportedTag 0 (omega arith) refl refl;
  open_bracket = fails 9 (codes "{{request.path.[}}") errors.BadPath 0 (omega arith) refl refl;
  leading_zero = spells 9 Off (codes "{{request.01}}") _ (omega arith) refl refl refl;
  slash_in_name = fails 9 (195 ∷ 169 ∷ codes "{{a/b}}") errors.BadPath 2 (omega arith) refl refl;
  partial = fails 9 (codes "{{> p}}") errors.UnsupportedTag 0 (omega arith) refl refl;
  escape = fails 9 (codes "\\{{x}}") errors.UnsupportedTag 1 (omega arith) refl refl;
  empty_tag = fails 9 (codes "{{}}") errors.UnsupportedTag 0 (omega arith) refl refl;
  first_error = fails 9 (codes "{{a!}}{{x") errors.BadPath 0 (omega arith) refl refl;
  order_in_a_tag = fails 9 (codes "{{a! 1}}") errors.UnknownHelper 0 (omega arith) refl refl;
  helper_alone = fails 9 (codes "{{upper}}") errors.WrongArguments 0 (omega arith) refl refl;
  json_path = fails 9 (codes "{{jsonPath request.body '$.a['}}") errors.BadPath 0 (omega arith) refl refl;
  longest = longest;
  longer = λ text long. (omega (arith, long), refl);
}

pub are_blocks : AreBlocks
unfolding next_of tag_of tag_said word_of reference_from step_of
are_blocks = record {
  calls = spells 9 Off (codes "{{base64 (upper request)}}") _ (omega arith) refl refl refl;
  with_else = spells 9 Off (codes "{{#if request.query.q}}Q{{else}}none{{/if}}!") _ (omega arith) refl refl refl;
  without_else = spells 9 Off (codes "{{#unless request}}a{{/unless}}") _ (omega arith) refl refl refl;
  empty_else = spells 9 Off (codes "{{#if request}}{{else}}{{/if}}") _ (omega arith) refl refl refl;
  loop =
      spells 9 Off (codes "{{#each request.query.q as |v|}}{{@index}}{{v}}{{else}}{{v}}{{/each}}") _ (omega arith)
      refl refl refl;
  inner_loop =
      spells 9 Off
      (codes "{{#each request.query.a}}{{#each request.query.b}}{{..}}{{this}} {{/each}}{{/each}}") _ (omega arith)
      refl refl refl;
  left_open = is_open 9 (codes "a{{#if request.path}}x") 1 (opened 21 If None) [] (omega arith) refl refl refl;
  left_open_inside =
      is_open 9 (codes "{{#if a}}{{#if b}}{{/if}}{{#if c}}") 25 (opened 9 If None) (opened 34 If None ∷ [])
      (omega arith) refl refl refl;
  close_alone = fails 9 (codes "{{/if}}") errors.UnexpectedClose 0 (omega arith) refl refl;
  other_close =
      fails 9 (codes "{{#if request.path}}{{/unless}}") errors.UnexpectedClose 20 (omega arith) refl refl;
  second_else = fails 9 (codes "{{#if a}}{{else}}{{else}}") errors.UnexpectedClose 17 (omega arith) refl refl;
  error_in_block = fails 9 (codes "{{#if a}}{{foo 1}}") errors.UnknownHelper 9 (omega arith) refl refl;
  fifth_loop =
      fails 9 (codes "{{#each a}}{{#each b}}{{#each c}}{{#each d}}{{#each e}}") errors.TooDeep 44 (omega arith) refl
      refl;
}
