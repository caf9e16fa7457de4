-- What was read of a source, token by token.
use Rattle.std.proofs.Common.{◌≡◌, ℕ, ◌+◌, ◌≤◌, List, [], ◌∷◌, ◌++◌, length, inl, inr, refl, sym, ap, subst, ◌∙◌, arith}
use Rattle.template_words.specs.declared.error.TagError.TheVariants.{UnclosedTag}
use Rattle.template_tags.specs.declared.level.Level.{Level}
use Rattle.template_tree.specs.declared.error.ParseError.{ParseError}
use Rattle.template_tree.specs.declared.error.ParseError.TheVariants.{Template, OutOfMemory}
use Rattle.template_tree.specs.declared.error.TemplateErrorKind.{TemplateErrorKind}
use Rattle.template_tree.specs.declared.error.TemplateErrorKind.TheVariants as kinds
use Rattle.template_tree.specs.declared.escape.Escape.{Escape}
use Rattle.template_tree.specs.declared.parser.TheConstants.{TEXT_LIMIT}
use Rattle.template_tree.specs.Grammar.{Leads, token_levels, Spells, IsErrorAt, IsTagErrorAt, IsParseError}
use Rattle.template_tree.specs.Inner.Frames.{Nest, Frame, with_token, parts_in, Fit, BeginWithin, Read}
use Rattle.template_tree.specs.Inner.Views.{IsNextErrorAt, IsNextError}
use Rattle.template_tree.specs.Parts.{Part, token_part, parts_of}
use Rattle.template_tree.specs.Source.{Source}
use Rattle.template_tree.specs.Tokens.{Token, token, next_of}
use Rattle.template_tree.specs.Tree.{no_nodes}
use Rattle.template_tree.proofs.Nests.{levels_with, few_after, within_after, fit_after, parts_after}
use Rattle.template_tree.proofs.Rows.{token_shorter, leads_push, leads_shorter}
use Rattle.template_tree.proofs.SoundTokens.{allowed_token}

abbrev pub nothing_read : Nest
nothing_read = record { levels = []; frames = []; here = no_nodes }

pub read_none : (source : Source) → Read source nothing_read source.text
read_none source = record {
  tokens = [];
  leads = (refl, refl);
  same = λ parts. refl;
  fit = tt;
  within = tt;
  few = omega arith;
}

parts_of-push : (escape : Escape) (ts : List Token) (t : Token) (parts : List Part)
    → parts_of escape (ts ++ t ∷ []) parts ≡ parts_of escape ts (token_part escape t parts)
parts_of-push escape [] t parts = refl
parts_of-push escape (u ∷ ts) t parts = ap (token_part escape u) (parts_of-push escape ts t parts)

-- one token more
pub read_more :
    (source : Source) (nest : Nest) (rest more : List ℕ) (t : Token)
    → length source.text ≤ TEXT_LIMIT → Read source nest rest → next_of nest.levels rest ≡ token t more
    → Read source (with_token source.escape (length rest) t nest) more
read_more source nest rest more t short r e =
    let left = length rest in
    let levels = levels_with source.escape left t nest in
    let shorter = leads_shorter r.tokens [] nest.levels source.text rest r.leads in
    let allowed = allowed_token nest.levels rest more t (omega (arith, short, shorter)) e in
    let within : BeginWithin (length source.text) (token_levels left t nest.levels) =
    within_after (length source.text) left t nest.levels
    (omega (arith, shorter)) r.within in
    record {
      tokens = r.tokens ++ t ∷ [];
      leads =
          subst (λ ls. Leads (r.tokens ++ t ∷ []) [] source.text ls more) (sym levels)
          (leads_push r.tokens [] nest.levels source.text rest more t r.leads e);
      same = λ parts.
          parts_of-push source.escape r.tokens t parts
          ∙ (r.same (token_part source.escape t parts)
          ∙ sym (parts_after source.escape left t nest parts allowed r.fit));
      fit = fit_after source.escape left t nest allowed r.fit;
      within = subst (BeginWithin (length source.text)) (sym levels) within;
      few =
          omega (
            arith,
            ap length levels,
            few_after left t nest.levels,
            r.few,
            token_shorter nest.levels rest more t e,
          );
    }

-- all of it, where no block is open
pub read_all : (source : Source) (nest : Nest) → length source.text ≤ TEXT_LIMIT → Read source nest []
    → nest.levels ≡ [] → Spells source nest.here
read_all source nest short r e = record {
  short = short;
  tokens = r.tokens;
  leads = subst (λ ls. Leads r.tokens [] source.text ls []) e r.leads;
  same = r.same [] ∙ by nest.levels nest.frames e r.fit;
}
  where
    by : (levels : List Level) (frames : List Frame) → levels ≡ [] → Fit levels frames
        → parts_in frames nest.here [] ≡ parts_in [] nest.here []
    by [] [] f h = refl
    by [] (x ∷ xs) f h = absurd h
    by (level ∷ levels) frames f h = cc

-- all of it, where a block is open
pub read_open : (source : Source) (nest : Nest) (level : Level) (levels : List Level) (at : ℕ)
    → length source.text ≤ TEXT_LIMIT → Read source nest [] → nest.levels ≡ level ∷ levels
    → at + level.left ≡ length source.text → IsTagErrorAt source.text UnclosedTag at
read_open source nest level levels at short r e offset =
    inr (
      refl,
      record {
        short = short;
        tokens = r.tokens;
        level = level;
        levels = levels;
        leads = subst (λ ls. Leads r.tokens [] source.text ls []) e r.leads;
        offset = offset;
      },
    )

-- where it stops
pub read_error_at : (source : Source) (nest : Nest) (rest : List ℕ) (kind : TemplateErrorKind) (at : ℕ)
    → length source.text ≤ TEXT_LIMIT → Read source nest rest
    → IsNextErrorAt (length source.text) (next_of nest.levels rest) kind at → IsErrorAt source.text kind at
read_error_at source nest rest (kinds.Tag e) at short r h =
    inl (record {
      short = short;
      tokens = r.tokens;
      levels = nest.levels;
      rest = rest;
      mark = h.0;
      leads = r.leads;
      wrong = h.1;
      offset = h.2;
    })
read_error_at source nest rest kinds.TooLong at short r h = absurd h

pub read_error : (source : Source) (nest : Nest) (rest : List ℕ) (e : ParseError)
    → length source.text ≤ TEXT_LIMIT → Read source nest rest
    → IsNextError (length source.text) (next_of nest.levels rest) e → IsParseError source.text e
read_error source nest rest (Template e) short r h = read_error_at source nest rest e.kind e.at short r h
read_error source nest rest OutOfMemory short r h = tt
