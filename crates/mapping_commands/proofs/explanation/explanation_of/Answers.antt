use Rattle.std.proofs.Common.{Global, List, Vec, map, subst, ℕ}
use Rattle.mapping_commands.specs.Answering.{SpellDocuments}
use Rattle.mapping_commands.specs.Explaining.{AreSet, given_of}
use Rattle.request_journal.specs.Past.{Past}
use Rattle.mapping_commands.proofs.explanation.explanation_of.Goals as goal

pub returns : goal.returns
returns c =
    let mappings = c.in_ok-mappings.mappings.items in
    let states = map given_of c.args.states.now in
    record {
      mappings = mappings;
      spelled =
          subst
          (λ (texts : List (Vec ℕ Global)). SpellDocuments c.args.escape (map (λ text. text.items) texts) mappings)
          c.as_slice.ensures.value c.in_ok-mappings.ensures.ok;
      past = c.set_states.new.book;
      set =
          subst (λ (past : Past). AreSet states past c.set_states.new.book) c.in_ok-book.ensures.is
          c.in_ok-set_states.ensures;
      request = c.in_ok-request.request;
      asked = c.in_ok-request.ensures.ok;
      chosen = c.in_ok-answer.ensures.ok;
    }
