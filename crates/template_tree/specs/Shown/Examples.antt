-- Texts, each with the tree that it spells or with its error.
use Rattle.std.specs.Prelude.{◌≡◌, ℕ, suc, true, false, List, [], ◌∷◌, length, None, codes}
use Rattle.data_tree.specs.declared.step.Step.{Step}
use Rattle.data_tree.specs.declared.step.Step.TheVariants.{Name, Index}
use Rattle.helper_set.specs.declared.helper.Helper.TheVariants.{Upper, Base64}
use Rattle.template_words.specs.declared.error.TagError.TheVariants.{UnclosedTag, UnexpectedClose, UnknownHelper}
use Rattle.template_words.specs.declared.error.TagError.TheVariants.{WrongArguments, TooDeep, BadPath, UnsupportedTag}
use Rattle.template_words.specs.Marks.{offset_of}
use Rattle.template_tags.specs.declared.expression.Datum.{Datum}
use Rattle.template_tags.specs.declared.expression.Datum.TheVariants.{Nothing, Root, Item}
use Rattle.template_tags.specs.Expression as expressions
use Rattle.template_tags.specs.Expression.{Expression, datum, call}
use Rattle.template_tree.specs.declared.escape.Escape.{Escape}
use Rattle.template_tree.specs.declared.escape.Escape.TheVariants.{Off, Html}
use Rattle.template_tree.specs.declared.error.TemplateErrorKind.TheVariants.{TooLong}
use Rattle.template_tree.specs.declared.parser.TheConstants.{TEXT_LIMIT}
use Rattle.template_tree.specs.Grammar.{Spells, IsTagErrorAt, IsTemplateError}
use Rattle.template_tree.specs.Source.{with_escape, unescaped}
use Rattle.template_tree.specs.Tree.{Node, piece, print, if_then, if_else, each, each_else, Nodes, no_nodes, first_node}

abbrev pub text_before : List ℕ → Nodes → Nodes
text_before text nodes = first_node (piece text) nodes

-- a value that is printed as it is
abbrev pub value_before : Expression → Nodes → Nodes
value_before e nodes = first_node (print Off e) nodes

-- a path from the request's root
abbrev pub root_before : List Step → Nodes → Nodes
root_before steps nodes = value_before (datum (Root steps)) nodes

-- a path that leads out of all loops
abbrev pub nothing_before : Nodes → Nodes
nothing_before nodes = value_before (datum Nothing) nodes

-- the item of the `up`-th enclosing loop
abbrev pub item_before : ℕ → Nodes → Nodes
item_before up nodes = value_before (datum (Item up [])) nodes

-- `request.url`, escaped so
abbrev pub url_before : Escape → Nodes → Nodes
url_before escape nodes =
    first_node (print escape (datum (Root (Name (codes "request") ∷ Name (codes "url") ∷ [])))) nodes

-- `request.query` and the step of that name
abbrev pub query : List ℕ → Datum
query name = Root (Name (codes "request") ∷ Name (codes "query") ∷ Name name ∷ [])

abbrev pub alone : Node → Nodes
alone node = first_node node no_nodes

-- the text spells the tree where nothing is escaped
abbrev pub Gives : List ℕ → Nodes → Type 0
Gives text tree = Spells (unescaped text) tree

pub record AreExamples : Type 0 where
  pub empty : Gives [] no_nodes
  pub text_alone : Gives (codes "a } {b") (text_before (codes "a } {b") no_nodes)
  pub path : Gives (codes "Hello {{request.path.[1]}}!") (text_before (codes "Hello ")
      (root_before (Name (codes "request") ∷ Name (codes "path") ∷ Index 1 ∷ [])
      (text_before (codes "!") no_nodes)))
  pub three_braces : Gives (codes "{{{ request.[a b] }}}")
      (root_before (Name (codes "request") ∷ Name (codes "a b") ∷ []) no_nodes)
  pub out_of_loops : Gives (codes "{{../this.x}}{{..}}{{x}}")
      (nothing_before (nothing_before (nothing_before no_nodes)))
  -- with escapes `{{E}}` is escaped, and neither `{{{E}}}` nor text is
  pub escaped : Spells (with_escape Html (codes "{{request.url}}<{{{request.url}}}"))
      (url_before Html (text_before (codes "<") (url_before Off no_nodes)))
  pub not_escaped : Gives (codes "{{request.url}}<{{{request.url}}}")
      (url_before Off (text_before (codes "<") (url_before Off no_nodes)))
  pub header : Gives (codes "{{request.headers.X-Id}}")
      (root_before (Name (codes "request") ∷ Name (codes "headers") ∷ Name (codes "x-id") ∷ []) no_nodes)
  pub comment : Gives (codes "a{{!-- }} --}}b{{!}}") (text_before (codes "a") (text_before (codes "b") no_nodes))
  pub no_close : IsTagErrorAt (codes "{{x") UnclosedTag 0
  pub no_close_of_three : IsTagErrorAt (codes "{{{x}}") UnclosedTag 0
  pub no_close_of_comment : IsTagErrorAt (codes "a{{!-- x }}") UnclosedTag 1
  pub hidden_close : IsTagErrorAt (codes "{{\"}}") UnclosedTag 0
  pub literal_alone : IsTagErrorAt (codes "{{\"}}\"}}") UnsupportedTag 0
  pub open_bracket : IsTagErrorAt (codes "{{request.path.[}}") BadPath 0
  pub leading_zero : Gives (codes "{{request.01}}")
      (root_before (Name (codes "request") ∷ Name (codes "01") ∷ []) no_nodes)
  -- after a letter of two bytes, an e with an acute accent
  pub slash_in_name : IsTagErrorAt (195 ∷ 169 ∷ codes "{{a/b}}") BadPath 2
  pub partial : IsTagErrorAt (codes "{{> p}}") UnsupportedTag 0
  pub escape : IsTagErrorAt (codes "\\{{x}}") UnsupportedTag 1
  pub empty_tag : IsTagErrorAt (codes "{{}}") UnsupportedTag 0
  pub first_error : IsTagErrorAt (codes "{{a!}}{{x") BadPath 0
  -- a word with arguments that is no helper, before its malformed word
  pub order_in_a_tag : IsTagErrorAt (codes "{{a! 1}}") UnknownHelper 0
  pub helper_alone : IsTagErrorAt (codes "{{upper}}") WrongArguments 0
  pub json_path : IsTagErrorAt (codes "{{jsonPath request.body '$.a['}}") BadPath 0
  -- a text without a mark is one piece, up to the limit
  pub longest : (b : ℕ) (bs : List ℕ) → length (b ∷ bs) ≡ TEXT_LIMIT
      → offset_of (codes "{{") (b ∷ bs) ≡ None
      → Gives (b ∷ bs) (text_before (b ∷ bs) no_nodes)
  pub longer : (text : List ℕ) → length text ≡ suc TEXT_LIMIT
      → IsTemplateError text (record { kind = TooLong; at = TEXT_LIMIT })

pub record AreBlocks : Type 0 where
  pub calls : Gives (codes "{{base64 (upper request)}}")
      (value_before (call Base64 (call Upper (datum (Root (Name (codes "request") ∷ []))))) no_nodes)
  pub with_else : Gives (codes "{{#if request.query.q}}Q{{else}}none{{/if}}!")
      (first_node (if_else false (datum (query (codes "q"))) (text_before (codes "Q") no_nodes)
      (text_before (codes "none") no_nodes)) (text_before (codes "!") no_nodes))
  pub without_else : Gives (codes "{{#unless request}}a{{/unless}}")
      (alone (if_then true (datum (Root (Name (codes "request") ∷ []))) (text_before (codes "a") no_nodes)))
  -- an else part without a node is one
  pub empty_else : Gives (codes "{{#if request}}{{else}}{{/if}}")
      (alone (if_else false (datum (Root (Name (codes "request") ∷ []))) no_nodes no_nodes))
  -- names and loop words are those of the loops that are open, and of none in an else part
  pub loop : Gives (codes "{{#each request.query.q as |v|}}{{@index}}{{v}}{{else}}{{v}}{{/each}}")
      (alone (each_else (query (codes "q")) (value_before expressions.index (item_before 0 no_nodes))
      (nothing_before no_nodes)))
  pub inner_loop : Gives (codes "{{#each request.query.a}}{{#each request.query.b}}{{..}}{{this}} {{/each}}{{/each}}")
      (alone (each (query (codes "a")) (alone (each (query (codes "b"))
      (item_before 1 (item_before 0 (text_before (codes " ") no_nodes)))))))
  pub left_open : IsTagErrorAt (codes "a{{#if request.path}}x") UnclosedTag 1
  -- the innermost one's tag
  pub left_open_inside : IsTagErrorAt (codes "{{#if a}}{{#if b}}{{/if}}{{#if c}}") UnclosedTag 25
  pub close_alone : IsTagErrorAt (codes "{{/if}}") UnexpectedClose 0
  pub other_close : IsTagErrorAt (codes "{{#if request.path}}{{/unless}}") UnexpectedClose 20
  pub second_else : IsTagErrorAt (codes "{{#if a}}{{else}}{{else}}") UnexpectedClose 17
  -- an error of a tag, though a block before it is left open
  pub error_in_block : IsTagErrorAt (codes "{{#if a}}{{foo 1}}") UnknownHelper 9
  pub fifth_loop : IsTagErrorAt (codes "{{#each a}}{{#each b}}{{#each c}}{{#each d}}{{#each e}}") TooDeep 44
