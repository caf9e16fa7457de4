use Rattle.std.proofs.Common.{None, Some, sym, lit<}
use Rattle.std.proofs.lemmas.Str.Pattern.{strip_prefix_char, strip_suffix_char}
use Rattle.path_template.specs.Template.{opening_brace, closing_brace}
use Rattle.path_template.proofs.NamedSegments.{not_opened, not_closed, no_name, its_name}
use Rattle.path_template.proofs.segments.name_in.Goals as goal

pub returns-in_err-strip_prefix : goal.returns-in_err-strip_prefix
returns-in_err-strip_prefix c =
    let segment = c.args.segment.now in
    let none = strip_prefix_char opening_brace segment None c.in_err-strip_prefix.ensures.cases (lit< tt) in
    rw c.from_residual.ensures (sym (not_opened segment none))

pub returns-in_err-name : goal.returns-in_err-name
returns-in_err-name c =
    let segment = c.args.segment.now in
    let rest = c.in_ok-strip_prefix.field-0 in
    let opened = strip_prefix_char opening_brace segment (Some rest) c.in_ok-strip_prefix.ensures.cases (lit< tt) in
    let none = strip_suffix_char closing_brace rest.now None c.in_err-name.ensures.cases (lit< tt) in
    rw c.from_residual-in_err-name.ensures (sym (not_closed segment rest.now opened none))

pub returns-then-not-is_name : goal.returns-then-not-is_name
returns-then-not-is_name c =
    let segment = c.args.segment.now in
    let rest = c.in_ok-strip_prefix.field-0 in
    let opened = strip_prefix_char opening_brace segment (Some rest) c.in_ok-strip_prefix.ensures.cases (lit< tt) in
    let closed =
    strip_suffix_char closing_brace rest.now (Some c.in_ok-name.name) c.in_ok-name.ensures.cases (lit< tt) in
    sym (no_name segment rest.now opened c.in_ok-name.name.now closed (cc))

pub returns : goal.returns
returns c =
    let segment = c.args.segment.now in
    let rest = c.in_ok-strip_prefix.field-0 in
    let opened = strip_prefix_char opening_brace segment (Some rest) c.in_ok-strip_prefix.ensures.cases (lit< tt) in
    let closed =
    strip_suffix_char closing_brace rest.now (Some c.in_ok-name.name) c.in_ok-name.ensures.cases (lit< tt) in
    sym (its_name segment rest.now opened c.in_ok-name.name.now closed (cc))
