use Rattle.request_match.proofs.url_test.kind_of.Goals as goal

pub returns-in-UrlPathTemplate-clause-patterns : goal.returns-in-UrlPathTemplate-clause-patterns
returns-in-UrlPathTemplate-clause-patterns c =
    rw c.in-UrlPathTemplate.is (rw c.as_slice.ensures at c.template_kind.ensures.patterns)

pub returns-in-UrlPathTemplate-clause-refusal : goal.returns-in-UrlPathTemplate-clause-refusal
returns-in-UrlPathTemplate-clause-refusal c =
    rw c.in-UrlPathTemplate.is (rw (c.as_str.ensures, c.as_slice.ensures) at c.template_kind.ensures.refusal)
