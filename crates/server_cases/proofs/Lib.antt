mod CapturedLemmas
mod SiteLemmas
