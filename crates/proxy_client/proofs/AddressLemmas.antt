-- A text of none of a host's three forms is no host.
use Rattle.std.proofs.Common.{◌≡◌, ◌≢◌, ℕ, List, ◌++◌, codes, inl, inr, sym, subst, ◌∙◌}
use Rattle.std.proofs.lemmas.List.{append_cancel_left, append_cancel_right}
use Rattle.std.specs.Net.Grammar.{IsIpv4Text, IsIpv6Text}
use Rattle.std.specs.declared.net.ipv4_addr.Ipv4Addr.{Ipv4Addr}
use Rattle.std.specs.declared.net.ipv6_addr.Ipv6Addr.{Ipv6Addr}
use Rattle.recorder.specs.Target.{IsBracketed, IsHost}

pub not_bracketed : (host inner : List ℕ) → host ≡ codes "[" ++ (inner ++ codes "]")
    → ((a : Ipv6Addr) → ¬ (IsIpv6Text inner a)) → ¬ (IsBracketed host)
not_bracketed host inner cut none (other, a, spelled, text) =
    let closed = append_cancel_left (codes "[") (inner ++ codes "]") (other ++ codes "]") (sym cut ∙ spelled) in
    none a (subst (λ t. IsIpv6Text t a) (sym (append_cancel_right inner other (codes "]") closed)) text)

pub not_host : (host : List ℕ) → host ≢ codes "localhost" → ((a : Ipv4Addr) → ¬ (IsIpv4Text host a))
    → ¬ (IsBracketed host) → ¬ (IsHost host)
not_host host not_name no_address not_bracketed (inl e) = not_name e
not_host host not_name no_address not_bracketed (inr (inl (a, text))) = no_address a text
not_host host not_name no_address not_bracketed (inr (inr bracketed)) = not_bracketed bracketed
