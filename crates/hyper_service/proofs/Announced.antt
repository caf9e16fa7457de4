-- The line that says where a server listens, and what is written then.
use Rattle.std.proofs.Common.{◌≡◌, ◌∙◌, ℕ, List, Option, None, Some, Result, Ok, Err, false, true, true≢false, IsErr, is_err}
use Rattle.std.proofs.Common.{inl, inr, subst, sym}
use Rattle.std.proofs.KnownBytes.{Appends-nil}
use Rattle.std.specs.Io.KnownBytes.{Appends, Keeps}
use Rattle.std.specs.declared.net.socket_addr.SocketAddr.{SocketAddr}
use Rattle.hyper_service.specs.Report.{Announces, AnnouncesInPart, IsAnnounced, listening_line}

appends_kept : (a b c : Option (List ℕ)) (bytes : List ℕ) → Appends a b bytes → Keeps b c → Appends a c bytes
appends_kept None b c bytes written kept = tt
appends_kept (Some xs) None c bytes written kept = absurd written
appends_kept (Some xs) (Some ys) None bytes written kept = absurd kept
appends_kept (Some xs) (Some ys) (Some zs) bytes written kept = kept ∙ written

module _ {T E : Type 0} where
  -- nothing was written
  pub announces_nothing : (result : Result T E) (held : Option (List ℕ)) → IsErr result → Announces result held held
  announces_nothing (Ok value) held failed = absurd (true≢false (sym failed))
  announces_nothing (Err error) held failed = inl (Appends-nil held)

  -- the whole line was
  pub announces : (result : Result T E) (old middle new : Option (List ℕ)) (address : SocketAddr) (line : List ℕ)
      → line ≡ listening_line address → Appends old middle line → Keeps middle new → Announces result old new
  announces (Ok value) old middle new address line same written kept =
      (address, subst (Appends old new) same (appends_kept old middle new line written kept))
  announces (Err error) old middle new address line same written kept =
      inr (address, inl (subst (Appends old new) same (appends_kept old middle new line written kept)))

  -- the whole line wasn't, or wasn't flushed
  pub in_part : (announced : Result T E) (old new : Option (List ℕ)) → is_err announced ≡ true
      → Announces announced old new → AnnouncesInPart old new
  in_part (Ok value) old new failed line = absurd (true≢false (sym failed))
  in_part (Err error) old new failed line = line

  -- the whole line was, and flushed
  pub announced : (result : Result T E) (old new : Option (List ℕ)) → is_err result ≡ false → Announces result old new
      → IsAnnounced old new
  announced (Ok value) old new ok line = line
  announced (Err error) old new ok line = absurd (true≢false ok)
