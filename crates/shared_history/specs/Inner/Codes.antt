-- The code of what contracts see of a seat.
use Rattle.std.specs.Prelude.{◌≡◌, ℕ, ◌⊎◌, List, refl}
use mathlib.Core.Logic.{inl, inr}
use base.Stored.{coded_unit}
use Rattle.std.specs.Coded.{Coded, code_by, coded_ℕ, coded_list, coded×, coded⊎}
use Rattle.shared_history.specs.Sight.{Sight}
use Rattle.shared_history.specs.declared.entry.Deed.{Deed}
use Rattle.shared_history.specs.declared.entry.Deed.TheVariants.{Opened, Called, Looked, Split, Left}
use Rattle.shared_history.specs.declared.entry.Entry.{Entry}

module _ {O E : Type 0} where
  abbrev to_sum : Deed O E → O ⊎ (E ⊎ (Unit {0} ⊎ (Unit {0} ⊎ Unit {0})))
  to_sum (Opened origin) = inl origin
  to_sum (Called event) = inr (inl event)
  to_sum Looked = inr (inr (inl tt))
  to_sum Split = inr (inr (inr (inl tt)))
  to_sum Left = inr (inr (inr (inr tt)))

  abbrev of_sum : O ⊎ (E ⊎ (Unit {0} ⊎ (Unit {0} ⊎ Unit {0}))) → Deed O E
  of_sum (inl origin) = Opened origin
  of_sum (inr (inl event)) = Called event
  of_sum (inr (inr (inl _))) = Looked
  of_sum (inr (inr (inr (inl _)))) = Split
  of_sum (inr (inr (inr (inr _)))) = Left

  pub sum_back : (d : Deed O E) → of_sum (to_sum d) ≡ d
  sum_back (Opened origin) = refl
  sum_back (Called event) = refl
  sum_back Looked = refl
  sum_back Split = refl
  sum_back Left = refl

  abbrev pub deed_code : Coded O → Coded E → Coded (Deed O E)
  deed_code o e =
      code_by (O ⊎ (E ⊎ (Unit {0} ⊎ (Unit {0} ⊎ Unit {0}))))
      (coded⊎ o (coded⊎ e (coded⊎ coded_unit (coded⊎ coded_unit coded_unit)))) to_sum of_sum sum_back

  abbrev pub entry_code : Coded O → Coded E → Coded (Entry O E)
  entry_code o e =
      code_by (ℕ × Deed O E) (coded× coded_ℕ (deed_code o e)) (λ x. (x.seat, x.deed))
      (λ p. record { seat = p.0; deed = p.1 }) (λ _. refl)

  abbrev pub log_code : Coded O → Coded E → Coded (List (Entry O E))
  log_code o e = coded_list (entry_code o e)

  abbrev pub sight_code : Coded O → Coded E → Coded (Sight O E)
  sight_code o e =
      code_by (ℕ × List (Entry O E)) (coded× coded_ℕ (log_code o e)) (λ s. (s.number, s.seen))
      (λ p. record { number = p.0; seen = p.1 }) (λ _. refl)
