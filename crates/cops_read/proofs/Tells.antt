-- An error that tells the first refusal of a part tells that of the whole.
use Rattle.std.proofs.Common.{◌≡◌, ℕ, Option, None, sym, ap, subst}
use Rattle.std.specs.Option.{option_or}
use Rattle.cops_read.specs.Refusals.{first_or}
use Rattle.cops_read.specs.Walks.{GoesOn}
use Rattle.cops_read.proofs.Firsts.{first_stays}

module _ {C E : Type 0} {T : E → Option (C × ℕ) → Type 0} (goes_on : GoesOn T) where
  pub tells_here : (o others : Option (C × ℕ)) (e : E) → T e o → T e (option_or o others)
  tells_here o others = goes_on.stays o (option_or o others) (λ r h. ap (λ (x : Option (C × ℕ)). option_or x others) h)

  pub tells_at : (cause : Option C) (at : ℕ) (others : Option (C × ℕ)) (e : E) → T e (first_or cause at None) → T e (first_or cause at others)
  tells_at cause at others = goes_on.stays (first_or cause at None) (first_or cause at others) (first_stays cause at others)

  pub tells_behind : (cause : Option C) (at : ℕ) (others : Option (C × ℕ)) (e : E) → cause ≡ None → T e others → T e (first_or cause at others)
  tells_behind cause at others e h t = subst (λ (c : Option C). T e (first_or c at others)) (sym h) t
