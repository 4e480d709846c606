-- One thing after the other, each for a unit or none: what was paid, and where one came to for it.
use Rattle.std.proofs.Common.{ℕ, ◌≡◌, ◌+◌, sym, ap, ◌∙◌, subst}
use Rattle.cc_count.specs.Counts.{Counts, Spends}
use Rattle.cc_count.proofs.Spending.{spends_none, spends_both}

-- `ComeTo n` says where one came to at the cost n, which was paid
pub record HasPaid (ComeTo : ℕ → Type 0) (start here : Counts) : Type 0 where
  pub units : ℕ
  pub spends : Spends start units here
  pub came_to : ComeTo units

pub at_start : {ComeTo : ℕ → Type 0} (start : Counts) → ComeTo 0 → HasPaid ComeTo start start
at_start start here = record { units = 0; spends = spends_none start; came_to = here }

module _ {ComeTo : ℕ → Type 0} {start here : Counts} (far : HasPaid ComeTo start here) {after : Counts} where
  -- for no unit
  module _ (same : after ≡ here) where
    none_paid : Spends start far.units after
    none_paid = subst (λ (b : Counts). Spends start far.units b) (sym same) far.spends

    pub unspent : (n : ℕ) × Spends start n after
    unspent = (far.units, none_paid)

    pub goes_free : {Next : ℕ → Type 0} → ((n : ℕ) → ComeTo n → Next n) → HasPaid Next start after
    goes_free next = record { units = far.units; spends = none_paid; came_to = next far.units far.came_to }

    pub stops : {Stops : ℕ → Type 0} → here.left ≡ 0 → ((n : ℕ) → ComeTo n → Stops n) → (n : ℕ) × Spends start n after × (after.left ≡ 0) × Stops n
    stops none there = (far.units, none_paid, ap (λ (b : Counts). b.left) same ∙ none, there far.units far.came_to)

  -- for a unit
  module _ (unit : Spends here 1 after) where
    one_paid : Spends start (far.units + 1) after
    one_paid = spends_both start here after far.units 1 far.spends unit

    pub spent_one : (n : ℕ) × Spends start n after
    spent_one = (far.units + 1, one_paid)

    pub goes_on : {Next : ℕ → Type 0} → ((n : ℕ) → ComeTo n → Next (n + 1)) → HasPaid Next start after
    goes_on next = record { units = far.units + 1; spends = one_paid; came_to = next far.units far.came_to }

    pub ends : {Ends : ℕ → Type 0} → ((n : ℕ) → ComeTo n → Ends (n + 1)) → (n : ℕ) × Spends start n after × Ends n
    ends there = (far.units + 1, one_paid, there far.units far.came_to)
