-- An identifier whose own cause is none is not refused.
use Rattle.std.proofs.Common.{◌≡◌, ℕ, true, false, List, None}
use Rattle.cops_names.specs.NameLists.{is_among}
use Rattle.cops_read.specs.Uses.{Use}
use Rattle.cops_read.specs.Refusals.{limit_cause, variable_cause, symbol_cause, cause_at}

module _ (block : List (List ℕ)) (table : List (List ℕ × ℕ)) (names : List (List ℕ)) (u : Use) (l : limit_cause u ≡ None) where
  pub cause_of_variable : is_among block u.spot.node.name.text ≡ true → variable_cause names u ≡ None → cause_at block table names u ≡ None
  cause_of_variable b v = rw (l, b) v

  pub cause_of_symbol : is_among block u.spot.node.name.text ≡ false → symbol_cause table u ≡ None → cause_at block table names u ≡ None
  cause_of_symbol b v = rw (l, b) v
