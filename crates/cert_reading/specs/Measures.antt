-- Where a measure goes on with a symbol, or ends.
use Rattle.std.specs.Prelude.{◌≡◌, ℕ, Bool, true, false, List, [], ◌∷◌, codes}
use Rattle.cert_grammar.specs.Prelude.{Version, entries, is_few, Item, keyword, name_lead, numeral_lead, is_short, space, between, any_number, pair_or_end, leads}
use Rattle.cert_openings.specs.Openings.{BeginsEntry}
use Rattle.cert_reading.specs.Stops.{IsBehind, WithinOpening}

-- the first word of the line of a symbol, or of a condition, and what is behind it
abbrev pub symbol_word : Bool → List ℕ
symbol_word true = codes "fun"
symbol_word false = codes "aux"

abbrev pub behind_word : Item → Item → Item → Bool → List Item
behind_word name condition low true = between space ∷ name ∷ low ∷ []
behind_word name condition low false = between space ∷ any_number space ∷ condition ∷ low ∷ []

-- a symbol's line begins here, the first item, or there is none more: then comes the second
pub record SymbolAt (v : Version) (n : ℕ) (i low behind : Item) : Type 0 where
  pub name : Item
  pub condition : Item
  pub are_leads : leads i ≡ keyword (symbol_word true) (is_few entries n ∷ []) (behind_word name condition low true)
      ∷ keyword (symbol_word false) (is_few entries n ∷ []) (behind_word name condition low false) ∷ pair_or_end v 1
  pub name_leads : leads name ≡ name_lead [] (λ k. behind ∷ []) ∷ []
  pub condition_leads : leads condition ≡ numeral_lead (λ k. is_short k ∷ []) (λ k. behind ∷ []) ∷ []
  pub place : (q : List ℕ) → (BeginsEntry q → ⊥) → WithinOpening v (i ∷ []) q
  pub later : IsBehind v 1 low → ⊥
