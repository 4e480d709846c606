-- Words that are numbers.
use Rattle.std.proofs.Common.{◌≡◌, ℕ, ◌<◌, ◌^◌, true, false, List, Result, Ok, Err, decimal, sym, ap, ◌∙◌, arith}
use Rattle.std.specs.Str.{bytes_eq}
use Rattle.std.specs.Str.Parse.{ParsesUnsigned}
use Rattle.std.proofs.lemmas.Slice.Eq.{bytes_eq-Decides}
use Rattle.std.proofs.lemmas.Fmt.{decimal_injective, parse-decimal}
use Rattle.run_parts.specs.Words.{IsBudget}

wide : (n : ℕ) → n < 2 ^ 63 → n < 2 ^ 64
wide n h = omega arith

module _ {E : Type 0} (word : List ℕ) (r : Result ℕ E) (parses : ParsesUnsigned 64 10 word r) where
  budget_parses : (n : ℕ) → IsBudget word n → r ≡ Ok n
  budget_parses n h = parse-decimal 64 n word r (wide n h.1) (wide n h.1) h.0 parses

  pub no_number : (x : E) → r ≡ Err x → (n : ℕ) → IsBudget word n → ⊥
  no_number x e n h = let both : Err x ≡ Ok n = sym e ∙ budget_parses n h in cc

  pub large_number : (m : ℕ) → r ≡ Ok m → 9223372036854775807 < m → (n : ℕ) → IsBudget word n → ⊥
  large_number m e large n h =
      let both : Ok m ≡ Ok n = sym e ∙ budget_parses n h in
      let same : m ≡ n = cc in let small = h.1 in omega arith

  -- it is written as another word
  pub other_number : (m : ℕ) (shown : List ℕ) → r ≡ Ok m → shown ≡ decimal m → false ≡ bytes_eq shown word → (n : ℕ) → IsBudget word n → ⊥
  other_number m shown e text other n h =
      let both : Ok m ≡ Ok n = sym e ∙ budget_parses n h in
      let same : m ≡ n = cc in
      let equal : bytes_eq shown word ≡ true = (bytes_eq-Decides shown word).1 (text ∙ (ap decimal same ∙ sym h.0)) in
      let bad : false ≡ true = other ∙ equal in cc

pub same_budget : (number numeral : List ℕ) (a b : ℕ) → number ≡ numeral → IsBudget number a → IsBudget numeral b → b ≡ a
same_budget number numeral a b e h k = decimal_injective b a (wide b k.1) (wide a h.1) (sym k.0 ∙ sym e ∙ h.0)
