-- The rules that a judge of prefixes walks through.
use Rattle.std.proofs.Common.{◌≡◌, ℕ, zero, suc, ◌+◌, ◌-◌, ◌<◌, ◌≤◌, ◌⊎◌, inl, inr, refl, sym, ap, ◌∙◌, subst, subst₂}
use Rattle.std.proofs.Common.{List, map, length, get_or, slice_get, Some, Vec, Global, arith, nat_eq, eqb-true}
use Rattle.std.proofs.lemmas.Bool.{cases_lt}
use Rattle.std.proofs.lemmas.List.{length-map}
use Rattle.std.proofs.lemmas.Option.{slice_get_within}
use Rattle.general_lemmas.proofs.Places.{slice_get-map_read}
use Rattle.rewriting.specs.Rules as math
use Rattle.rewriting.specs.Prelude.{System, rule_at, IsSystem, IsWellFormed, unraveled, heads}
use Rattle.rewriting.proofs.NumbersWhere.{IsOf, of_rule}
use Rattle.rewriting.proofs.Laws.{well_formed}
use Rattle.interpretations.specs.Linear.{Interpretation, Falls}
use Rattle.measure_grid.specs.Dead.{IsDead}
use Rattle.term_core.specs.RuleView.{rule_view, AreCounted}
use Rattle.term_core.specs.declared.systems.Rule.{Rule}
use Rattle.cert_model.specs.CertificateView.{linear_entry_view}
use Rattle.cert_model.specs.declared.model.LinearEntry.{LinearEntry}
use Rattle.unravel.proofs.NumberLists.{listed_at}
use Rattle.linear_interp.specs.Falling.{IsRuleReady}
use Rattle.grid_search.specs.Prefix.{IsPrefix, IsAliveBefore}
use Rattle.grid_search.specs.Needed.{needed_at, numbers_needing}
use Rattle.grid_search.specs.JudgeView.{IsHeld}
use Rattle.grid_search.specs.declared.prefix.PrefixJudge.TheInside.{Inside}
use Rattle.grid_search.proofs.Needed.{HoldsOfAll, of_rules}
use Rattle.grid_search.proofs.Completed.{rule_ready}
use Rattle.grid_search.proofs.Prefixes.{dead_at, not_dead_yet}

-- the rules of the unraveled system, and the numbers of those that need n entries
pub record AreWalked (sys : System) (n : ℕ) (rs : List Rule) (ns : List ℕ) : Type 0 where
  pub well : IsWellFormed sys
  pub sound : IsSystem (unraveled sys)
  pub rules_are : map rule_view rs ≡ (unraveled sys).rules
  pub counted : AreCounted rs
  pub numbers : ns ≡ numbers_needing n 1 (unraveled sys).rules

pub walked : (i : Inside) (sys : System) (prefix : List LinearEntry) (rs : List Rule) (v : Vec ℕ Global) (ns : List ℕ) → IsHeld i → i.own.now ≡ sys
    → IsPrefix sys (map linear_entry_view prefix) → map rule_view rs ≡ i.unraveled.system.rules → AreCounted rs
    → IsSystem i.unraveled.system → v ≡ get_or i.completed.items (length prefix) v → ns ≡ v.items → AreWalked sys (length (map linear_entry_view prefix)) rs ns
walked i sys prefix rs v ns held same p are counted sound is shown =
    subst₂ (λ z n. AreWalked z n rs ns) same (sym long)
    (record {
      well = well_formed i.own.now held.sound;
      sound = subst IsSystem held.made.system sound;
      rules_are = are ∙ ap (λ z. z.rules) held.made.system;
      counted = counted;
      numbers = shown ∙ sym (listed_at i.completed.items (length prefix) v within is) ∙ held.completed (length prefix);
    })
  where
    long : length (map linear_entry_view prefix) ≡ length prefix
    long = length-map prefix linear_entry_view

    within : length prefix < length i.completed.items
    within = let few = p.few in let all = held.as_many in let symbols = ap (λ z. length (heads z)) same in omega (arith, long, few, all, symbols)

-- the rule with a number of the list
pub record IsNext (sys : System) (n : ℕ) (rs : List Rule) (number : ℕ) : Type 0 where
  pub low : 1 ≤ number
  pub high : number - 1 < length rs
  pub there : (r : Rule) → r ≡ get_or rs (number - 1) r → slice_get (unraveled sys).rules (number - 1) ≡ Some (rule_view r)
  pub needs : (r : Rule) → r ≡ get_or rs (number - 1) r → needed_at (rule_view r) ≡ n

rule_of : (sys : System) (n : ℕ) (rs : List Rule) (number : ℕ) → map rule_view rs ≡ (unraveled sys).rules → IsOf (λ r. nat_eq n (needed_at r)) 1 (unraveled sys).rules number → IsNext sys n rs number
rule_of sys n rs number are h =
    let number_is = h.is_number in
    let within = slice_get_within (unraveled sys).rules h.place h.rule h.is_rule in
    let many = length-map rs rule_view in
    let same = ap length are in
    let place : number - 1 ≡ h.place = omega (arith, number_is) in
    let high : number - 1 < length rs = omega (arith, place, within, many, same) in
    let found : (r : Rule) → r ≡ get_or rs (number - 1) r → slice_get (unraveled sys).rules (number - 1) ≡ Some (rule_view r) =
    (λ r is. subst (λ z. slice_get z (number - 1) ≡ Some (rule_view r)) are (slice_get-map_read rule_view rs (number - 1) r high is)) in
    record {
      low = omega (arith, number_is);
      high = high;
      there = found;
      needs = λ r is. (
          let here : slice_get (unraveled sys).rules (number - 1) ≡ Some h.rule = subst (λ k. slice_get (unraveled sys).rules k ≡ Some h.rule) (sym place) h.is_rule in
          let rule : h.rule ≡ rule_view r = (let both : Some h.rule ≡ Some (rule_view r) = sym here ∙ found r is in cc) in
          subst (λ q. needed_at q ≡ n) rule (sym (eqb-true n (needed_at h.rule) h.passes))
          );
    }

-- the value falls at the rule with a number, and at those with the first numbers of a list
abbrev pub DoesFallAt : System → Interpretation → ℕ → Type 0
DoesFallAt sys es number = (r : math.Rule) → rule_at (unraveled sys) number ≡ Some r → Falls es r

abbrev pub DoFallSoFar : System → Interpretation → List ℕ → ℕ → Type 0
DoFallSoFar sys es ns i = (k : ℕ) → k < i → DoesFallAt sys es (get_or ns k 0)

rule_at_suc : (s : System) (number : ℕ) → 1 ≤ number → rule_at s number ≡ slice_get s.rules (number - 1)
rule_at_suc s zero le = absurd (omega (arith, le))
rule_at_suc s (suc j) le = let same : j ≡ suc j - 1 = omega arith in ap (slice_get s.rules) same

module _ {sys : System} (es : Interpretation) {rs : List Rule} {ns : List ℕ} (w : AreWalked sys (length es) rs ns) where
  pub next_at : (i : ℕ) → i < length ns → IsNext sys (length es) rs (get_or ns i 0)
  next_at i lt =
      subst (λ z. i < length z → IsNext sys (length es) rs (get_or z i 0)) (sym w.numbers)
      (λ less. rule_of sys (length es) rs _ w.rules_are (of_rule (λ r. nat_eq (length es) (needed_at r)) 1 (unraveled sys).rules i less)) lt

  module _ (i : ℕ) (lt : i < length ns) (r : Rule) (is : r ≡ get_or rs (get_or ns i 0 - 1) r) where
    fewest : needed_at (rule_view r) ≤ length es
    fewest = let needs = (next_at i lt).needs r is in omega (arith, needs)

    pub next_ready : IsPrefix sys es → IsRuleReady es r
    next_ready p = rule_ready sys (unraveled sys) es rs refl w.well p w.rules_are w.counted w.sound (get_or ns i 0 - 1) r (next_at i lt).high is fewest

    pub next_dead : (Falls es (rule_view r) → ⊥) → IsDead sys es
    next_dead rises = dead_at sys es (get_or ns i 0 - 1) (rule_view r) ((next_at i lt).there r is) fewest rises

    pub one_more : DoFallSoFar sys es ns i → Falls es (rule_view r) → DoFallSoFar sys es ns (i + 1)
    one_more before falls k less q at = by_case (cases_lt k i)
      where
        by_case : (k < i) ⊎ (i ≤ k) → Falls es q
        by_case (inl h) = before k h q at
        by_case (inr h) =
            let same : k ≡ i = omega (arith, h, less) in
            let next = next_at i lt in
            let here : slice_get (unraveled sys).rules (get_or ns i 0 - 1) ≡ Some q = sym (rule_at_suc (unraveled sys) (get_or ns i 0) next.low)
            ∙ subst (λ m. rule_at (unraveled sys) (get_or ns m 0) ≡ Some q) same at in
            let rule : rule_view r ≡ q = (let both : Some (rule_view r) ≡ Some q = sym (next.there r is) ∙ here in cc) in
            subst (Falls es) rule falls

  pub all_walked : (i : ℕ) → length ns ≤ i → DoFallSoFar sys es ns i → IsAliveBefore sys es → IsDead sys es → ⊥
  all_walked i end before alive =
      not_dead_yet sys es alive (λ j r at needs. of_rules (DoesFallAt sys es) (length es) 1 (unraveled sys).rules fall j r at needs r
      (let same : suc j ≡ 1 + j = omega arith in subst (λ m. rule_at (unraveled sys) m ≡ Some r) same at))
    where
      fall : HoldsOfAll (DoesFallAt sys es) (numbers_needing (length es) 1 (unraveled sys).rules)
      fall = subst (HoldsOfAll (DoesFallAt sys es)) w.numbers (λ m lt. before m (omega (arith, lt, end)))
