-- Entries for some places, and then for others.
use Rattle.std.proofs.Common.{ℕ, ◌≡◌, ◌+◌, ◌<◌, ◌≤◌, inl, Bool, true, false, List, [], ◌∷◌, ◌++◌, map, drop, length, get_or, Some, Result, Ok, Err, refl, sym, ap, ◌∙◌, subst}
use Rattle.std.proofs.Common.{arith, append_assoc, append-nil}
use Rattle.std.specs.FinMap.{empty}
use Rattle.rewriting.specs.Prelude.{IsLeastMatch, HasNoMatch, Rule, System, rule_at, conditions_under, Bindings}
use Rattle.rewriting.proofs.Lists.{among_left, among_right}
use Rattle.certificates.specs.Prelude.{Redex, InfeasibilityEvidence}
use Rattle.term_core.specs.declared.terms.NoMemory.{NoMemory}
use Rattle.valid_certificates.specs.Peaks.{RedexPlace}
use Rattle.rule_index.specs.Parts.{Part}
use Rattle.rule_index.specs.Roots.{rules_at}
use Rattle.redex_conditions.specs.Judged.{match_or_new}
use Rattle.redex_conditions.specs.Redexes.{place, places}
use Rattle.redex_conditions.proofs.Completing.{drop_end}
use Rattle.redex_conditions.proofs.Parts.{places_split}
use Rattle.redex_conditions.proofs.Rules.{hit_yes, hit_no}
use Rattle.first_found.specs.Items.{NoneGives, IsFirst, one}
use Rattle.search_spaces.specs.Refuting.{refutings}
use Rattle.noncon_search.specs.Trying.{Refutes}
use Rattle.noncon_search.proofs.Moving.{firsts_append}
use Rattle.noncon_search.specs.Entries.{entry_at, Hit, IsRefutedOn, IsUnrefutedOn, EntriesAnswer, RulesAnswer}

module _ (First : RedexPlace → Redex → ℕ → Type 0) (Lacks : RedexPlace → Type 0) where
  abbrev Answer : List RedexPlace → List Redex → List Redex → Result Bool NoMemory → Type 0
  Answer = EntriesAnswer First Lacks

  pub no_places : (es : List Redex) → Answer [] es es (Ok true)
  no_places es = ([], sym (append-nil es), (0, refl))

  -- what is answered for the rest, is for the whole
  pub rest_added : (rs ss : List RedexPlace) (before here after : List Redex) (a : Result Bool NoMemory) → Answer rs before here (Ok true) → Answer ss here after a → Answer (rs ++ ss) before after a
  rest_added rs ss before here after (Ok true) (es, put, (n, h)) (fs, more, (m, k)) = (
    es ++ fs,
    more ∙ ap (λ z. z ++ fs) put ∙ append_assoc before es fs,
    (n + m, firsts_append First rs ss es fs n m h k),
  )
  rest_added rs ss before here after (Ok false) h (r, at, none) = (r, among_right r rs ss at, none)
  rest_added rs ss before here after (Err e) h k = tt

  pub first_fails : (rs ss : List RedexPlace) (before here after : List Redex) → Answer rs before here (Ok false) → Answer (rs ++ ss) before after (Ok false)
  first_fails rs ss before here after (r, at, none) = (r, among_left r rs ss at, none)

module _ (sys : System) (own w : ℕ) (q : Part) where
  abbrev First : RedexPlace → Redex → ℕ → Type 0
  First = IsRefutedOn sys own q.term

  abbrev Lacks : RedexPlace → Type 0
  Lacks = IsUnrefutedOn sys own q.term

  -- the rules with some numbers one after the other
  module _ (ns : List ℕ) (i n : ℕ) (low : i < length ns) (here : n ≡ get_or ns i 0) where
    pub next_added : (before now after : List Redex) (a : Result Bool NoMemory) → RulesAnswer sys own w q (n ∷ []) before now (Ok true) → RulesAnswer sys own w q (drop (i + 1) ns) now after a
        → RulesAnswer sys own w q (drop i ns) before after a
    next_added before now after a h k =
        subst (λ rs. EntriesAnswer First Lacks rs before after a) (sym (places_split sys w q ns i n low here))
        (rest_added First Lacks (places sys w q (n ∷ [])) (places sys w q (drop (i + 1) ns)) before now after a h k)

    pub next_fails : (before now after : List Redex) → RulesAnswer sys own w q (n ∷ []) before now (Ok false) → RulesAnswer sys own w q (drop i ns) before after (Ok false)
    next_fails before now after h =
        subst (λ rs. EntriesAnswer First Lacks rs before after (Ok false)) (sym (places_split sys w q ns i n low here))
        (first_fails First Lacks (places sys w q (n ∷ [])) (places sys w q (drop (i + 1) ns)) before now after h)

  pub last_added : (ns : List ℕ) (i : ℕ) (es : List Redex) → length ns ≤ i → RulesAnswer sys own w q (drop i ns) es es (Ok true)
  last_added ns i es high = subst (λ ms. RulesAnswer sys own w q ms es es (Ok true)) (sym (drop_end ns i high)) (no_places First Lacks es)

  -- what is answered for the rules that are left, is for all
  abbrev pub IsLeft : List ℕ → List Redex → List Redex → Type 0
  IsLeft ns before now =
      (after : List Redex) (a : Result Bool NoMemory) → RulesAnswer sys own w q ns now after a → RulesAnswer sys own w q (rules_at sys q.term) before after a

  -- one rule
  module _ (n : ℕ) (rule : Rule) (is : rule_at sys n ≡ Some rule) where
    abbrev With : List ℕ → List Redex → List Redex → Result Bool NoMemory → Type 0
    With ms = EntriesAnswer First Lacks (map (place w q.position) ms)

    pub unmatched_added : HasNoMatch empty rule.left q.term → (es : List Redex) → RulesAnswer sys own w q (n ∷ []) es es (Ok true)
    unmatched_added none es = subst (λ ms. With ms es es (Ok true)) (sym (hit_no sys q.term n rule is none)) (no_places First Lacks es)

    module _ (match : Bindings) (least : IsLeastMatch empty match rule.left q.term) where
      abbrev hit : Hit sys q.term (place w q.position n)
      hit = record { rule = rule; match = match; is_rule = is; matches = least }

      pub match_added : (e : InfeasibilityEvidence) (m : ℕ) → IsFirst one (Refutes sys (conditions_under (match_or_new own match) rule.conditions)) (refutings (length rule.conditions)) e m
          → (before after : List Redex) → after ≡ before ++ entry_at (place w q.position n) e ∷ [] → RulesAnswer sys own w q (n ∷ []) before after (Ok true)
      match_added e m f before after put =
          subst (λ ms. With ms before after (Ok true)) (sym (hit_yes sys q.term n rule is match least))
          (entry_at (place w q.position n) e ∷ [], put, (m, (m, 0, (hit, e, f, refl), refl, omega arith)))

      pub match_fails : NoneGives (Refutes sys (conditions_under (match_or_new own match) rule.conditions)) (refutings (length rule.conditions)) → (before after : List Redex)
          → RulesAnswer sys own w q (n ∷ []) before after (Ok false)
      match_fails none before after =
          subst (λ ms. With ms before after (Ok false)) (sym (hit_yes sys q.term n rule is match least)) (place w q.position n, inl refl, (hit, none))
