-- Redexes rule by rule at a part, and part by part in a term.
use Rattle.std.proofs.Common.{ℕ, ◌≡◌, ◌<◌, ◌+◌, inl, inr, refl, sym, ap, ◌∙◌, subst, List, [], ◌∷◌, ◌++◌, map, length, get_or, drop, Bool, true, false, if◌then◌else◌, Some}
use Rattle.std.specs.FinMap.{empty}
use Rattle.std.proofs.lemmas.List.{map-append, get_or_default}
use Rattle.general_lemmas.proofs.Places.{drop_read}
use Rattle.rewriting.specs.Terms as math
use Rattle.rewriting.specs.Prelude.{IsAmong, subterm, Rule, System, rule_at, Bindings, IsLeastMatch}
use Rattle.rewriting.proofs.Lists.{among_of_map}
use Rattle.rule_index.specs.Roots.{rules_at}
use Rattle.rule_index.specs.Parts.{Part, parts}
use Rattle.rule_index.proofs.Standing.{part_stands}
use Rattle.certificates.specs.Judging.{RuleMatches}
use Rattle.valid_certificates.specs.Peaks.{RedexPlace}
use Rattle.redex_conditions.specs.Redexes.{place, places, hits, is_hit, part_redexes}

-- hits among more numbers
hits_more : (sys : System) (t : math.Term) (n : ℕ) (ns : List ℕ) → hits sys t (n ∷ ns) ≡ hits sys t (n ∷ []) ++ hits sys t ns
hits_more sys t n ns = go (is_hit (rule_at sys n) t)
  where
    go : (b : Bool) → (if b then n ∷ hits sys t ns else hits sys t ns) ≡ (if b then n ∷ [] else []) ++ hits sys t ns
    go true = refl
    go false = refl

-- one more number: the places for the rule that has it, and then those for the others
module _ (sys : System) (w : ℕ) (q : Part) (ns : List ℕ) (i n : ℕ) (low : i < length ns) (here : n ≡ get_or ns i 0) where
  here_own : n ≡ get_or ns i n
  here_own = here ∙ get_or_default ns i 0 n low

  pub places_split : places sys w q (drop i ns) ≡ places sys w q (n ∷ []) ++ places sys w q (drop (i + 1) ns)
  places_split =
      ap (places sys w q) (drop_read ns i n low here_own) ∙ ap (map (place w q.position)) (hits_more sys q.term n (drop (i + 1) ns))
      ∙ map-append (place w q.position) (hits sys q.term (n ∷ [])) (hits sys q.term (drop (i + 1) ns))

-- the parts of a term one by one
module _ (t : math.Term) where
  -- the parts that are still to come are parts of the term
  abbrev pub AreAhead : List Part → Type 0
  AreAhead qs = (q : Part) → IsAmong q qs → IsAmong q (parts t)

  module _ (qs rest : List Part) (q : Part) (split : qs ≡ q ∷ rest) (ahead : AreAhead qs) where
    pub ahead_rest : AreAhead rest
    ahead_rest x l = ahead x (subst (IsAmong x) (sym split) (inr l))

    pub ahead_first : IsAmong q (parts t)
    ahead_first = ahead q (subst (IsAmong q) (sym split) (inl refl))

  -- a rule that matches a part, matches the term at the part's position
  pub matches_in : (sys : System) (w : ℕ) (q : Part) → IsAmong q (parts t) → (r : RedexPlace) → IsAmong r (part_redexes sys w q) → (rule : Rule) (match : Bindings)
      → rule_at sys r.rule ≡ Some rule → IsLeastMatch empty match rule.left q.term → RuleMatches sys t r.rule r.position rule match
  matches_in sys w q l r m rule match is least =
      let there : r.position ≡ q.position = ap (λ x. x.position) (among_of_map (place w q.position) r (hits sys q.term (rules_at sys q.term)) m).2 in
      record { is_rule = is; redex = q.term; stands = ap (subterm t) there ∙ part_stands t q l; matches = least }
