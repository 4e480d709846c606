-- Caps under a renaming of the variables that stay, and of symbols past those of the system.
use Rattle.std.proofs.Common.{ℕ, zero, suc, ◌≡◌, ◌+◌, ◌*◌, ◌<◌, ◌≤◌, inl, inr, List, length, Some, refl, sym, ap, ap₂, ◌∙◌, arith}
use Rattle.rewriting.specs.Prelude.{Term, Terms, var, app, nil, cons, apply, apply_all, even, odd, Rule, System, rule_at, IsSystem, AreDistinct}
use Rattle.rewriting.proofs.Systems.{is_rule_at}
use Rattle.rewriting.proofs.Instances.{apply-var}
use Rattle.unifier_run.specs.Run.{Outcome, unifier, clash, too_large}
use Rattle.unifier_run.specs.Overlaps.{IsOutcomeOf}
use Rattle.unifier_run.specs.Irreducible.{IsFirstRule, DoRulesClash}
use Rattle.unifier_run.proofs.Renamed.{renamed, all_renamed}
use Rattle.caps.specs.Caps.{Cap, Caps, hole, kept, node, no_caps, caps, holes, holes_in, filled, all_filled, past_symbols, past_symbols_of, past, constants, frozen_from, frozen}
use Rattle.caps.specs.Caps.{IsTop, IsCapOf, AreCapsOf, IsCapLarge, AreCapsLarge}
use Rattle.tcap_infeasible.specs.declared.capping.Leaf.TheVariants.{Kept}
use Rattle.term_core.specs.SystemView.{HasSymbolsBelow, HaveSymbolsBelow}
use Rattle.tcap_infeasible.proofs.Rebased.{HasLike, HasFirstLike, alike_same, clash_like, first_unifier, first_large, forth_like, symbols_stay, names_after, lowered, lifted}
use Rattle.tcap_infeasible.proofs.Bases.{caps_past}
use Rattle.renumbering.proofs.Filling.{filling}
use Rattle.tcap_infeasible.proofs.Keyed.{end_of, spaced, spaced_below, spaced_low, spaced_past, spaced_one}

-- the cap with phi of each variable that stays, and sigma of each symbol
abbrev mutual
  pub named : (ℕ → ℕ) → (ℕ → ℕ) → Cap → Cap
  named phi sigma hole = hole
  named phi sigma (kept x) = kept (phi x)
  named phi sigma (node f cs) = node (sigma f) (all_named phi sigma cs)

  pub all_named : (ℕ → ℕ) → (ℕ → ℕ) → Caps → Caps
  all_named phi sigma no_caps = no_caps
  all_named phi sigma (caps c cs) = caps (named phi sigma c) (all_named phi sigma cs)

mutual
  pub named_holes : (phi sigma : ℕ → ℕ) (c : Cap) → holes (named phi sigma c) ≡ holes c
  named_holes phi sigma hole = refl
  named_holes phi sigma (kept x) = refl
  named_holes phi sigma (node f cs) = all_named_holes phi sigma cs

  pub all_named_holes : (phi sigma : ℕ → ℕ) (cs : Caps) → holes_in (all_named phi sigma cs) ≡ holes_in cs
  all_named_holes phi sigma no_caps = refl
  all_named_holes phi sigma (caps c cs) = ap₂ (λ a b. a + b) (named_holes phi sigma c) (all_named_holes phi sigma cs)

-- no symbol of a cap that stands for one is past these
mutual
  pub named_past : (phi sigma : ℕ → ℕ) (b limit : ℕ) → ((f : ℕ) → f < limit → sigma f < b) → (c : Cap) → past_symbols c ≤ limit → past_symbols (named phi sigma c) ≤ b
  named_past phi sigma b limit low hole h = omega arith
  named_past phi sigma b limit low (kept x) h = omega arith
  named_past phi sigma b limit low (node f cs) h =
      (let first = low f (omega (arith, h)) in let rest = all_named_past phi sigma b limit low cs (omega (arith, h)) in omega (arith, first, rest))

  pub all_named_past : (phi sigma : ℕ → ℕ) (b limit : ℕ) → ((f : ℕ) → f < limit → sigma f < b) → (cs : Caps) → past_symbols_of cs ≤ limit → past_symbols_of (all_named phi sigma cs) ≤ b
  all_named_past phi sigma b limit low no_caps h = omega arith
  all_named_past phi sigma b limit low (caps c cs) h =
      (let first = named_past phi sigma b limit low c (omega (arith, h)) in let rest = all_named_past phi sigma b limit low cs (omega (arith, h)) in omega (arith, first, rest))

module _ (sys : System) (foreign row : List ℕ) (sound : IsSystem sys) (foreign_distinct : AreDistinct foreign) (distinct : AreDistinct row) where
  abbrev pub symbols : ℕ → ℕ
  symbols f = spaced (length sys.arities) foreign row f

  abbrev pub name : Cap → Cap
  name c = named (filling row) symbols c

  abbrev pub all_name : Caps → Caps
  all_name cs = all_named (filling row) symbols cs

  -- the first constant of the places, and of what they stand for
  abbrev pub place_base : ℕ
  place_base = length sys.arities + length foreign

  abbrev pub far_base : ℕ
  far_base = end_of (length sys.arities) foreign

  pub symbols_one : (f g : ℕ) → symbols f ≡ symbols g → f ≡ g
  symbols_one = spaced_one (length sys.arities) foreign row foreign_distinct distinct

  -- holes from a number on become what they are to be in the frozen cap
  module _ (rho g : ℕ → ℕ) (start limit : ℕ) (same : (j : ℕ) → j < limit → rho (start + j) ≡ g j) where
    mutual
      held_to : (j : ℕ) (c : Cap) → j + holes c ≤ limit
          → renamed rho symbols (filled (constants place_base) (start + j) c) ≡ apply (λ k. var (g k)) (filled (constants far_base) j (name c))
      held_to j hole h = ap var (same j (omega (arith, h)))
      held_to j (kept x) h = ap (λ z. app z nil) (spaced_past (length sys.arities) foreign row x)
      held_to j (node f cs) h = ap (app (symbols f)) (all_held_to j cs h)

      all_held_to : (j : ℕ) (cs : Caps) → j + holes_in cs ≤ limit
          → all_renamed rho symbols (all_filled (constants place_base) (start + j) cs) ≡ apply_all (λ k. var (g k)) (all_filled (constants far_base) j (all_name cs))
      all_held_to j no_caps h = refl
      all_held_to j (caps c cs) h =
          (let more : start + j + holes c ≡ start + (j + holes c) = omega arith in
          ap₂ cons (held_to j c (omega (arith, h)))
          (ap (λ z. all_renamed rho symbols (all_filled (constants place_base) z cs)) more ∙ all_held_to (j + holes c) cs (omega (arith, h))
          ∙ ap (λ z. apply_all (λ k. var (g k)) (all_filled (constants far_base) (j + z) (all_name cs))) (sym (named_holes (filling row) symbols c))))

  pub held_from : (rho g : ℕ → ℕ) (start : ℕ) (c : Cap) → ((j : ℕ) → j < holes c → rho (start + j) ≡ g j)
      → renamed rho symbols (filled (constants place_base) start c) ≡ apply (λ k. var (g k)) (frozen_from far_base (name c))
  held_from rho g start c same =
      let none : start ≡ start + 0 = omega arith in
      ap (λ z. renamed rho symbols (filled (constants place_base) z c)) none ∙ held_to rho g start (holes c) same 0 c (omega arith)

  held_named : (c : Cap) → renamed (λ x. x) symbols (frozen_from place_base c) ≡ frozen_from far_base (name c)
  held_named c = held_from (λ x. x) (λ x. x) 0 c (λ j less. omega arith) ∙ apply-var (frozen_from far_base (name c))

  pub name_past : (c : Cap) → past_symbols c ≤ place_base → past sys (name c) ≤ far_base
  name_past c low = let all = named_past (filling row) symbols far_base place_base (spaced_low (length sys.arities) foreign row) c low in omega (arith, all)

  outcome_named : (r : Rule) (i : ℕ) (c : Cap) (o : Outcome) → past_symbols c ≤ place_base → rule_at sys i ≡ Some r → IsOutcomeOf r.left (frozen sys c) o → HasLike r.left (frozen sys (name c)) o
  outcome_named r zero c o low at run = absurd (cc)
  outcome_named r (suc i) c o low at run =
      let over = (is_rule_at sys.arities sys.rules i r sound.rules at).is_over.over.0 in
      lowered sys r.left over (name c) far_base (name_past c low) o
      (forth_like (λ x. x) symbols (λ x y e. e) symbols_one (apply even r.left) (apply odd (frozen_from place_base c)) (apply even r.left) (apply odd (frozen_from far_base (name c)))
      (symbols_stay symbols sys.arities (spaced_below (length sys.arities) foreign row) r.left over) (names_after symbols (λ k. 2 * k + 1) (frozen_from place_base c)
      ∙ ap (apply odd) (held_named c)) o
      (lifted sys r.left over c place_base (omega (arith, low)) o (o, alike_same o, run)))

  clash_named : (c : Cap) → past_symbols c ≤ place_base → DoRulesClash sys (frozen sys c) → DoRulesClash sys (frozen sys (name c))
  clash_named c low all i r at = clash_like r.left (frozen sys (name c)) (outcome_named r i c clash low at (all i r at))

  first_named : (c : Cap) (o : Outcome) → past_symbols c ≤ place_base → IsFirstRule sys (frozen sys c) o → HasFirstLike sys (frozen sys (name c)) o
  first_named c o low h =
      let like = outcome_named h.rule h.number c o low h.is_rule h.outcome in (
        like.0,
        like.1,
        record {
          number = h.number;
          rule = h.rule;
          is_rule = h.is_rule;
          outcome = like.2;
          before = λ i r at less. clash_like r.left (frozen sys (name c)) (outcome_named r i c clash low at (h.before i r at less));
        },
      )

  top_named : (f : ℕ) (cs : Caps) (c : Cap) → past_symbols (node f cs) ≤ place_base → IsTop sys (node f cs) c → IsTop sys (node (symbols f) (all_name cs)) (name c)
  top_named f cs c low (inl (all, e)) = inl (clash_named (node f cs) low all, ap name e)
  top_named f cs c low (inr ((b, first), e)) = inr (first_unifier sys (frozen sys (name (node f cs))) b (first_named (node f cs) (unifier b) low first), ap name e)

  node_past : (f : ℕ) (ts : Terms) (cs : Caps) → HasSymbolsBelow place_base (app f ts) → AreCapsOf sys kept ts cs → past_symbols (node f cs) ≤ place_base
  node_past f ts cs (h, hs) are = let rest = caps_past sys (Kept place_base) place_base ts cs hs are in omega (arith, rest, h)

  mutual
    pub cap_named : (t : Term) (c : Cap) → HasSymbolsBelow place_base t → IsCapOf sys kept t c → IsCapOf sys kept (renamed (filling row) symbols t) (name c)
    cap_named (var x) c low e = ap name e
    cap_named (app f ts) c low (cs, are, top) = (all_name cs, caps_named ts cs low.1 are, top_named f cs c (node_past f ts cs low are) top)

    pub caps_named : (ts : Terms) (cs : Caps) → HaveSymbolsBelow place_base ts → AreCapsOf sys kept ts cs → AreCapsOf sys kept (all_renamed (filling row) symbols ts) (all_name cs)
    caps_named nil cs low e = ap all_name e
    caps_named (cons t ts) cs (low, lows) (d, ds, e, is, are) = (name d, all_name ds, ap all_name e, cap_named t d low is, caps_named ts ds lows are)

  mutual
    pub large_named : (t : Term) → HasSymbolsBelow place_base t → IsCapLarge sys kept t → IsCapLarge sys kept (renamed (filling row) symbols t)
    large_named (var x) low h = absurd h
    large_named (app f ts) low (inl h) = inl (all_large_named ts low.1 h)
    large_named (app f ts) low (inr (cs, are, first)) =
        inr (all_name cs, caps_named ts cs low.1 are, first_large sys (frozen sys (name (node f cs))) (first_named (node f cs) too_large (node_past f ts cs low are) first))

    pub all_large_named : (ts : Terms) → HaveSymbolsBelow place_base ts → AreCapsLarge sys kept ts → AreCapsLarge sys kept (all_renamed (filling row) symbols ts)
    all_large_named nil low h = absurd h
    all_large_named (cons t ts) (low, lows) (inl h) = inl (large_named t low h)
    all_large_named (cons t ts) (low, lows) (inr h) = inr (all_large_named ts lows h)
