-- The arguments of a frozen cap, thawed one after the other.
use Rattle.std.proofs.Common.{ℕ, ◌≡◌, ◌+◌, ◌^◌, ◌<◌, ◌≤◌, ◌⊎◌, inl, inr, true, List, [], ◌∷◌, ◌++◌, length, drop, get_or, Vec, Global, Result, Ok, Err, refl, sym, ap, ap₂, ◌∙◌, subst, subst₂, arith}
use Rattle.std.proofs.lemmas.Bool.{cases_lt}
use Rattle.rewriting.specs.Terms as math
use Rattle.rewriting.specs.Prelude.{Terms, var, app, nil, cons, size, occurs, System, IsSystem, apply, append}
use Rattle.unifier_run.proofs.Lists.{append-nil}
use Rattle.caps.specs.Laws.{IsReductOf}
use Rattle.caps.specs.Caps.{Cap as MathCap, any, kept, filled, constants, IsCapOf, IsCapLarge}
use Rattle.caps.proofs.Reducts.{reducts_match}
use Rattle.caps.proofs.Rigid.{rigid_reducts}
use Rattle.term_core.specs.Prelude.{view, views}
use Rattle.term_core.specs.declared.terms.Term.{Term, Fun}
use Rattle.term_core.specs.declared.terms.NoMemory.{NoMemory}
use Rattle.term_core.proofs.Views.{view-Fun, views-drop}
use Rattle.unification.proofs.Terms.{views-drop_all}
use Rattle.tcap_infeasible.specs.declared.Cap.{Cap}
use Rattle.tcap_infeasible.specs.declared.Cap.TheVariants.{Capped, TooLarge}
use Rattle.tcap_infeasible.specs.declared.capping.Leaf.TheVariants.{Hole, Kept}
use Rattle.tcap_infeasible.specs.Answers.{CapAnswers}
use Rattle.tcap_infeasible.specs.Frozen.{FrozenAnswers}
use Rattle.term_core.specs.SystemView.{HasSymbolsBelow}
use Rattle.tcap_infeasible.specs.Keys.{HavePlacesFor}
use Rattle.tcap_infeasible.specs.Reducts.{KeepsReducts, KeepsOwnReducts}
use Rattle.tcap_infeasible.specs.Thawing.{LiesOn, LieOn, thawed, all_thawed}
use Rattle.tcap_infeasible.proofs.Args.{views_with}
use Rattle.tcap_infeasible.proofs.Sizes.{cap_small}
use Rattle.renumbering.proofs.Filling.{filling}
use Rattle.tcap_infeasible.proofs.Keyed.{spaced, keyed_renamed, keyed_size, keyed_symbols}
use Rattle.tcap_infeasible.proofs.Named.{named, cap_named, large_named}
use Rattle.rewriting.proofs.Laws.{well_formed}
use Rattle.tcap_infeasible.proofs.Lying.{Thaws, any_thaws, kept_thaws}

-- what is left lies on the arguments that are left, and behind the thawed ones it gives the whole
pub record AreThawed (fresh : ℕ) (ts us : List Term) (k : ℕ) (out : List Term) : Type 0 where
  pub lie : LieOn fresh (views (drop k ts)) (views (drop k us))
  pub value : append (views out) (all_thawed fresh (views (drop k ts)) (views (drop k us))) ≡ all_thawed fresh (views ts) (views us)

append_assoc : (xs : Terms) (y : math.Term) (ys : Terms) → append (append xs (cons y nil)) ys ≡ append xs (cons y ys)
append_assoc nil y ys = refl
append_assoc (cons x xs) y ys = ap (cons x) (append_assoc xs y ys)

no_term_lies : (fresh : ℕ) (t : math.Term) (ts us : Terms) → us ≡ nil → LieOn fresh (cons t ts) us → ⊥
no_term_lies fresh t ts nil e h = h
no_term_lies fresh t ts (cons u us) e h = cc

module _ (fresh : ℕ) (ts us : List Term) (k : ℕ) (out : List Term) where
  pub place_below : (t : Term) → k < length ts → t ≡ get_or ts k t → AreThawed fresh ts us k out → k < length us
  place_below t h e all = go (cases_lt k (length us))
    where
      go : (k < length us) ⊎ (length us ≤ k) → k < length us
      go (inl l) = l
      go (inr l) = absurd (no_term_lies fresh (view t) (views (drop (k + 1) ts)) (views (drop k us)) (views-drop_all us k l)
          (subst (λ z. LieOn fresh z (views (drop k us))) (views-drop ts k t h e) all.lie))

  module _ (t u : Term) (h : k < length ts) (e : t ≡ get_or ts k t) (l : k < length us) (d : u ≡ get_or us k u) (all : AreThawed fresh ts us k out) where
    both : LiesOn fresh (view t) (view u) × LieOn fresh (views (drop (k + 1) ts)) (views (drop (k + 1) us))
    both = subst₂ (LieOn fresh) (views-drop ts k t h e) (views-drop us k u l d) all.lie

    pub one_lies : LiesOn fresh (view t) (view u)
    one_lies = both.0

    pub one_thawed : (v : Term) (more : List Term) → view v ≡ thawed fresh (view t) (view u) → more ≡ out ++ v ∷ [] → AreThawed fresh ts us (k + 1) more
    one_thawed v more is pushed =
        record {
          lie = both.1;
          value = ap (λ z. append z (all_thawed fresh (views (drop (k + 1) ts)) (views (drop (k + 1) us)))) (ap views pushed ∙ views_with out v)
              ∙ (append_assoc (views out) (view v) (all_thawed fresh (views (drop (k + 1) ts)) (views (drop (k + 1) us)))
              ∙ (ap (λ z. append (views out) (cons z (all_thawed fresh (views (drop (k + 1) ts)) (views (drop (k + 1) us))))) is
              ∙ (sym (ap₂ (λ x y. append (views out) (all_thawed fresh x y)) (views-drop ts k t h e) (views-drop us k u l d)) ∙ all.value)));
        }

pub whole_thawed : (fresh : ℕ) (t u : Term) (f g : ℕ) (v w : Vec Term Global) (k : ℕ) (out : Vec Term Global) → t ≡ Fun f v → u ≡ Fun g w → length v.items ≤ k
    → AreThawed fresh v.items w.items k out.items → view (Fun f out) ≡ thawed fresh (view t) (view u)
whole_thawed fresh t u f g v w k out is at h all =
    let left : append (views out.items) nil ≡ all_thawed fresh (views v.items) (views w.items) = sym
    (ap (λ z. append (views out.items) (all_thawed fresh z (views (drop k w.items)))) (views-drop_all v.items k h)) ∙ all.value in
    view-Fun f out ∙ (ap (app f) (sym (append-nil (views out.items)) ∙ left) ∙ sym (ap₂ (thawed fresh) (ap view is ∙ view-Fun f v) (ap view at ∙ view-Fun g w)))

-- the whole cap, thawed
start : 2 ^ 31 ≡ 2 ^ 31 + 0
start = omega arith

pub cap_thaws : (sys : System) (fresh : ℕ) (t u : math.Term) (n m : ℕ) (w : Term) → n ≡ 2 ^ 31 → fresh + size t ≤ 2 ^ 32 → FrozenAnswers sys Hole t n m (Ok (Capped w)) → u ≡ view w → LiesOn fresh t u
cap_thaws sys fresh t u n m w e room (c, is, shown, counted) same =
    let few = (cap_small sys Hole t c 0 is).few in
    let thaws = any_thaws sys fresh (size t) room t c 0 is (omega (arith, few)) in
    subst (LiesOn fresh t) (sym (same ∙ (shown ∙ ap (λ z. filled var z c) (e ∙ start)))) thaws.lies

pub cap_answers : (sys : System) (fresh : ℕ) (t : math.Term) (n m : ℕ) (w v : Term) → n ≡ 2 ^ 31 → fresh + size t ≤ 2 ^ 32 → FrozenAnswers sys Hole t n m (Ok (Capped w))
    → view v ≡ thawed fresh t (view w) → CapAnswers sys any var t fresh (Ok (Capped v))
cap_answers sys fresh t n m w v e room (c, is, shown, counted) value =
    let few = (cap_small sys Hole t c 0 is).few in
    let thaws = any_thaws sys fresh (size t) room t c 0 is (omega (arith, few)) in
    let zero_more : fresh + 0 ≡ fresh = omega arith in
    (c, is, value ∙ (ap (thawed fresh t) (shown ∙ ap (λ z. filled var z c) (e ∙ start)) ∙ (thaws.value ∙ ap (λ z. filled var z c) zero_more)))

pub keeps_reducts : (sys : System) (t : math.Term) (fresh : ℕ) (r : Result Cap NoMemory) → CapAnswers sys any var t fresh r → KeepsReducts sys t r
keeps_reducts sys t fresh (Ok (Capped u)) (c, is, shown) = λ s w reaches. (let m = reducts_match sys t c fresh s w is reaches in (m.0, ap (λ z. apply m.0 z) shown ∙ m.1))
keeps_reducts sys t fresh (Ok TooLarge) h = tt
keeps_reducts sys t fresh (Err e) h = tt

pub keeps_own_reducts : (sys : System) (t : math.Term) (fresh : ℕ) (r : Result Cap NoMemory) → IsSystem sys → ((x : ℕ) → occurs x t ≡ true → x < fresh)
    → CapAnswers sys kept var t fresh r → KeepsOwnReducts sys t fresh r
keeps_own_reducts sys t fresh (Ok (Capped u)) sound below (c, is, shown) = λ w reaches. subst (λ z. IsReductOf fresh z w) (sym shown)
    (rigid_reducts sys t c fresh w (well_formed sys sound) is below reaches)
keeps_own_reducts sys t fresh (Ok TooLarge) sound below h = tt
keeps_own_reducts sys t fresh (Err e) sound below h = tt

-- the whole rigid cap, thawed
module _ (sys : System) (base fresh : ℕ) (t p : math.Term) (sound : IsSystem sys) (places : HavePlacesFor sys base t p) (room : fresh + size t ≤ 2 ^ 32) where
  few_places : size p ≡ size t
  few_places = (keyed_size (length sys.arities) places.foreign places.row t p places.keyed).0

  abbrev name : MathCap → MathCap
  name c = named (filling places.row) (λ f. spaced (length sys.arities) places.foreign places.row f) c

  -- the frozen cap at the base
  at_base : (n : ℕ) (c : MathCap) → n ≡ 2 ^ 31 → filled (constants base) n c ≡ filled (constants (length sys.arities + length places.foreign)) (2 ^ 31 + 0) c
  at_base n c e = ap₂ (λ b z. filled (constants b) z c) places.base_is (e ∙ start)

  cap_lies : (c : MathCap) → IsCapOf sys kept p c → Thaws fresh t (filled (constants (length sys.arities + length places.foreign)) (2 ^ 31 + 0) c) (filled var (fresh + 0) (name c))
  cap_lies c is =
      let few = (cap_small sys (Kept base) p c 0 is).few in
      let sized = few_places in
      kept_thaws sys fresh (size t) room places.foreign places.row t p c 0 places.keyed is (omega (arith, few, sized))

  low : HasSymbolsBelow (length sys.arities + length places.foreign) p
  low = keyed_symbols (length sys.arities) places.foreign places.row t p places.keyed

  pub rigid_thaws : (n m : ℕ) (u : math.Term) (w : Term) → n ≡ 2 ^ 31 → FrozenAnswers sys (Kept base) p n m (Ok (Capped w)) → u ≡ view w → LiesOn fresh t u
  rigid_thaws n m u w e (c, is, shown, counted) same = subst (LiesOn fresh t) (sym (same ∙ (shown ∙ at_base n c e))) (cap_lies c is).lies

  pub rigid_answers : (n m : ℕ) (w v : Term) → n ≡ 2 ^ 31 → FrozenAnswers sys (Kept base) p n m (Ok (Capped w)) → view v ≡ thawed fresh t (view w) → CapAnswers sys kept var t fresh (Ok (Capped v))
  rigid_answers n m w v e (c, is, shown, counted) value =
      let zero_more : fresh + 0 ≡ fresh = omega arith in (
        name c,
        subst (λ z. IsCapOf sys kept z (name c)) (sym (keyed_renamed (length sys.arities) places.foreign places.row t p places.keyed))
            (cap_named sys places.foreign places.row sound places.foreign_distinct places.distinct p c low is),
        value ∙ (ap (thawed fresh t) (shown ∙ at_base n c e) ∙ ((cap_lies c is).value ∙ ap (λ z. filled var z (name c)) zero_more)),
      )

  pub rigid_large : IsCapLarge sys kept p → IsCapLarge sys kept t
  rigid_large h =
      subst (IsCapLarge sys kept) (sym (keyed_renamed (length sys.arities) places.foreign places.row t p places.keyed))
      (large_named sys places.foreign places.row sound places.foreign_distinct places.distinct p low h)
