-- A condition whose list is of its start alone.
use Rattle.std.proofs.Common.{◌≡◌, ℕ, ◌+◌, ◌-◌, ◌≤◌, inl, inr, ◌&&◌, nat_eq, Bool, true, false, cond, List, [], ◌∷◌, ◌++◌, flat_map, option_to_list, option_map, None, Result, Ok}
use Rattle.std.proofs.Common.{eqb-true, refl, sym, ap, append-nil, subst, arith}
use Rattle.std.proofs.lemmas.Bool.{and_from, cond-true}
use Rattle.rewriting.specs.Terms as math
use Rattle.rewriting.specs.Prelude.{var, app, Covers, Bindings, apply, values_of, Condition, is_covered, is_fit, match_onto, match_all_onto}
use Rattle.rewriting.proofs.Tests.{covers_is, fits_fit, depth_small}
use Rattle.cc_count.specs.Counts.{Counts, Spends}
use Rattle.cc_count.proofs.Spending.{spends_same}
use Rattle.reach_lists.specs.Solutions as lists
use Rattle.reach_lists.specs.Solutions.{starts, extended}
use Rattle.reach_lists.specs.Lists.{total, reach_list, reach_cost, started}
use Rattle.reach_lists.specs.Paths.{followed, asked_on_paths}
use Rattle.reach.specs.declared.listed.ReachStop.{ReachStop}
use Rattle.reach.specs.declared.sites.Search.{Search}
use Rattle.reach.specs.Follows.{Follows, FollowsOne, gives_behind, asked_behind}
use Rattle.reach.specs.Offers.{TakesNone}
use Rattle.reach.specs.Ready.{IsReady, hyps_of, inner, price}
use Rattle.reach.specs.PathView.{RootsDiffer, IsNothing}
use Rattle.reach.proofs.Idle.{idle_list, idle_cost}
use Rattle.reach.proofs.Following.{offered_same, nothing_paid, list_part, condition_followed, full_followed}

-- where the roots differ, there is no match
pub no_match_off : (b : Bindings) (p t : math.Term) → RootsDiffer p t → match_onto b p t ≡ None
no_match_off b (var x) t h = absurd h
no_match_off b (app f ps) (var y) h = refl
no_match_off b (app f ps) (app g ts) h = go (nat_eq f g) refl
  where
    go : (z : Bool) → nat_eq f g ≡ z → cond z (match_all_onto b ps ts) None ≡ None
    go true e = absurd (h (eqb-true f g e))
    go false e = refl

-- a list is made of a small instance
pub small_start : (c : Condition) (s : lists.Solution) → Covers s.values c.left → math.size (apply (values_of s.values) c.left) ≤ 400 → apply (values_of s.values) c.left ∷ [] ≡ starts c s
small_start c s covered small =
    let u = apply (values_of s.values) c.left in
    let d = depth_small u in
    sym (cond-true (is_covered s.values c.left && is_fit u) (u ∷ []) []
    (and_from (is_covered s.values c.left) (is_fit u) (covers_is s.values c.left covered) (fits_fit u record { nodes = omega (arith, small); levels = omega (arith, small, d) })))

-- at depth 1, where without lists no step is made, a list for a condition is of its start alone, for a unit
pub record OnlyStart (self : Search) : Type 0 where
  pub deep : self.depth ≡ 0 → ⊥
  pub list : (t : math.Term) → started t ≡ reach_list self.sys.now (hyps_of self) 5 (self.depth - 1) t
  pub cost : (t : math.Term) → reach_cost self.sys.now (hyps_of self) 5 (self.depth - 1) t ≡ 1

pub only_start : (self : Search) → IsReady self → self.idle ≡ true → self.depth ≡ 1 → OnlyStart self
only_start self ready still one =
    let idle = ready.still still in
    let shallow : self.depth - 1 ≡ 0 = omega (arith, one) in
    record {
      deep = λ e. omega (arith, e, one);
      list = λ t. idle_list self.sys.now (hyps_of self) idle 5 (self.depth - 1) t shallow;
      cost = λ t. idle_cost self.sys.now (hyps_of self) idle 5 (self.depth - 1) t shallow;
    }

module _ (self : Search) (f : lists.Solution → List lists.Reached) (c : Condition) (cs : List Condition) (s : lists.Solution) (t : math.Term) (deep : self.depth ≡ 0 → ⊥) (start : t ∷ [] ≡ starts c s)
    (cost : reach_cost self.sys.now (hyps_of self) 5 (self.depth - 1) t ≡ 1) where
  pub only_part : (n : ℕ) → 1 ≤ n + total (price self) (asked_on_paths (inner self) (c ∷ cs) s)
  only_part n = let h = list_part self c cs s t deep start n in omega (arith, cost, h)

  module _ (w : lists.Reached) (is : w ∷ [] ≡ reach_list self.sys.now (hyps_of self) 5 (self.depth - 1) t) where
    pub only_followed : (l m : List lists.Reached) (a b d : Counts) (o : Result (Unit {0}) ReachStop) → Spends a 1 b → FollowsOne self f c cs s w l m b d o → Follows self f (c ∷ cs) s l m a d o
    only_followed l m a b d o paid h =
        condition_followed self c cs s t deep start (w ∷ []) is f l m a b d o (spends_same a b 1 _ (sym cost) paid)
        (offered_same (price self) l m (gives_behind self f c cs s w) (flat_map (gives_behind self f c cs s) (w ∷ [])) (asked_behind self c cs s w) (flat_map (asked_behind self c cs s) (w ∷ [])) b d o
        (sym (append-nil (gives_behind self f c cs s w))) (ap (total (price self)) (sym (append-nil (asked_behind self c cs s w)))) h)

    nothing_given : (l : List lists.Reached) (b : Counts) → IsNothing l cs c.right w.term → TakesNone l (gives_behind self f c cs s w) (total (price self) (asked_behind self c cs s w)) b
    nothing_given l b (inl (full, none)) = full_followed self f c cs s w l b full none
    nothing_given l b (inr off) =
        let missed : extended c s w ≡ None = ap (option_map (λ (v : Bindings). record { values = v; by = s.by ++ w.by ∷ [] })) (no_match_off s.values c.right w.term off) in
        nothing_paid (price self) l _ _ b (ap (λ o. flat_map f (flat_map (followed (inner self) cs) (option_to_list o))) missed)
        (ap (λ o. total (price self) (flat_map (asked_on_paths (inner self) cs) (option_to_list o))) missed)

    pub leads_nowhere : (l : List lists.Reached) (a b : Counts) → w.term ≡ t → IsNothing l cs c.right t → Spends a 1 b → Follows self f (c ∷ cs) s l l a b (Ok tt)
    leads_nowhere l a b same nothing paid = only_followed l l a b b (Ok tt) paid (nothing_given l b (subst (IsNothing l cs c.right) (sym same) nothing))
