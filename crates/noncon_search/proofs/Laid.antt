-- What clashes with caps that lie one upon the other.
use Rattle.std.proofs.Common.{ℕ, suc, ◌≡◌, ◌^◌, Bool, true, false, nat_eq, nat_lt, if◌then◌else◌, Option, None, Some, refl, sym, ap, ◌∙◌, subst, arith, eq-eqb, eqb-true}
use Rattle.std.proofs.lemmas.Bool.{false≢true, ltb-false, or_parts, or_from}
use Rattle.rewriting.specs.Terms.{Term, Terms, var, app, nil, cons, count}
use Rattle.term_core.specs.View.{view}
use Rattle.term_core.specs.declared.terms.Term as program
use Rattle.tcap_infeasible.specs.Clashes.{do_clash, do_any_clash}
use Rattle.tcap_infeasible.proofs.Clashes.{first_open}
use Rattle.noncon_search.specs.declared.overlay.Overlay.{Overlay}
use Rattle.noncon_search.specs.Laying.{laid, all_laid, LiesIn, DoMeet, IsLaid}

module _ (n : ℕ) where
  -- two symbols over arguments that meet
  record Alike (f g : ℕ) (ts us : Terms) : Type 0 where
    symbols : f ≡ g
    counts : count ts ≡ count us
    inside : do_any_clash n ts us ≡ false

  opened : (f g : ℕ) (ts us : Terms) → do_clash n (app f ts) (app g us) ≡ false → Alike f g ts us
  opened f g ts us h = go (nat_eq f g) refl (nat_eq (count ts) (count us)) refl
    where
      go : (a : Bool) → nat_eq f g ≡ a → (b : Bool) → nat_eq (count ts) (count us) ≡ b → Alike f g ts us
      go false p b q = absurd (let other : do_clash n (app f ts) (app g us) ≡ true = rw p refl in false≢true (sym h ∙ other))
      go true p false q = absurd (let other : do_clash n (app f ts) (app g us) ≡ true = rw (p, q) refl in false≢true (sym h ∙ other))
      go true p true q = record { symbols = eqb-true f g p; counts = eqb-true (count ts) (count us) q; inside = rw (p, q) at h }

  closed : (f g : ℕ) (ts us : Terms) → Alike f g ts us → do_clash n (app f ts) (app g us) ≡ false
  closed f g ts us a =
      let p : nat_eq f g ≡ true = eq-eqb f g a.symbols in
      let q : nat_eq (count ts) (count us) ≡ true = eq-eqb (count ts) (count us) a.counts in
      rw (p, q) a.inside

  count_laid : (ts us : Terms) → count (all_laid n ts us) ≡ count ts
  count_laid nil us = refl
  count_laid (cons t ts) nil = refl
  count_laid (cons t ts) (cons u us) = ap suc (count_laid ts us)

  -- what meets a constant, meets all that do not clash with it
  meets_constant : (x : ℕ) (u v : Term) → nat_lt x n ≡ true → do_clash n (var x) u ≡ false → do_clash n (var x) v ≡ false → do_clash n u v ≡ false
  meets_constant x (app g us) v e h free = absurd (false≢true (sym h ∙ e))
  meets_constant x (var y) v e h free = go (nat_lt y n) refl (nat_eq x y) refl
    where
      go : (b : Bool) → nat_lt y n ≡ b → (c : Bool) → nat_eq x y ≡ c → do_clash n (var y) v ≡ false
      go false p c q = first_open n y v (ltb-false y n p)
      go true p true q = subst (λ z. do_clash n (var z) v ≡ false) (eqb-true x y q) free
      go true p false q = absurd (let other : do_clash n (var x) (var y) ≡ true = rw (e, p, q) refl in false≢true (sym h ∙ other))

  meets_leaf : (x : ℕ) (u v : Term) → do_clash n (var x) u ≡ false → (b : Bool) → nat_lt x n ≡ b → do_clash n (if b then var x else u) v ≡ false
      → (do_clash n (var x) v ≡ false) × (do_clash n u v ≡ false)
  meets_leaf x u v h true e free = (free, meets_constant x u v e h free)
  meets_leaf x u v h false e free = (first_open n x v (ltb-false x n e), free)

  -- what clashes with no whole, clashes with none of its two parts, which meet
  mutual
    meets_both : (t u v : Term) → do_clash n t u ≡ false → do_clash n (laid n t u) v ≡ false → (do_clash n t v ≡ false) × (do_clash n u v ≡ false)
    meets_both (var x) u v h k = meets_leaf x u v h (nat_lt x n) refl k
    meets_both (app f ts) (var y) v h k = (k, first_open n y v (ltb-false y n h))
    meets_both (app f ts) (app g us) (var z) h k = (k, k)
    meets_both (app f ts) (app g us) (app e vs) h k =
        (let a = opened f g ts us h in
        let b = opened f e (all_laid n ts us) vs k in
        let counts = sym (count_laid ts us) ∙ b.counts in
        let parts = all_meet ts us vs a.counts a.inside b.inside in (
          closed f e ts vs (record { symbols = b.symbols; counts = counts; inside = parts.0 }),
          closed g e us vs (record { symbols = sym a.symbols ∙ b.symbols; counts = sym a.counts ∙ counts; inside = parts.1 }),
        ))

    all_meet : (ts us vs : Terms) → count ts ≡ count us → do_any_clash n ts us ≡ false → do_any_clash n (all_laid n ts us) vs ≡ false → (do_any_clash n ts vs ≡ false) × (do_any_clash n us vs ≡ false)
    all_meet nil nil vs c h k = (refl, refl)
    all_meet nil (cons u us) vs c h k = absurd (omega (arith, c))
    all_meet (cons t ts) nil vs c h k = absurd (omega (arith, c))
    all_meet (cons t ts) (cons u us) nil c h k = (refl, refl)
    all_meet (cons t ts) (cons u us) (cons v vs) c h k =
        (let a = or_parts (do_clash n t u) (do_any_clash n ts us) h in
        let b = or_parts (do_clash n (laid n t u) v) (do_any_clash n (all_laid n ts us) vs) k in
        let first = meets_both t u v a.0 b.0 in
        let rest = all_meet ts us vs (omega (arith, c)) a.1 b.1 in (
          or_from (do_clash n t v) (do_any_clash n ts vs) first.0 rest.0,
          or_from (do_clash n u v) (do_any_clash n us vs) first.1 rest.1,
        ))

-- a cap that does not clash with the whole is laid there
module _ (before after : Overlay) (d : program.Term) (open_then : before.is_open ≡ true) (meets : do_clash (2 ^ 31) (view before.whole) (view d) ≡ false)
    (put : view after.whole ≡ laid (2 ^ 31) (view before.whole) (view d)) where
  both_meet : (v : Term) → do_clash (2 ^ 31) (view after.whole) v ≡ false → (do_clash (2 ^ 31) (view before.whole) v ≡ false) × (do_clash (2 ^ 31) (view d) v ≡ false)
  both_meet v e = meets_both (2 ^ 31) (view before.whole) (view d) v meets (ap (λ z. do_clash (2 ^ 31) z v) (sym put) ∙ e)

  still_in : (c : Option program.Term) → LiesIn (view before.whole) c → LiesIn (view after.whole) c
  still_in None h = h
  still_in (Some c) h = λ v e. h v (both_meet v e).0

  does_meet : (c : Option program.Term) → LiesIn (view before.whole) c → DoMeet c (Some d)
  does_meet None h = h
  does_meet (Some c) h = h (view d) meets

  pub laid_open : IsLaid before after (Some d) true
  laid_open =
      record {
        kept = λ c h open_now. still_in c (h open_then);
        added = λ open_now v e. (both_meet v e).1;
        met = λ said c h. does_meet c (h open_then);
      }
