use Rattle.std.proofs.Common.{sym, ◌≡◌, ◌∙◌, ap, subst, ℕ, ◌<◌, [], ◌++◌}
use mathlib.Core.List.{append-nil}
use lib.ListN.{length}
use Rattle.flatterm.specs.Laid.{Items, IsWhole, Within}
use Rattle.flatterm.specs.Place.{cells, place_in, preorder, Rests, is_zero}
use Rattle.flatterm.proofs.Focus.{focus, focus_back, Begins}
use Rattle.flatterm.proofs.Preorder.{subterm_stands, laid_cells, cells_app, place_front, begins_where_seen, rests_at_new, above_zero, zero_where_true}
use Rattle.flatterm.proofs.Prefix.{same_within}
use Rattle.flatterm.proofs.Seen.{rests_at_start}
use Rattle.flatterm.proofs.Replaced.{replaces}
use Rattle.flatterm.proofs.flat.Flat.splice.Goals as goal

-- the cells after an exchange
joined : (cs ds new : Items) (i : ℕ) (w : Within cs i) → ds ≡ w.front ++ (new ++ w.back) → cells ds ≡ cells w.front ++ (cells new ++ cells w.back)
joined cs ds new i w e = ap cells e ∙ cells_app w.front (new ++ w.back) ∙ ap (λ m. cells w.front ++ m) (cells_app new w.back)

pub exchange-requires : goal.exchange-requires
exchange-requires c = let d = c.self.inside.chain in let w = c.self.invariant.0.0 in
    let seen : place_in d.items d.place < length (cells d.items) = subst (λ v. v.1 < length v.0) (sym c.self.view_is) c.requires in
    let b : Begins d.items d.place = begins_where_seen d.items d.place c.self.invariant.0.1 seen in
    let deep : 0 < d.place = above_zero d.place (sym c.self.invariant.1 ∙ c.if-self.false) in
    (((focus w.0 d.items w.1 d.place b).within, deep, focus_back w.0 d.items w.1 d.place b deep), c.with.invariant.0.0)

pub invariant_of-with : goal.invariant_of-with
invariant_of-with c = let x = c.exchange.ensures in let w = x.0.0 in let n = c.exchange.new.with in
    let whole : IsWhole n.items = subst IsWhole (sym x.0.2) (w.tree, w.laid) in
    ((whole, subst (λ i. Rests n.items i) (sym x.2) (rests_at_start n.items whole)), ap is_zero (sym x.2))

pub invariant_of-self : goal.invariant_of-self
invariant_of-self c = let x = c.exchange.ensures in let w = x.0.0 in let n = c.exchange.new.self in let d = c.self.inside.chain in let t = c.self.invariant.0.0 in
    let with = c.with.inside.chain.items in let u = c.with.invariant.0.0 in
    let seen : place_in d.items d.place < length (cells d.items) = subst (λ v. v.1 < length v.0) (sym c.self.view_is) c.requires in
    let b : Begins d.items d.place = begins_where_seen d.items d.place c.self.invariant.0.1 seen in
    let f = focus t.0 d.items t.1 d.place b in
    let same = same_within d.items d.place f.within w in
    let whole : IsWhole n.items = subst IsWhole ((λ i. same.front i ++ (with ++ same.back i)) ∙ sym x.0.1) (f.put u.0 with u.1) in
    let rests : Rests n.items n.place = subst (λ i. Rests n.items i) (w.long ∙ sym x.1) (subst (λ cs. Rests cs (length w.front)) (sym x.0.1) (rests_at_new u.0 with u.1 w.front w.back)) in
    ((whole, rests), c.self.invariant.1 ∙ ap is_zero (sym x.1))

pub returns-clause-cells : goal.returns-clause-cells
returns-clause-cells c = let x = c.exchange.ensures in let w = x.0.0 in let n = c.exchange.new.self in let d = c.self.inside.chain in
    let with = c.with.inside.chain.items in
    let at = subterm_stands d.items d.place w in
    record {
      tree = w.tree;
      stood = record {
        front = cells w.front;
        back = cells w.back;
        whole = sym (ap (λ v. v.0) c.self.view_is) ∙ ap cells w.whole ∙ cells_app w.front (w.middle ++ w.back)
            ∙ ap (λ m. cells w.front ++ m) (cells_app w.middle w.back ∙ ap (λ m. m ++ cells w.back) (laid_cells w.tree w.middle w.laid));
        long = sym (place_front w.front (w.middle ++ w.back)) ∙ (λ k. place_in (sym w.whole k) (w.long k)) ∙ ap (λ v. v.1) c.self.view_is;
      };
      cells = joined d.items n.items with d.place w x.0.1 ∙ ap (λ m. cells w.front ++ (m ++ cells w.back)) (ap (λ v. v.0) c.with.view_is);
      place = ap (place_in n.items) x.1 ∙ (λ k. place_in (x.0.1 k) (sym w.long k)) ∙ place_front w.front (with ++ w.back) ∙ sym (place_front w.front (w.middle ++ w.back))
          ∙ (λ k. place_in (sym w.whole k) (w.long k)) ∙ ap (λ v. v.1) c.self.view_is;
      handed = let m = c.exchange.new.with in let e = ap cells x.0.2 ∙ laid_cells w.tree w.middle w.laid in let z = ap (place_in m.items) x.2 in (λ k. (e k, z k));
    }

pub returns-then-self-clause-cells : goal.returns-then-self-clause-cells
returns-then-self-clause-cells c = let d = c.self.inside.chain in let t = c.self.invariant.0.0 in
    let zero : place_in d.items d.place ≡ 0 = ap (place_in d.items) (zero_where_true d.place (sym c.self.invariant.1 ∙ c.if-self.true)) in
    let laid = laid_cells t.0 d.items t.1 in
    record {
      tree = t.0;
      stood = record { front = []; back = []; whole = sym (ap (λ v. v.0) c.self.view_is) ∙ laid ∙ sym (append-nil (preorder t.0)); long = sym zero ∙ ap (λ v. v.1) c.self.view_is };
      cells = c.rewind.ensures.0 ∙ ap (λ v. v.0) c.swap.ensures.x_after ∙ sym (append-nil c.args.with.0);
      place = c.rewind.ensures.1 ∙ sym zero ∙ ap (λ v. v.1) c.self.view_is;
      handed = c.swap.ensures.y_after ∙ sym c.self.view_is ∙ (λ k. (laid k, zero k));
    }

pub returns-clause-replaced : goal.returns-clause-replaced
returns-clause-replaced c = replaces _ _ _ _ (returns-clause-cells c)

pub returns-then-self-clause-replaced : goal.returns-then-self-clause-replaced
returns-then-self-clause-replaced c = replaces _ _ _ _ (returns-then-self-clause-cells c)
