-- The entries of a `BTreeMap` beside the finite map that they stand for.
use Rattle.std.proofs.Common.{◌≡◌, ℕ, Bool, true, false, cond, List, [], ◌∷◌, map, Option, Some, None, option_map, BTreeMap, nat_cmp, Bor, refl, sym, ap, ◌∙◌}
use Rattle.std.specs.Ordering.{eq_by_cmp}
use Rattle.std.specs.Cmp.{nat_cmp_total, eq_by_cmp_equiv, Equal-is}
use Rattle.std.specs.Option.{option_copied}
use Rattle.std.specs.Map.{lookup}
use Rattle.std.specs.BTreeMap.{is_at, get}
use Rattle.std.specs.FinMap as fin
use Rattle.std.specs.FinMap.{get-from_entries, get-insert, get-remove, same_map, nat_cmp-IsAntisymmetric}
use Rattle.rewriting.specs.Terms as math
use Rattle.term_core.specs.View.{view}
use Rattle.term_core.specs.SubstView.{bindings_of}
use Rattle.term_core.specs.declared.terms.Term.{Term}

viewed : (a b : Bool) (v : Term) (o : Option Term) (p : Option math.Term) → a ≡ b → option_map view o ≡ p → option_map view (cond a (Some v) o) ≡ cond b (Some (view v)) p
viewed true true v o p e h = refl
viewed true false v o p e h = cc
viewed false true v o p e h = cc
viewed false false v o p e h = h

found : (es : List (ℕ × Term)) (q : ℕ) → option_map view (lookup (is_at (nat_cmp q)) es) ≡ fin.find nat_cmp q (map (λ e. (e.0, view e.1)) es)
found [] q = refl
found (e ∷ es) q = viewed (is_at (nat_cmp q) e.0) (eq_by_cmp nat_cmp q e.0) e.1 _ _ refl (found es q)

pub get-bindings_of : (es : List (ℕ × Term)) (q : ℕ) → option_map view (lookup (is_at (nat_cmp q)) es) ≡ fin.get (bindings_of es) q
get-bindings_of es q = found es q ∙ sym (get-from_entries nat_cmp_total _ q)

pub bound : (m n : BTreeMap ℕ Term) (k : ℕ) (v : Term) → ((q : ℕ) → get nat_cmp n q ≡ cond (is_at (nat_cmp k) q) (Some v) (get nat_cmp m q))
    → bindings_of n.entries ≡ fin.insert (bindings_of m.entries) k (view v)
bound m n k v is =
    same_map nat_cmp_total nat_cmp-IsAntisymmetric _ _
    (λ q. sym (get-bindings_of n.entries q) ∙ ap (option_map view) (is q)
    ∙ viewed (is_at (nat_cmp k) q) (eq_by_cmp nat_cmp q k) v _ _ ((eq_by_cmp_equiv nat_cmp_total).symm k q) (get-bindings_of m.entries q)
    ∙ sym (get-insert nat_cmp_total (bindings_of m.entries) k (view v) q))

gone : (a b : Bool) (o : Option Term) (p : Option math.Term) → a ≡ b → option_map view o ≡ p → option_map view (cond a None o) ≡ cond b None p
gone true true o p e h = refl
gone true false o p e h = cc
gone false true o p e h = cc
gone false false o p e h = h

pub unbound : (m n : BTreeMap ℕ Term) (k : ℕ) → ((q : ℕ) → get nat_cmp n q ≡ cond (is_at (nat_cmp k) q) None (get nat_cmp m q))
    → bindings_of n.entries ≡ fin.remove (bindings_of m.entries) k
unbound m n k is =
    same_map nat_cmp_total nat_cmp-IsAntisymmetric _ _
    (λ q. sym (get-bindings_of n.entries q) ∙ ap (option_map view) (is q)
    ∙ gone (is_at (nat_cmp k) q) (eq_by_cmp nat_cmp q k) _ _ ((eq_by_cmp_equiv nat_cmp_total).symm k q) (get-bindings_of m.entries q) ∙ sym (get-remove nat_cmp_total (bindings_of m.entries) k q))

pub view_of_ref : (r : Option (Bor Term)) → option_map (λ x. view x.now) r ≡ option_map view (option_copied r)
view_of_ref None = refl
view_of_ref (Some x) = refl

pub is_elsewhere : (k q : ℕ) → (q ≡ k → ⊥) → is_at (nat_cmp k) q ≡ false
is_elsewhere k q apart = go (is_at (nat_cmp k) q) refl
  where
    go : (b : Bool) → is_at (nat_cmp k) q ≡ b → is_at (nat_cmp k) q ≡ false
    go true e = absurd (apart (sym (nat_cmp-IsAntisymmetric k q ((Equal-is (nat_cmp k q)).0 e))))
    go false e = e
