-- Constants past the symbols of a cap.
use Rattle.std.proofs.Common.{ℕ, ◌≡◌, ◌+◌, ◌≤◌, inl, inr, refl, sym, ap, ap₂, subst, arith}
use Rattle.rewriting.specs.Prelude.{Term, Terms, var, app, nil, cons, Substitution, System}
use Rattle.caps.specs.Caps.{Cap, Caps, hole, kept, node, no_caps, caps, any, holes, filled, all_filled, past_symbols, past_symbols_of, past, constants, IsTop, IsCapOf, AreCapsOf}
use Rattle.caps.proofs.Instances.{Keeps, KeepAll}
use Rattle.caps.proofs.Steps.{cap_keeps, caps_keep}
use Rattle.tcap_infeasible.specs.declared.capping.Leaf.{Leaf}
use Rattle.tcap_infeasible.specs.declared.capping.Leaf.TheVariants.{Hole, Kept}
use Rattle.tcap_infeasible.specs.Frozen.{leaf_of, standing, HasConstants}
use Rattle.term_core.specs.SystemView.{HasSymbolsBelow, HaveSymbolsBelow}

mutual
  pub symbols_below : (a b : ℕ) (t : Term) → a ≤ b → HasSymbolsBelow a t → HasSymbolsBelow b t
  symbols_below a b (var x) l h = tt
  symbols_below a b (app f ts) l (h, hs) = (omega (arith, h, l), all_symbols_below a b ts l hs)

  all_symbols_below : (a b : ℕ) (ts : Terms) → a ≤ b → HaveSymbolsBelow a ts → HaveSymbolsBelow b ts
  all_symbols_below a b nil l h = tt
  all_symbols_below a b (cons t ts) l (h, hs) = (symbols_below a b t l h, all_symbols_below a b ts l hs)

-- a cap has no other symbols than its term
leaf_past : (leaf : Leaf) (b x : ℕ) → past_symbols (leaf_of leaf x) ≤ b
leaf_past Hole b x = omega arith
leaf_past (Kept base) b x = omega arith

top_past : (sys : System) (b f : ℕ) (cs : Caps) (c : Cap) → past_symbols (node f cs) ≤ b → IsTop sys (node f cs) c → past_symbols c ≤ b
top_past sys b f cs c h (inl (k, e)) = subst (λ z. past_symbols z ≤ b) (sym e) h
top_past sys b f cs c h (inr (k, e)) = subst (λ z. past_symbols z ≤ b) (sym e) (omega arith)

mutual
  pub cap_past : (sys : System) (leaf : Leaf) (b : ℕ) (t : Term) (c : Cap) → HasSymbolsBelow b t → IsCapOf sys (leaf_of leaf) t c → past_symbols c ≤ b
  cap_past sys leaf b (var x) c h e = subst (λ z. past_symbols z ≤ b) (sym e) (leaf_past leaf b x)
  cap_past sys leaf b (app f ts) c (h, hs) (cs, are, top) = top_past sys b f cs c (let rest = caps_past sys leaf b ts cs hs are in omega (arith, rest, h)) top

  pub caps_past : (sys : System) (leaf : Leaf) (b : ℕ) (ts : Terms) (cs : Caps) → HaveSymbolsBelow b ts → AreCapsOf sys (leaf_of leaf) ts cs → past_symbols_of cs ≤ b
  caps_past sys leaf b nil cs h e = subst (λ z. past_symbols_of z ≤ b) (sym e) (omega arith)
  caps_past sys leaf b (cons t ts) cs (h, hs) (d, ds, e, is, are) =
      subst (λ z. past_symbols_of z ≤ b) (sym e) (let first = cap_past sys leaf b t d h is in let rest = caps_past sys leaf b ts ds hs are in omega (arith, first, rest))

-- where no variable stays, it does not matter what would stand for it
mutual
  none_kept : (s r : Substitution) (n : ℕ) (c : Cap) → Keeps (λ x. ⊥) c → filled s n c ≡ filled r n c
  none_kept s r n hole k = refl
  none_kept s r n (kept x) k = absurd k
  none_kept s r n (node f cs) k = ap (app f) (all_none_kept s r n cs k)

  all_none_kept : (s r : Substitution) (n : ℕ) (cs : Caps) → KeepAll (λ x. ⊥) cs → all_filled s n cs ≡ all_filled r n cs
  all_none_kept s r n no_caps k = refl
  all_none_kept s r n (caps c cs) (k, ks) = ap₂ cons (none_kept s r n c k) (all_none_kept s r (n + holes c) cs ks)

pub holes_alone : (sys : System) (t : Term) (c : Cap) (s r : Substitution) (n : ℕ) → IsCapOf sys any t c → filled s n c ≡ filled r n c
holes_alone sys t c s r n is = none_kept s r n c (cap_keeps sys any (λ x. ⊥) t c (λ x o. tt) is)

-- what stands for variables that stay in the cap of a symbol are constants that are symbols neither of the system nor of it
pub record IsBased (sys : System) (leaf : Leaf) (c : Cap) : Type 0 where
  pub base : ℕ
  pub far : past sys c ≤ base
  pub same : (n : ℕ) → filled (standing leaf) n c ≡ filled (constants base) n c

pub node_based : (sys : System) (leaf : Leaf) (f : ℕ) (ts : Terms) (cs : Caps) → HasConstants sys leaf (app f ts) → AreCapsOf sys (leaf_of leaf) ts cs → IsBased sys leaf (node f cs)
node_based sys Hole f ts cs h are =
    record {
      base = past sys (node f cs);
      far = omega arith;
      same = λ n. ap (app f) (all_none_kept var (constants (past sys (node f cs))) n cs (caps_keep sys any (λ x. ⊥) ts cs (λ x o. tt) are));
    }
node_based sys (Kept base) f ts cs h are =
    record {
      base = base;
      far = (let rest = caps_past sys (Kept base) base ts cs h.past_term.1 are in let first = h.past_term.0 in let system = h.past_system in omega (arith, rest, first, system));
      same = λ n. refl;
    }
