-- The caps of a symbol's arguments, one after the other.
use Rattle.std.proofs.Common.{ℕ, zero, suc, ◌≡◌, ◌+◌, ◌^◌, ◌<◌, ◌≤◌, inl, inr, true, List, [], ◌∷◌, ◌++◌, length, take, get_or, Vec, Global, Result, Ok, Err, refl, sym, ap, ap₂}
use Rattle.std.proofs.Common.{◌∙◌, subst, arith, eq-eqb}
use Rattle.std.proofs.lemmas.List.{take_all}
use Rattle.general_lemmas.proofs.Places.{take_read}
use Rattle.rewriting.specs.Terms as math
use Rattle.rewriting.specs.Prelude.{Terms, app, nil, cons, size, size_all, depth, depth_all, Fits, Substitution, occurs, System, append}
use Rattle.caps.specs.Caps.{Cap as MathCap, Caps, node, no_caps, caps, holes, holes_in, filled, all_filled, IsCapOf, AreCapsOf, IsCapLarge, AreCapsLarge}
use Rattle.term_core.specs.Prelude.{view, views}
use Rattle.term_core.specs.declared.terms.Term.{Term, Var, Fun}
use Rattle.term_core.specs.declared.terms.NoMemory.{NoMemory}
use Rattle.term_core.proofs.Views.{view-Fun, view-Var}
use Rattle.term_core.proofs.Sizes.{size_inside}
use Rattle.unification.proofs.Terms.{occurs_inside}
use Rattle.tcap_infeasible.specs.declared.Cap.{Cap}
use Rattle.tcap_infeasible.specs.declared.Cap.TheVariants.{Capped, TooLarge}
use Rattle.tcap_infeasible.specs.declared.capping.Leaf.{Leaf}
use Rattle.tcap_infeasible.specs.declared.capping.Leaf.TheVariants.{Hole, Kept}
use Rattle.tcap_infeasible.specs.Frozen.{leaf_of, standing, HasConstant, HasConstants, IsHeld, TopAnswers, FrozenAnswers}
use Rattle.term_core.specs.SystemView.{HasSymbolsBelow, HaveSymbolsBelow}
use Rattle.tcap_infeasible.proofs.Sizes.{AreSmall, caps_small}
use Rattle.tcap_infeasible.proofs.Bases.{IsBased, node_based}

-- one more at the end
abbrev pub with_cap : Caps → MathCap → Caps
with_cap no_caps c = caps c no_caps
with_cap (caps d ds) c = caps d (with_cap ds c)

with_are : (sys : System) (leaf : ℕ → MathCap) (ts : Terms) (cs : Caps) (t : math.Term) (c : MathCap) → AreCapsOf sys leaf ts cs → IsCapOf sys leaf t c
    → AreCapsOf sys leaf (append ts (cons t nil)) (with_cap cs c)
with_are sys leaf nil cs t c e is = subst (λ z. AreCapsOf sys leaf (cons t nil) (with_cap z c)) (sym e) (c, no_caps, refl, is, refl)
with_are sys leaf (cons u us) cs t c (d, ds, e, first, rest) is =
    subst (λ z. AreCapsOf sys leaf (cons u (append us (cons t nil))) (with_cap z c)) (sym e) (d, with_cap ds c, refl, first, with_are sys leaf us ds t c rest is)

with_filled : (s : Substitution) (n : ℕ) (cs : Caps) (c : MathCap) → all_filled s n (with_cap cs c) ≡ append (all_filled s n cs) (cons (filled s (n + holes_in cs) c) nil)
with_filled s n no_caps c = (let e : n ≡ n + 0 = omega arith in ap (λ z. cons (filled s z c) nil) e)
with_filled s n (caps d ds) c =
    (let e : n + holes d + holes_in ds ≡ n + (holes d + holes_in ds) = omega arith in
    ap (cons (filled s n d)) (with_filled s (n + holes d) ds c ∙ ap (λ z. append (all_filled s (n + holes d) ds) (cons (filled s z c) nil)) e))

with_holes : (cs : Caps) (c : MathCap) → holes_in (with_cap cs c) ≡ holes_in cs + holes c
with_holes no_caps c = omega arith
with_holes (caps d ds) c = let e = with_holes ds c in omega (arith, e)

pub views_with : (us : List Term) (u : Term) → views (us ++ u ∷ []) ≡ append (views us) (cons (view u) nil)
views_with [] u = refl
views_with (x ∷ us) u = ap (cons (view x)) (views_with us u)

pub size_take : (ts : List Term) (k : ℕ) (t : Term) → k < length ts → t ≡ get_or ts k t → size_all (views (take k ts)) + size (view t) ≤ size_all (views ts)
size_take [] k t h e = absurd (omega (arith, h))
size_take (x ∷ ts) zero t h e = (let same : size (view t) ≡ size (view x) = ap (λ z. size (view z)) e in omega (arith, same))
size_take (x ∷ ts) (suc k) t h e = let r = size_take ts k t (omega (arith, h)) e in omega (arith, r)

depth_at : (ts : List Term) (k : ℕ) (t : Term) → k < length ts → t ≡ get_or ts k t → depth (view t) ≤ depth_all (views ts)
depth_at [] k t h e = absurd (omega (arith, h))
depth_at (x ∷ ts) zero t h e = (let same : depth (view t) ≡ depth (view x) = ap (λ z. depth (view z)) e in omega (arith, same))
depth_at (x ∷ ts) (suc k) t h e = let r = depth_at ts k t (omega (arith, h)) e in omega (arith, r)

pub large_at : (sys : System) (leaf : ℕ → MathCap) (ts : List Term) (k : ℕ) (t : Term) → k < length ts → t ≡ get_or ts k t → IsCapLarge sys leaf (view t) → AreCapsLarge sys leaf (views ts)
large_at sys leaf [] k t h e large = absurd (omega (arith, h))
large_at sys leaf (x ∷ ts) zero t h e large = inl (subst (λ z. IsCapLarge sys leaf (view z)) e large)
large_at sys leaf (x ∷ ts) (suc k) t h e large = inr (large_at sys leaf ts k t (omega (arith, h)) e large)

below_at : (b : ℕ) (ts : List Term) (k : ℕ) (t : Term) → k < length ts → t ≡ get_or ts k t → HaveSymbolsBelow b (views ts) → HasSymbolsBelow b (view t)
below_at b [] k t h e all = absurd (omega (arith, h))
below_at b (x ∷ ts) zero t h e all = subst (λ z. HasSymbolsBelow b (view z)) (sym e) all.0
below_at b (x ∷ ts) (suc k) t h e all = below_at b ts k t (omega (arith, h)) e all.1

-- a variable has its constant
pub leaf_constant : (sys : System) (leaf : Leaf) (t : Term) (x : ℕ) → t ≡ Var x → HasConstants sys leaf (view t) → HasConstant leaf x
leaf_constant sys Hole t x is c = tt
leaf_constant sys (Kept base) t x is c = c.room x (subst (λ z. occurs x z ≡ true) (sym (ap view is ∙ view-Var x)) (eq-eqb x x refl))

-- the caps of the first k terms are held from the number `start` on, before the number `next`
pub record AreCapped (sys : System) (leaf : Leaf) (ts : List Term) (k : ℕ) (us : List Term) (start next : ℕ) : Type 0 where
  pub shapes : Caps
  pub are : AreCapsOf sys (leaf_of leaf) (views (take k ts)) shapes
  pub shown : views us ≡ all_filled (standing leaf) start shapes
  pub counted : next ≡ start + holes_in shapes

pub capped_next : (sys : System) (leaf : Leaf) (ts : List Term) (k : ℕ) (us : List Term) (start next more : ℕ) (t u : Term) → k < length ts → t ≡ get_or ts k t → AreCapped sys leaf ts k us start next
    → FrozenAnswers sys leaf (view t) next more (Ok (Capped u)) → AreCapped sys leaf ts (k + 1) (us ++ u ∷ []) start more
capped_next sys leaf ts k us start next more t u h e before (c, is, shown, counted) =
    record {
      shapes = with_cap before.shapes c;
      are = subst (λ z. AreCapsOf sys (leaf_of leaf) (views z) (with_cap before.shapes c)) (sym (take_read ts k t h e))
          (subst (λ z. AreCapsOf sys (leaf_of leaf) z (with_cap before.shapes c)) (sym (views_with (take k ts) t))
          (with_are sys (leaf_of leaf) (views (take k ts)) before.shapes (view t) c before.are is));
      shown = views_with us u ∙ (ap₂ (λ x y. append x (cons y nil)) before.shown (shown ∙ ap (λ z. filled (standing leaf) z c) before.counted)
          ∙ sym (with_filled (standing leaf) start before.shapes c));
      counted = (let a = with_holes before.shapes c in let b = before.counted in omega (arith, a, b, counted));
    }

-- no more numbers are taken than the terms have nodes
pub capped_room : (sys : System) (leaf : Leaf) (ts : List Term) (k : ℕ) (us : List Term) (start next : ℕ) → AreCapped sys leaf ts k us start next → next ≤ start + size_all (views (take k ts))
capped_room sys leaf ts k us start next capped =
    let s = (caps_small sys leaf (views (take k ts)) capped.shapes start capped.are).few in let c = capped.counted in omega (arith, s, c)

module _ (t : Term) (f : ℕ) (v : Vec Term Global) (items : List Term) (k : ℕ) (arg : Term) (is : t ≡ Fun f v) (same : items ≡ v.items) (h : k < length items) (at : arg ≡ get_or items k arg) where
  shape : view t ≡ app f (views items)
  shape = ap view is ∙ (view-Fun f v ∙ ap (λ z. app f (views z)) (sym same))

  pub arg_room : (sys : System) (leaf : Leaf) (us : List Term) (start next : ℕ) → AreCapped sys leaf items k us start next → start + size (view t) < 2 ^ 32 → next + size (view arg) < 2 ^ 32
  arg_room sys leaf us start next capped room =
      let whole : size (view t) ≡ suc (size_all (views items)) = ap size shape in
      let part = size_take items k arg h at in
      let taken = capped_room sys leaf items k us start next capped in
      omega (arith, whole, part, taken, room)

  pub arg_fits : Fits (view t) → Fits (view arg)
  arg_fits fit =
      let smaller = size_inside t f v items k arg is same h at in
      let whole : depth (view t) ≡ suc (depth_all (views items)) = ap depth shape in
      let part = depth_at items k arg h at in
      let a = fit.nodes in
      let b = fit.levels in
      record { nodes = omega (arith, smaller, a); levels = omega (arith, whole, part, b) }

  pub arg_constants : (sys : System) (leaf : Leaf) → HasConstants sys leaf (view t) → HasConstants sys leaf (view arg)
  arg_constants sys Hole c = tt
  arg_constants sys (Kept base) c =
      record {
        past_system = c.past_system;
        past_term = below_at base items k arg h at (subst (HasSymbolsBelow base) shape c.past_term).1;
        room = λ x o. c.room x (occurs_inside x t f v items k arg is same h at o);
      }

  pub arg_large : (sys : System) (leaf : Leaf) → IsCapLarge sys (leaf_of leaf) (view arg) → IsCapLarge sys (leaf_of leaf) (view t)
  arg_large sys leaf large = subst (IsCapLarge sys (leaf_of leaf)) (sym shape) (inl (large_at sys (leaf_of leaf) items k arg h at large))

pub start_low : (sys : System) (leaf : Leaf) (ts : List Term) (k : ℕ) (us : List Term) (start next : ℕ) → AreCapped sys leaf ts k us start next → 2 ^ 31 ≤ start → 2 ^ 31 ≤ next
start_low sys leaf ts k us start next capped low = let c = capped.counted in omega (arith, c, low)

-- a symbol over the caps of all arguments
pub args_held : (sys : System) (leaf : Leaf) (t : Term) (f : ℕ) (v : Vec Term Global) (items : List Term) (k : ℕ) (us : List Term) (start next : ℕ) → t ≡ Fun f v → items ≡ v.items → length items ≤ k
    → (capped : AreCapped sys leaf items k us start next) → Fits (view t) → 2 ^ 31 ≤ start → HasConstants sys leaf (view t) → IsHeld sys f (app f (views us)) start (node f capped.shapes)
args_held sys leaf t f v items k us start next is same h capped fit low constant =
    (let nodes : size (view t) ≡ suc (size_all (views items)) = ap size shape in
    let levels : depth (view t) ≡ suc (depth_all (views items)) = ap depth shape in
    let a = small.nodes in
    let b = small.levels in
    let p = fit.nodes in
    let q = fit.levels in
    let few : size_all (views us) ≡ size_all (all_filled (standing leaf) start capped.shapes) = ap size_all capped.shown in
    let flat : depth_all (views us) ≡ depth_all (all_filled (standing leaf) start capped.shapes) = ap depth_all capped.shown in
    record {
      base = based.base;
      far = based.far;
      shown = ap (app f) capped.shown ∙ based.same start;
      root = eq-eqb f f refl;
      fits = record { nodes = omega (arith, nodes, a, p, few); levels = omega (arith, levels, b, q, flat) };
      low = low;
    })
  where
    shape : view t ≡ app f (views items)
    shape = ap view is ∙ (view-Fun f v ∙ ap (λ z. app f (views z)) (sym same))

    are : AreCapsOf sys (leaf_of leaf) (views items) capped.shapes
    are = subst (λ z. AreCapsOf sys (leaf_of leaf) (views z) capped.shapes) (take_all k items h) capped.are

    small : AreSmall leaf (views items) capped.shapes start
    small = caps_small sys leaf (views items) capped.shapes start are

    based : IsBased sys leaf (node f capped.shapes)
    based = node_based sys leaf f (views items) capped.shapes (subst (HasConstants sys leaf) shape constant) are

pub whole_cap : (sys : System) (leaf : Leaf) (t : Term) (f : ℕ) (v : Vec Term Global) (items : List Term) (k : ℕ) (us : List Term) (start next more : ℕ) (r : Result Cap NoMemory)
    → t ≡ Fun f v → items ≡ v.items → length items ≤ k
    → AreCapped sys leaf items k us start next → Fits (view t) → 2 ^ 31 ≤ start → HasConstants sys leaf (view t)
    → ((s : Substitution) (c : MathCap) → IsHeld sys f (app f (views us)) start c → app f (views us) ≡ filled s start c → next ≡ start + holes c → TopAnswers sys s c start more r)
    → FrozenAnswers sys leaf (view t) start more r
whole_cap sys leaf t f v items k us start next more r is same h capped fit low constant top =
    subst (λ z. FrozenAnswers sys leaf z start more r) (sym shape)
    (go r (top (standing leaf) (node f capped.shapes) (args_held sys leaf t f v items k us start next is same h capped fit low constant) (ap (app f) capped.shown) capped.counted))
  where
    shape : view t ≡ app f (views items)
    shape = ap view is ∙ (view-Fun f v ∙ ap (λ z. app f (views z)) (sym same))

    are : AreCapsOf sys (leaf_of leaf) (views items) capped.shapes
    are = subst (λ z. AreCapsOf sys (leaf_of leaf) (views z) capped.shapes) (take_all k items h) capped.are

    go : (r : Result Cap NoMemory) → TopAnswers sys (standing leaf) (node f capped.shapes) start more r → FrozenAnswers sys leaf (app f (views items)) start more r
    go (Ok (Capped u)) (d, top, shown, counted) = (d, (capped.shapes, are, top), shown, counted)
    go (Ok TooLarge) first = inr (capped.shapes, are, first)
    go (Err e) a = tt
