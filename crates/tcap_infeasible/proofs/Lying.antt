-- A frozen cap in the variables and symbols of its term is the term's cap.
use Rattle.std.proofs.Common.{ℕ, ◌≡◌, ◌+◌, ◌-◌, ◌^◌, ◌<◌, ◌≤◌, inl, inr, List, length, Some, refl, sym, ap, ap₂, ◌∙◌, subst, subst₂, arith, slice_get}
use Rattle.std.proofs.lemmas.Option.{slice_get_within, get_or_from_slice_get}
use Rattle.rewriting.specs.Terms as math
use Rattle.rewriting.specs.Prelude.{Terms, var, app, nil, cons, System}
use Rattle.caps.specs.Caps.{Cap as MathCap, Caps, kept, node, no_caps, caps, any, holes, holes_in, filled, all_filled, constants, IsTop, IsCapOf, AreCapsOf}
use Rattle.tcap_infeasible.specs.Keys.{IsKeyed, AreKeyed}
use Rattle.tcap_infeasible.specs.Thawing.{LiesOn, LieOn, thawed, all_thawed}
use Rattle.renumbering.proofs.Filling.{filling, filling_within}
use Rattle.tcap_infeasible.proofs.Keyed.{spaced, key_spaced}
use Rattle.tcap_infeasible.proofs.Named.{named, all_named, named_holes}

-- the term u is a frozen cap on t, and thawed it is v
pub record Thaws (fresh : ℕ) (t u v : math.Term) : Type 0 where
  pub lies : LiesOn fresh t u
  pub value : thawed fresh t u ≡ v

pub record AllThaw (fresh : ℕ) (ts us vs : Terms) : Type 0 where
  pub lie : LieOn fresh ts us
  pub values : all_thawed fresh ts us ≡ vs

hole_thaws : (fresh j : ℕ) (t : math.Term) → fresh + j < 2 ^ 32 → Thaws fresh t (var (2 ^ 31 + j)) (var (fresh + j))
hole_thaws fresh j t h = go t
  where
    back : 2 ^ 31 + j - 2 ^ 31 ≡ j
    back = omega arith

    low : 2 ^ 31 ≤ 2 ^ 31 + j
    low = omega arith

    high : fresh + (2 ^ 31 + j - 2 ^ 31) < 2 ^ 32
    high = subst (λ z. fresh + z < 2 ^ 32) (sym back) h

    go : (t : math.Term) → Thaws fresh t (var (2 ^ 31 + j)) (var (fresh + j))
    go (var x) = record { lies = (low, high); value = ap (λ z. var (fresh + z)) back }
    go (app f ts) = record { lies = (low, high); value = ap (λ z. var (fresh + z)) back }

module _ (sys : System) (fresh limit : ℕ) (room : fresh + limit ≤ 2 ^ 32) where
  any_top : (f : ℕ) (ts : Terms) (cs : Caps) (c : MathCap) (j : ℕ) → IsTop sys (node f cs) c → j + holes c ≤ limit
      → (j + holes_in cs ≤ limit → AllThaw fresh ts (all_filled var (2 ^ 31 + j) cs) (all_filled var (fresh + j) cs))
      → Thaws fresh (app f ts) (filled var (2 ^ 31 + j) c) (filled var (fresh + j) c)
  any_top f ts cs c j (inl (k, e)) h all =
      subst (λ z. Thaws fresh (app f ts) (filled var (2 ^ 31 + j) z) (filled var (fresh + j) z)) (sym e)
      (let a = all (subst (λ z. j + holes z ≤ limit) e h) in record { lies = a.lie; value = ap (app f) a.values })
  any_top f ts cs c j (inr (k, e)) h all =
      subst (λ z. Thaws fresh (app f ts) (filled var (2 ^ 31 + j) z) (filled var (fresh + j) z)) (sym e)
      (let one : j + 1 ≤ limit = subst (λ z. j + holes z ≤ limit) e h in hole_thaws fresh j (app f ts) (omega (arith, room, one)))

  mutual
    pub any_thaws : (t : math.Term) (c : MathCap) (j : ℕ) → IsCapOf sys any t c → j + holes c ≤ limit → Thaws fresh t (filled var (2 ^ 31 + j) c) (filled var (fresh + j) c)
    any_thaws (var x) c j e h =
        subst (λ z. Thaws fresh (var x) (filled var (2 ^ 31 + j) z) (filled var (fresh + j) z)) (sym e)
        (let one : j + 1 ≤ limit = subst (λ z. j + holes z ≤ limit) e h in hole_thaws fresh j (var x) (omega (arith, room, one)))
    any_thaws (app f ts) c j (cs, are, top) h = any_top f ts cs c j top h (λ k. any_all_thaw ts cs j are k)

    any_all_thaw : (ts : Terms) (cs : Caps) (j : ℕ) → AreCapsOf sys any ts cs → j + holes_in cs ≤ limit → AllThaw fresh ts (all_filled var (2 ^ 31 + j) cs) (all_filled var (fresh + j) cs)
    any_all_thaw nil cs j e h = subst (λ z. AllThaw fresh nil (all_filled var (2 ^ 31 + j) z) (all_filled var (fresh + j) z)) (sym e) (record { lie = tt; values = refl })
    any_all_thaw (cons t ts) cs j (d, ds, e, is, are) h =
        subst (λ z. AllThaw fresh (cons t ts) (all_filled var (2 ^ 31 + j) z) (all_filled var (fresh + j) z)) (sym e)
        (let k : j + (holes d + holes_in ds) ≤ limit = subst (λ z. j + holes_in z ≤ limit) e h in
        let one = any_thaws t d j is (omega (arith, k)) in
        let rest = any_all_thaw ts ds (j + holes d) are (omega (arith, k)) in
        let low : 2 ^ 31 + j + holes d ≡ 2 ^ 31 + (j + holes d) = omega arith in
        let high : fresh + j + holes d ≡ fresh + (j + holes d) = omega arith in
        subst₂ (λ x y. AllThaw fresh (cons t ts) (cons (filled var (2 ^ 31 + j) d) (all_filled var x ds)) (cons (filled var (fresh + j) d) (all_filled var y ds))) (sym low) (sym high)
        (record { lie = (one.lies, rest.lie); values = ap₂ cons one.value rest.values }))

  module _ (foreign row : List ℕ) where
    abbrev symbols : ℕ → ℕ
    symbols f = spaced (length sys.arities) foreign row f

    abbrev base : ℕ
    base = length sys.arities + length foreign

    abbrev name : MathCap → MathCap
    name c = named (filling row) symbols c

    abbrev all_name : Caps → Caps
    all_name cs = all_named (filling row) symbols cs

    kept_top : (f g : ℕ) (ts : Terms) (cs : Caps) (c : MathCap) (j : ℕ) → symbols g ≡ f → IsTop sys (node g cs) c → j + holes c ≤ limit
        → (j + holes_in cs ≤ limit → AllThaw fresh ts (all_filled (constants base) (2 ^ 31 + j) cs) (all_filled var (fresh + j) (all_name cs)))
        → Thaws fresh (app f ts) (filled (constants base) (2 ^ 31 + j) c) (filled var (fresh + j) (name c))
    kept_top f g ts cs c j same (inl (k, e)) h all =
        subst (λ z. Thaws fresh (app f ts) (filled (constants base) (2 ^ 31 + j) z) (filled var (fresh + j) (name z))) (sym e)
        (let a = all (subst (λ z. j + holes z ≤ limit) e h) in record { lies = a.lie; value = ap₂ app (sym same) a.values })
    kept_top f g ts cs c j same (inr (k, e)) h all =
        subst (λ z. Thaws fresh (app f ts) (filled (constants base) (2 ^ 31 + j) z) (filled var (fresh + j) (name z))) (sym e)
        (let one : j + 1 ≤ limit = subst (λ z. j + holes z ≤ limit) e h in hole_thaws fresh j (app f ts) (omega (arith, room, one)))

    leaf_thaws : (x m : ℕ) (j : ℕ) → slice_get row m ≡ Some x → Thaws fresh (var x) (filled (constants base) (2 ^ 31 + j) (kept m)) (filled var (fresh + j) (name (kept m)))
    leaf_thaws x m j at = record { lies = tt; value = ap var (sym (filling_within row m (slice_get_within row m x at) ∙ get_or_from_slice_get row m x 0 at)) }

    mutual
      pub kept_thaws : (t u : math.Term) (c : MathCap) (j : ℕ) → IsKeyed (length sys.arities) foreign row t u → IsCapOf sys kept u c → j + holes c ≤ limit
          → Thaws fresh t (filled (constants base) (2 ^ 31 + j) c) (filled var (fresh + j) (name c))
      kept_thaws (var x) u c j (m, e, at) is h =
          (let same : c ≡ kept m = subst (λ z. IsCapOf sys kept z c) e is in
          subst (λ z. Thaws fresh (var x) (filled (constants base) (2 ^ 31 + j) z) (filled var (fresh + j) (name z))) (sym same) (leaf_thaws x m j at))
      kept_thaws (app f ts) u c j (g, us, e, key, all) is h =
          (let a : (cs : Caps) × AreCapsOf sys kept us cs × IsTop sys (node g cs) c = subst (λ z. IsCapOf sys kept z c) e is in
          kept_top f g ts a.0 c j (key_spaced (length sys.arities) foreign row f g key) a.2 h (λ k. kept_all_thaw ts us a.0 j all a.1 k))

      kept_all_thaw : (ts us : Terms) (cs : Caps) (j : ℕ) → AreKeyed (length sys.arities) foreign row ts us → AreCapsOf sys kept us cs → j + holes_in cs ≤ limit
          → AllThaw fresh ts (all_filled (constants base) (2 ^ 31 + j) cs) (all_filled var (fresh + j) (all_name cs))
      kept_all_thaw nil us cs j e are h =
          (let same : cs ≡ no_caps = subst (λ z. AreCapsOf sys kept z cs) e are in
          subst (λ z. AllThaw fresh nil (all_filled (constants base) (2 ^ 31 + j) z) (all_filled var (fresh + j) (all_name z))) (sym same) (record { lie = tt; values = refl }))
      kept_all_thaw (cons t ts) us cs j (v, vs, e, one_key, all) are h =
          (let a : (d : MathCap) × (ds : Caps) × (cs ≡ caps d ds) × IsCapOf sys kept v d × AreCapsOf sys kept vs ds = subst (λ z. AreCapsOf sys kept z cs) e are in
          subst (λ z. AllThaw fresh (cons t ts) (all_filled (constants base) (2 ^ 31 + j) z) (all_filled var (fresh + j) (all_name z))) (sym a.2)
          (let k : j + (holes a.0 + holes_in a.1) ≤ limit = subst (λ z. j + holes_in z ≤ limit) a.2 h in
          let one = kept_thaws t v a.0 j one_key a.3 (omega (arith, k)) in
          let rest = kept_all_thaw ts vs a.1 (j + holes a.0) all a.4 (omega (arith, k)) in
          let low : 2 ^ 31 + j + holes a.0 ≡ 2 ^ 31 + (j + holes a.0) = omega arith in
          let count = named_holes (filling row) symbols a.0 in
          let high : fresh + j + holes (name a.0) ≡ fresh + (j + holes a.0) = omega (arith, count) in
          subst₂ (λ x y. AllThaw fresh (cons t ts) (cons (filled (constants base) (2 ^ 31 + j) a.0) (all_filled (constants base) x a.1))
          (cons (filled var (fresh + j) (name a.0)) (all_filled var y (all_name a.1)))) (sym low) (sym high)
          (record { lie = (one.lies, rest.lie); values = ap₂ cons one.value rest.values })))
