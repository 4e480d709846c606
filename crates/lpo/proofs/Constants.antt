-- Comparison with variables and constants, and what is known of a constant.
use Rattle.std.proofs.Common.{◌≡◌, inl, inr, ℕ, suc, ◌&&◌, ◌||◌, ◌⊎◌, Bool, true, false, nat_eq, nat_lt, List, [], ◌∷◌, length, Option, Some, None, Vec, Global, refl, sym, ap, ap₂}
use Rattle.std.proofs.Common.{◌∙◌, subst, if◌then◌else◌, arith}
use Rattle.std.proofs.lemmas.Bool.{and_parts, and_from, and_right, cond-true, cond-false, eqb-true, eq-eqb, ne_eqb, ltb-true, lt-ltb, or_cases, or_left, or_right, false_from_ne_true, false≢true}
use Rattle.std.proofs.lemmas.List.{nil_from_length}
use Rattle.std.proofs.Math.Bool.{or-false, or_assoc}
use Rattle.rewriting.specs.Prelude.{Term, var, app, Terms, nil, cons, count, is_same, are_same, occurs, occurs_in}
use Rattle.term_core.specs.View.{view, views}
use Rattle.term_core.proofs.Views.{view-Var, view-Fun}
use Rattle.term_core.proofs.Over.{count-views}
use Rattle.term_core.specs.declared.terms.Term as code
use Rattle.path_orders.specs.Comparing.{Compared, compared, exceeds, exceeds_from, is_greater, reaches}
use Rattle.lpo.specs.Leaves.{meets, do_meet, covers, IsKnown}
use Rattle.lpo.specs.Places.{before_by, place_in}

or_swap : (a b c : Bool) → (a || (b || c)) ≡ (b || (a || c))
or_swap true true c = refl
or_swap true false c = refl
or_swap false true c = refl
or_swap false false c = refl

eq_turned : (x y : ℕ) → nat_eq y x ≡ nat_eq x y
eq_turned x y = go (nat_eq x y) refl
  where
    go : (b : Bool) → nat_eq x y ≡ b → nat_eq y x ≡ b
    go true e = eq-eqb y x (sym (eqb-true x y e))
    go false e = false_from_ne_true (nat_eq y x) (λ h. let same : nat_eq x y ≡ true = eq-eqb x y (sym (eqb-true y x h)) in absurd (cc))

none_left : (ts : Terms) → are_same ts nil ≡ nat_eq (count ts) 0
none_left nil = refl
none_left (cons t ts) = sym (ne_eqb (suc (count ts)) 0 (λ e. omega (arith, e)))

module _ (before : ℕ → ℕ → Bool) where
  module _ (g : ℕ) where
    no_constant : (f : ℕ) (cs all : List Compared) → (if nat_eq f g && nat_eq (length cs) 0 then exceeds_from before f all cs (app g nil) nil else reaches cs (app g nil)) ≡ reaches cs (app g nil)
    no_constant f [] all = go (nat_eq f g && nat_eq 0 0)
      where
        go : (b : Bool) → (if b then false else false) ≡ false
        go true = refl
        go false = refl
    no_constant f (c ∷ cs) all = cond-false (nat_eq f g && nat_eq (suc (length cs)) 0) _ _ (and_right (nat_eq f g) (nat_eq (suc (length cs)) 0) (ne_eqb (suc (length cs)) 0 (λ e. omega (arith, e))))

    constant_step : (f : ℕ) (cs : List Compared) → exceeds before f cs (app g nil) ≡ (before f g || reaches cs (app g nil))
    constant_step f cs = go (before f g) refl
      where
        go : (b : Bool) → before f g ≡ b → exceeds before f cs (app g nil) ≡ (b || reaches cs (app g nil))
        go true e = cond-true (before f g) _ _ e
        go false e = cond-false (before f g) _ _ e ∙ no_constant f cs cs

    mutual
      met_is : (s : Term) → (is_same s (app g nil) || is_greater before s (app g nil)) ≡ meets before g s
      met_is (var x) = refl
      met_is (app h ss) =
          ap₂ (λ p q. (nat_eq h g && p) || q) (none_left ss) (constant_step h (compared before ss) ∙ ap (λ q. before h g || q) (met_any_is ss))
          ∙ or_swap (nat_eq h g && nat_eq (count ss) 0) (before h g) (do_meet before g ss)

      met_any_is : (ss : Terms) → reaches (compared before ss) (app g nil) ≡ do_meet before g ss
      met_any_is nil = refl
      met_any_is (cons s ss) =
          sym (or_assoc (is_same s (app g nil)) (is_greater before s (app g nil)) (reaches (compared before ss) (app g nil))) ∙ ap₂ (λ p q. p || q) (met_is s) (met_any_is ss)

    -- neither the symbol at the root is before g, nor is the term the constant
    pub met_below : (s : code.Term) (h : ℕ) (v : Vec code.Term Global) (args rest : List code.Term) (b : Bool) → s ≡ code.Fun h v → args ≡ v.items → rest ≡ v.items → false ≡ before h g
        → false ≡ (nat_eq h g && nat_eq (length args) 0) → b ≡ do_meet before g (views rest) → b ≡ meets before g (view s)
    met_below s h v args rest b is e d no_symbol no_constant met =
        let shown : view s ≡ app h (views v.items) = ap view is ∙ view-Fun h v in
        let test : (nat_eq h g && nat_eq (count (views v.items)) 0) ≡ false = ap (λ n. nat_eq h g && nat_eq n 0) (count-views v.items ∙ ap length (sym e)) ∙ sym no_constant in
        let run : b ≡ do_meet before g (views v.items) = subst (λ z. b ≡ do_meet before g (views z)) d met in
        subst (λ u. b ≡ meets before g u) (sym shown) (run ∙ ap₂ (λ p q. p || (q || do_meet before g (views v.items))) no_symbol (sym test))

    exceeds_constant : (f : ℕ) (ss : Terms) → exceeds before f (compared before ss) (app g nil) ≡ (before f g || do_meet before g ss)
    exceeds_constant f ss = constant_step f (compared before ss) ∙ ap (λ q. before f g || q) (met_any_is ss)

  module _ (x : ℕ) where
    mutual
      occurs_is : (s : Term) → (is_same s (var x) || is_greater before s (var x)) ≡ occurs x s
      occurs_is (var y) = or-false (nat_eq y x) ∙ eq_turned x y
      occurs_is (app h ss) = occurs_in_is ss

      occurs_in_is : (ss : Terms) → reaches (compared before ss) (var x) ≡ occurs_in x ss
      occurs_in_is nil = refl
      occurs_in_is (cons s ss) = sym (or_assoc (is_same s (var x)) (is_greater before s (var x)) (reaches (compared before ss) (var x))) ∙ ap₂ (λ p q. p || q) (occurs_is s) (occurs_in_is ss)

  module _ (f : ℕ) (args : List code.Term) (t : code.Term) (b : Bool) where
    pub from_variable : (x : ℕ) → t ≡ code.Var x → b ≡ occurs_in x (views args) → b ≡ exceeds before f (compared before (views args)) (view t)
    from_variable x is h =
        let shown : view t ≡ var x = ap view is ∙ view-Var x in subst (λ u. b ≡ exceeds before f (compared before (views args)) u) (sym shown) (h ∙ sym (occurs_in_is x (views args)))

    pub from_constant : (g : ℕ) (others : Vec code.Term Global) → t ≡ code.Fun g others → length others.items ≡ 0 → b ≡ (before f g || do_meet before g (views args))
        → b ≡ exceeds before f (compared before (views args)) (view t)
    from_constant g others is none h =
        let shown : view t ≡ app g nil = ap view is ∙ view-Fun g others ∙ ap (λ us. app g (views us)) (nil_from_length others.items none) in
        subst (λ u. b ≡ exceeds before f (compared before (views args)) u) (sym shown) (h ∙ sym (exceeds_constant g f (views args)))

  -- what is known of one constant holds for those behind it
  module _ (transitive : (f g h : ℕ) → before f g ≡ true → before g h ≡ true → before f h ≡ true) (c g : ℕ) (ordered : before c g ≡ true) where
    met_here : (h : ℕ) (ss : Terms) → (do_meet before c ss ≡ true → do_meet before g ss ≡ true) → meets before c (app h ss) ≡ true → meets before g (app h ss) ≡ true
    met_here h ss below e = go (or_cases (before h c) ((nat_eq h c && nat_eq (count ss) 0) || do_meet before c ss) e)
      where
        other : ((nat_eq h c && nat_eq (count ss) 0) ≡ true) ⊎ (do_meet before c ss ≡ true) → meets before g (app h ss) ≡ true
        other (inl same) = or_left (before h g) _ (subst (λ k. before k g ≡ true) (sym (eqb-true h c (and_parts (nat_eq h c) (nat_eq (count ss) 0) same).0)) ordered)
        other (inr met) = or_right (before h g) _ (or_right (nat_eq h g && nat_eq (count ss) 0) (do_meet before g ss) (below met))

        go : (before h c ≡ true) ⊎ (((nat_eq h c && nat_eq (count ss) 0) || do_meet before c ss) ≡ true) → meets before g (app h ss) ≡ true
        go (inl d) = or_left (before h g) _ (transitive h c g d ordered)
        go (inr d) = other (or_cases (nat_eq h c && nat_eq (count ss) 0) (do_meet before c ss) d)

    either : (a b p q : Bool) → (a ≡ true → p ≡ true) → (b ≡ true → q ≡ true) → (a || b) ≡ true → (p || q) ≡ true
    either a b p q first second e = go (or_cases a b e)
      where
        go : (a ≡ true) ⊎ (b ≡ true) → (p || q) ≡ true
        go (inl d) = or_left p q (first d)
        go (inr d) = or_right p q (second d)

    mutual
      meets_behind : (s : Term) → meets before c s ≡ true → meets before g s ≡ true
      meets_behind (var x) e = e
      meets_behind (app h ss) e = met_here h ss (λ d. meet_behind ss d) e

      meet_behind : (ss : Terms) → do_meet before c ss ≡ true → do_meet before g ss ≡ true
      meet_behind nil e = e
      meet_behind (cons s ss) e = either (meets before c s) (do_meet before c ss) (meets before g s) (do_meet before g ss) (λ d. meets_behind s d) (λ d. meet_behind ss d) e

module _ (places : List ℕ) where
  before_transitive : (f g h : ℕ) → before_by places f g ≡ true → before_by places g h ≡ true → before_by places f h ≡ true
  before_transitive f g h d e =
      let first = and_parts (nat_lt 0 (place_in places f)) (nat_lt (place_in places f) (place_in places g)) d in
      let second = and_parts (nat_lt 0 (place_in places g)) (nat_lt (place_in places g) (place_in places h)) e in
      let less = ltb-true (place_in places f) (place_in places g) first.1 in
      let more = ltb-true (place_in places g) (place_in places h) second.1 in
      and_from (nat_lt 0 (place_in places f)) (nat_lt (place_in places f) (place_in places h)) first.0 (lt-ltb (place_in places f) (place_in places h) (omega (arith, less, more)))

  covered : (ss : Terms) (known : Option ℕ) (g : ℕ) → covers (before_by places) known g ≡ true → IsKnown (before_by places) ss known → do_meet (before_by places) g ss ≡ true
  covered ss None g e k = absurd (false≢true e)
  covered ss (Some c) g e k = go (or_cases (nat_eq c g) (before_by places c g) e)
    where
      go : (nat_eq c g ≡ true) ⊎ (before_by places c g ≡ true) → do_meet (before_by places) g ss ≡ true
      go (inl d) = subst (λ h. do_meet (before_by places) h ss ≡ true) (eqb-true c g d) k
      go (inr d) = meet_behind (before_by places) before_transitive c g d ss k

  pub above_covered : (f : ℕ) (ss : Terms) (known : Option ℕ) (g : ℕ) → true ≡ covers (before_by places) known g → IsKnown (before_by places) ss known
      → true ≡ (before_by places f g || do_meet (before_by places) g ss)
  above_covered f ss known g e k = sym (or_right (before_by places f g) (do_meet (before_by places) g ss) (covered ss known g (sym e) k))
