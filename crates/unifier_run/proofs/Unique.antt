-- Each run has at most one outcome.
use Rattle.std.proofs.Common.{ℕ, ◌≡◌, inl, inr, true, false, refl, sym, ap, ap₂, ◌∙◌, subst, subst₂, List}
use Rattle.rewriting.specs.Prelude.{Term, var, app, Terms, nil, count, occurs, append}
use Rattle.unifier_run.specs.Run.{Binding, extended, Binds, DoAllFit, DoRootsDiffer, HaveArguments, Outcome, Turn, ends, goes_on, Takes, side_too_large, equal_sides, occurs_inside}
use Rattle.unifier_run.specs.Run.{binding, binding_too_large, roots_differ, arguments, Runs, no_equation, last_equation, next_equation}

binds_or_arguments : (l r : Term) (x : ℕ) (v : Term) (xs ys : Terms) → Binds l r x v → HaveArguments l r xs ys → ⊥
binds_or_arguments (var y) r x v xs ys h k = absurd k
binds_or_arguments (app f ts) (var y) x v xs ys h k = absurd k
binds_or_arguments (app f ts) (app g us) x v xs ys h k = absurd h

binds_or_differs : (l r : Term) (x : ℕ) (v : Term) → Binds l r x v → DoRootsDiffer l r → ⊥
binds_or_differs (var y) r x v h k = absurd k
binds_or_differs (app f ts) (var y) x v h k = absurd k
binds_or_differs (app f ts) (app g us) x v h k = absurd h

arguments_or_differs : (l r : Term) (xs ys : Terms) → HaveArguments l r xs ys → DoRootsDiffer l r → ⊥
arguments_or_differs (var y) r xs ys h k = absurd k
arguments_or_differs (app f ts) (var y) xs ys h k = absurd k
arguments_or_differs (app f ts) (app g us) xs ys (e, c, hx, hy) (inl k) = k e
arguments_or_differs (app f ts) (app g us) xs ys (e, c, hx, hy) (inr k) = k c

equal_or_differs : (l r : Term) → l ≡ r → DoRootsDiffer l r → ⊥
equal_or_differs (var y) r e k = absurd k
equal_or_differs (app f ts) (var y) e k = absurd k
equal_or_differs (app f ts) (app g us) e (inl k) = k (cc)
equal_or_differs (app f ts) (app g us) e (inr k) = (let same : ts ≡ us = cc in k (ap count same))

same_binding : (l r : Term) (x y : ℕ) (v w : Term) → Binds l r x v → Binds l r y w → (x ≡ y) × (v ≡ w)
same_binding (var z) r x y v w (e, h) (d, k) = (e ∙ sym d, h ∙ sym k)
same_binding (app f ts) (var z) x y v w (e, h) (d, k) = (e ∙ sym d, h ∙ sym k)
same_binding (app f ts) (app g us) x y v w h k = absurd h

same_arguments : (l r : Term) (xs ys vs ws : Terms) → HaveArguments l r xs ys → HaveArguments l r vs ws → (xs ≡ vs) × (ys ≡ ws)
same_arguments (var z) r xs ys vs ws h k = absurd h
same_arguments (app f ts) (var z) xs ys vs ws h k = absurd h
same_arguments (app f ts) (app g us) xs ys vs ws (e, c, hx, hy) (d, q, kx, ky) = (hx ∙ sym kx, hy ∙ sym ky)

same_extended : (b : List Binding) (l r : Term) (x y : ℕ) (v w : Term) → Binds l r x v → Binds l r y w → extended b x v ≡ extended b y w
same_extended b l r x y v w h k = let p = same_binding l r x y v w h k in ap₂ (extended b) p.0 p.1

same_occurs : (l r : Term) (x y : ℕ) (v w : Term) → Binds l r x v → Binds l r y w → occurs x v ≡ true → occurs y w ≡ false → ⊥
same_occurs l r x y v w h k o n = let p = same_binding l r x y v w h k in (let e : occurs x v ≡ occurs y w = ap₂ occurs p.0 p.1 in cc)

same_goes_on : (b : List Binding) (xs ys vs ws : Terms) → xs ≡ vs → ys ≡ ws → goes_on b xs ys ≡ goes_on b vs ws
same_goes_on b xs ys vs ws e h = ap₂ (goes_on b) e h

pub takes_same : (b : List Binding) (l r : Term) (S T : Turn) → Takes b l r S → Takes b l r T → S ≡ T
takes_same b l r S T (side_too_large n) (side_too_large m) = refl
takes_same b l r S T (side_too_large n) (equal_sides g k) = absurd (n g)
takes_same b l r S T (side_too_large n) (occurs_inside g m y w k p) = absurd (n g)
takes_same b l r S T (side_too_large n) (binding g m y w k p q i j) = absurd (n g)
takes_same b l r S T (side_too_large n) (binding_too_large g m y w k p j) = absurd (n g)
takes_same b l r S T (side_too_large n) (roots_differ g i) = absurd (n g)
takes_same b l r S T (side_too_large n) (arguments g m vs ws k) = absurd (n g)
takes_same b l r S T (equal_sides f e) (side_too_large m) = absurd (m f)
takes_same b l r S T (equal_sides f e) (equal_sides g k) = refl
takes_same b l r S T (equal_sides f e) (occurs_inside g m y w k p) = absurd (m e)
takes_same b l r S T (equal_sides f e) (binding g m y w k p q i j) = absurd (m e)
takes_same b l r S T (equal_sides f e) (binding_too_large g m y w k p j) = absurd (m e)
takes_same b l r S T (equal_sides f e) (roots_differ g i) = absurd (equal_or_differs l r e i)
takes_same b l r S T (equal_sides f e) (arguments g m vs ws k) = absurd (m e)
takes_same b l r S T (occurs_inside f n x v h o) (side_too_large m) = absurd (m f)
takes_same b l r S T (occurs_inside f n x v h o) (equal_sides g k) = absurd (n k)
takes_same b l r S T (occurs_inside f n x v h o) (occurs_inside g m y w k p) = refl
takes_same b l r S T (occurs_inside f n x v h o) (binding g m y w k p q i j) = absurd (same_occurs l r x y v w h k o p)
takes_same b l r S T (occurs_inside f n x v h o) (binding_too_large g m y w k p j) = absurd (same_occurs l r x y v w h k o p)
takes_same b l r S T (occurs_inside f n x v h o) (roots_differ g i) = absurd (binds_or_differs l r x v h i)
takes_same b l r S T (occurs_inside f n x v h o) (arguments g m vs ws k) = absurd (binds_or_arguments l r x v vs ws h k)
takes_same b l r S T (binding f n x v h o c e a) (side_too_large m) = absurd (m f)
takes_same b l r S T (binding f n x v h o c e a) (equal_sides g k) = absurd (n k)
takes_same b l r S T (binding f n x v h o c e a) (occurs_inside g m y w k p) = absurd (same_occurs l r y x w v k h p o)
takes_same b l r S T (binding f n x v h o c e a) (binding g m y w k p q i j) = ap (λ z. goes_on z nil nil) (e ∙ (same_extended b l r x y v w h k ∙ sym i))
takes_same b l r S T (binding f n x v h o c e a) (binding_too_large g m y w k p j) = absurd (j (subst DoAllFit (e ∙ same_extended b l r x y v w h k) a))
takes_same b l r S T (binding f n x v h o c e a) (roots_differ g i) = absurd (binds_or_differs l r x v h i)
takes_same b l r S T (binding f n x v h o c e a) (arguments g m vs ws k) = absurd (binds_or_arguments l r x v vs ws h k)
takes_same b l r S T (binding_too_large f n x v h o a) (side_too_large m) = absurd (m f)
takes_same b l r S T (binding_too_large f n x v h o a) (equal_sides g k) = absurd (n k)
takes_same b l r S T (binding_too_large f n x v h o a) (occurs_inside g m y w k p) = absurd (same_occurs l r y x w v k h p o)
takes_same b l r S T (binding_too_large f n x v h o a) (binding g m y w k p q i j) = absurd (a (subst DoAllFit (i ∙ same_extended b l r y x w v k h) j))
takes_same b l r S T (binding_too_large f n x v h o a) (binding_too_large g m y w k p j) = refl
takes_same b l r S T (binding_too_large f n x v h o a) (roots_differ g i) = absurd (binds_or_differs l r x v h i)
takes_same b l r S T (binding_too_large f n x v h o a) (arguments g m vs ws k) = absurd (binds_or_arguments l r x v vs ws h k)
takes_same b l r S T (roots_differ f d) (side_too_large m) = absurd (m f)
takes_same b l r S T (roots_differ f d) (equal_sides g k) = absurd (equal_or_differs l r k d)
takes_same b l r S T (roots_differ f d) (occurs_inside g m y w k p) = absurd (binds_or_differs l r y w k d)
takes_same b l r S T (roots_differ f d) (binding g m y w k p q i j) = absurd (binds_or_differs l r y w k d)
takes_same b l r S T (roots_differ f d) (binding_too_large g m y w k p j) = absurd (binds_or_differs l r y w k d)
takes_same b l r S T (roots_differ f d) (roots_differ g i) = refl
takes_same b l r S T (roots_differ f d) (arguments g m vs ws k) = absurd (arguments_or_differs l r vs ws k d)
takes_same b l r S T (arguments f n xs ys h) (side_too_large m) = absurd (m f)
takes_same b l r S T (arguments f n xs ys h) (equal_sides g k) = absurd (n k)
takes_same b l r S T (arguments f n xs ys h) (occurs_inside g m y w k p) = absurd (binds_or_arguments l r y w xs ys k h)
takes_same b l r S T (arguments f n xs ys h) (binding g m y w k p q i j) = absurd (binds_or_arguments l r y w xs ys k h)
takes_same b l r S T (arguments f n xs ys h) (binding_too_large g m y w k p j) = absurd (binds_or_arguments l r y w xs ys k h)
takes_same b l r S T (arguments f n xs ys h) (roots_differ g i) = absurd (arguments_or_differs l r xs ys h i)
takes_same b l r S T (arguments f n xs ys h) (arguments g m vs ws k) = (let p = same_arguments l r xs ys vs ws h k in same_goes_on b xs ys vs ws p.0 p.1)

pub ended_or_on : (o : Outcome) (c : List Binding) (xs ys : Terms) → ends o ≡ goes_on c xs ys → ⊥
ended_or_on o c xs ys e = cc

same_end : (o p : Outcome) → ends o ≡ ends p → o ≡ p
same_end o p e = cc

pub same_on : (b c : List Binding) (xs ys vs ws : Terms) → goes_on b xs ys ≡ goes_on c vs ws → (b ≡ c) × (xs ≡ vs) × (ys ≡ ws)
same_on b c xs ys vs ws e = (cc, cc, cc)

pub run_along : (b c : List Binding) (xs ys vs ws ts us : Terms) (o : Outcome) → (b ≡ c) × (xs ≡ vs) × (ys ≡ ws) → Runs c (append vs ts) (append ws us) o → Runs b (append xs ts) (append ys us) o
run_along b c xs ys vs ws ts us o (e, h, k) r =
    subst (λ z. Runs z (append xs ts) (append ys us) o) (sym e) (subst₂ (λ p q. Runs c (append p ts) (append q us) o) (sym h) (sym k) r)

pub runs_same : {b : List Binding} {ts us : Terms} {o p : Outcome} → Runs b ts us o → Runs b ts us p → o ≡ p
runs_same no_equation no_equation = refl
runs_same (last_equation {o = o} h) (last_equation {o = p} k) = same_end o p (takes_same _ _ _ _ _ h k)
runs_same (last_equation h) (next_equation k r) = absurd (ended_or_on _ _ _ _ (takes_same _ _ _ _ _ h k))
runs_same (next_equation h r) (last_equation k) = absurd (ended_or_on _ _ _ _ (takes_same _ _ _ _ _ k h))
runs_same (next_equation {b = b} {c = c} {ts = ts} {us = us} {xs = xs} {ys = ys} {o = o} h r) (next_equation {c = d} {xs = vs} {ys = ws} {o = p} k q) =
    runs_same r (run_along c d xs ys vs ws ts us p (same_on c d xs ys vs ws (takes_same b _ _ _ _ h k)) q)
