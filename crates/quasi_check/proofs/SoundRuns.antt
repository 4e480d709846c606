-- The unifier of a run between terms over the symbols gives such terms.
use Rattle.std.proofs.Common.{Bool, true, false, nat_eq, if◌then◌else◌, ℕ, List, [], sym, subst}
use Rattle.rewriting.specs.Prelude.{replacing, append}
use Rattle.rewriting.proofs.Common.{Term, var, app, Terms, nil, cons, Signature, IsOver, AreOver, AreValuesOver}
use Rattle.rewriting.proofs.Over.{IsOver-apply}
use Rattle.unifier_run.specs.Run.{Binding, value, extended, Binds, HaveArguments, goes_on, unifier, Takes, equal_sides, binding, arguments, Runs, no_equation}
use Rattle.unifier_run.specs.Run.{last_equation, next_equation}
use Rattle.unifier_run.proofs.Values.{value-extended}
use Rattle.unifier_run.proofs.General.{ends_clash_or_large}

either_over : (ar : Signature) (k : Bool) (t u : Term) → IsOver ar t → IsOver ar u → IsOver ar (if k then t else u)
either_over ar true t u h o = h
either_over ar false t u h o = o

extended_over : (ar : Signature) (b : List Binding) (x : ℕ) (v : Term) → AreValuesOver ar (value b) → IsOver ar v → AreValuesOver ar (value (extended b x v))
extended_over ar b x v values over y =
    subst (IsOver ar) (sym (value-extended b x v y)) (IsOver-apply ar (replacing x v) (value b y) (λ z. either_over ar (nat_eq z x) v (var z) over tt) (values y))

bound_over : (ar : Signature) (l r : Term) (x : ℕ) (v : Term) → Binds l r x v → IsOver ar l → IsOver ar r → IsOver ar v
bound_over ar (var y) r x v (e, h) left right = subst (IsOver ar) (sym h) right
bound_over ar (app f ts) (var y) x v (e, h) left right = subst (IsOver ar) (sym h) left
bound_over ar (app f ts) (app g us) x v h left right = absurd h

append_over : (ar : Signature) (ts us : Terms) → AreOver ar ts → AreOver ar us → AreOver ar (append ts us)
append_over ar nil us h o = o
append_over ar (cons t ts) us (h, hs) o = (h, append_over ar ts us hs o)

-- what a turn goes on with is over the symbols
record TurnOver (ar : Signature) (c : List Binding) (xs ys : Terms) : Type 0 where
  values : AreValuesOver ar (value c)
  left : AreOver ar xs
  right : AreOver ar ys

arguments_over : (ar : Signature) (b : List Binding) (l r : Term) (xs ys : Terms) → HaveArguments l r xs ys → AreValuesOver ar (value b) → IsOver ar l → IsOver ar r → TurnOver ar b xs ys
arguments_over ar b (var y) r xs ys h values left right = absurd h
arguments_over ar b (app f ts) (var y) xs ys h values left right = absurd h
arguments_over ar b (app f ts) (app g us) xs ys (e, c, hx, hy) values left right =
    record { values = values; left = subst (AreOver ar) (sym hx) left.1; right = subst (AreOver ar) (sym hy) right.1 }

takes_over : (ar : Signature) (b c : List Binding) (l r : Term) (xs ys : Terms) → Takes b l r (goes_on c xs ys) → AreValuesOver ar (value b) → IsOver ar l → IsOver ar r → TurnOver ar c xs ys
takes_over ar b c l r xs ys (equal_sides f e) values left right = record { values = values; left = tt; right = tt }
takes_over ar b c l r xs ys (binding f n x v h o d e k) values left right =
    record { values = subst (λ z. AreValuesOver ar (value z)) (sym e) (extended_over ar b x v values (bound_over ar l r x v h left right)); left = tt; right = tt }
takes_over ar b c l r xs ys (arguments f n us vs h) values left right = arguments_over ar b l r xs ys h values left right

runs_over : (ar : Signature) {b : List Binding} {ts us : Terms} {m : List Binding} → Runs b ts us (unifier m) → AreValuesOver ar (value b) → AreOver ar ts → AreOver ar us → AreValuesOver ar (value m)
runs_over ar no_equation values left right = values
runs_over ar (last_equation k) values left right = absurd (ends_clash_or_large _ _ _ _ k)
runs_over ar (next_equation {b = b} {c = c} {t = t} {u = u} {ts = ts} {us = us} {xs = xs} {ys = ys} k r) values left right =
    let turn = takes_over ar b c _ _ xs ys k values (IsOver-apply ar (value b) t values left.0) (IsOver-apply ar (value b) u values right.0) in
    runs_over ar r turn.values (append_over ar xs ts turn.left left.1) (append_over ar ys us turn.right right.1)

pub unifier_over : (ar : Signature) (ts us : Terms) (m : List Binding) → Runs [] ts us (unifier m) → AreOver ar ts → AreOver ar us → AreValuesOver ar (value m)
unifier_over ar ts us m r left right = runs_over ar r (λ x. tt) left right
