-- Runs of the reader of files, with blocks that may repeat or may not.
use Rattle.std.proofs.Common.{◌≡◌, ℕ, suc, ◌+◌, Bool, true, false, ◌&&◌, if◌then◌else◌, List, [], ◌∷◌, ◌++◌, length, Option, Some, None, Result, Ok, Err, refl, sym, ap, ◌∙◌, arith}
use Rattle.std.specs.Option.{option_and_then}
use Rattle.std.proofs.lemmas.Option.{same_Some}
use Rattle.general_lemmas.proofs.Options.{bound}
use Rattle.file_text.specs.Grammar.{Word}
use Rattle.file_text.specs.Refusals.{SyntaxCause, repeated_block}
use Rattle.file_text.proofs.Machine.{State, step_any, repeats, step, numbered, run}

abbrev pub taken : Result State SyntaxCause → Option State
taken (Ok s) = Some s
taken (Err c) = None

-- a step; strict says whether no block may repeat
abbrev pub goes_one : Bool → State → Word → Option State
goes_one strict s w = if repeats s w && strict then None else taken (step_any s w)

abbrev pub goes : Bool → State → List Word → Option State
goes strict s [] = Some s
goes strict s (w ∷ ws) = option_and_then (λ t. goes strict t ws) (goes_one strict s w)

goes_on : (k : Bool) (a b : List Word) (o : Option State) → ((t : State) → goes k t (a ++ b) ≡ option_and_then (λ t. goes k t b) (goes k t a))
    → option_and_then (λ t. goes k t (a ++ b)) o ≡ option_and_then (λ t. goes k t b) (option_and_then (λ t. goes k t a) o)
goes_on k a b None each = refl
goes_on k a b (Some t) each = each t

goes-append : (k : Bool) (a b : List Word) (s : State) → goes k s (a ++ b) ≡ option_and_then (λ t. goes k t b) (goes k s a)
goes-append k [] b s = refl
goes-append k (w ∷ a) b s = goes_on k a b (goes_one k s w) (λ t. goes-append k a b t)

pub goes_then : (k : Bool) (a b : List Word) (s t : State) → goes k s a ≡ Some t → goes k s (a ++ b) ≡ goes k t b
goes_then k a b s t e = goes-append k a b s ∙ ap (option_and_then (λ (t : State). goes k t b)) e

pub goes_step : (k : Bool) (s t : State) (w : Word) (ws : List Word) → goes_one k s w ≡ Some t → goes k s (w ∷ ws) ≡ goes k t ws
goes_step k s t w ws e = ap (option_and_then (λ (t : State). goes k t ws)) e

-- a run goes over each front
pub goes_front : (k : Bool) (a b : List Word) (s e : State) → goes k s (a ++ b) ≡ Some e → (t : State) × (goes k s a ≡ Some t) × (goes k t b ≡ Some e)
goes_front k a b s e h = bound (λ (t : State). goes k t b) (goes k s a) e (sym (goes-append k a b s) ∙ h)

-- and takes the word behind it
pub goes_word : (k : Bool) (w : Word) (ws : List Word) (s e : State) → goes k s (w ∷ ws) ≡ Some e → (t : State) × (goes_one k s w ≡ Some t) × (goes k t ws ≡ Some e)
goes_word k w ws s e h = bound (λ (t : State). goes k t ws) (goes_one k s w) e h

pub goes_one_end : (k : Bool) (w : Word) (s t : State) → goes_one k s w ≡ Some t → goes k s (w ∷ []) ≡ Some t
goes_one_end k w s t e = goes_step k s t w [] e

-- ---- what goes without repeats goes with them

loose : (b : Bool) (o : Option State) (t : State) → (if b && true then None else o) ≡ Some t → (if b && false then None else o) ≡ Some t
loose true o t e = absurd cc
loose false o t e = e

pub one_any : (s t : State) (w : Word) → goes_one true s w ≡ Some t → goes_one false s w ≡ Some t
one_any s t w e = loose (repeats s w) (taken (step_any s w)) t e

pub goes_any : (ws : List Word) (s t : State) → goes true s ws ≡ Some t → goes false s ws ≡ Some t
goes_any [] s t e = e
goes_any (w ∷ ws) s t e = let h = goes_word true w ws s t e in goes_step false s h.0 w ws (one_any s h.0 w h.1) ∙ goes_any ws h.0 t h.2

-- ---- the step of the machine

taken_ok : (b : Bool) (r : Result State SyntaxCause) (t : State) → (if b then Err repeated_block else r) ≡ Ok t → (if b && true then None else taken r) ≡ Some t
taken_ok true r t e = absurd cc
taken_ok false r t e = ap taken e

ok_taken : (b : Bool) (r : Result State SyntaxCause) (t : State) → (if b && true then None else taken r) ≡ Some t → (if b then Err repeated_block else r) ≡ Ok t
ok_taken true r t e = absurd cc
ok_taken false (Ok s) t e = ap (λ (s : State). Ok s) (same_Some s t e)
ok_taken false (Err c) t e = absurd cc

pub step_goes : (s t : State) (w : Word) → step s w ≡ Ok t → goes_one true s w ≡ Some t
step_goes s t w e = taken_ok (repeats s w) (step_any s w) t e

pub goes_step_ok : (s t : State) (w : Word) → goes_one true s w ≡ Some t → step s w ≡ Ok t
goes_step_ok s t w e = ok_taken (repeats s w) (step_any s w) t e

-- ---- the run of the machine

end_is : (n : ℕ) (s t : State) → run n s [] ≡ Ok t → s ≡ t
end_is n s t e = cc

abbrev After : ℕ → State → List Word → Result State (SyntaxCause × ℕ) → Result State SyntaxCause → Type 0
After n s ws answer (Ok u) = run (suc n) u ws ≡ answer
After n s ws answer (Err c) = Err (c, n) ≡ answer

after_of : (n : ℕ) (s : State) (ws : List Word) (answer : Result State (SyntaxCause × ℕ)) (r : Result State SyntaxCause) → numbered n (λ t. run (suc n) t ws) r ≡ answer → After n s ws answer r
after_of n s ws answer (Ok u) e = e
after_of n s ws answer (Err c) e = e

pub run_goes : (n : ℕ) (ws : List Word) (s t : State) → run n s ws ≡ Ok t → goes true s ws ≡ Some t
run_goes n [] s t e = ap (λ (s : State). Some s) (end_is n s t e)
run_goes n (w ∷ ws) s t e = later (step s w) refl (after_of n s ws (Ok t) (step s w) e) (λ u h. run_goes (suc n) ws u t h)
  where
    later : (r : Result State SyntaxCause) → step s w ≡ r → After n s ws (Ok t) r → ((u : State) → run (suc n) u ws ≡ Ok t → goes true u ws ≡ Some t) → goes true s (w ∷ ws) ≡ Some t
    later (Ok u) is e each = goes_step true s u w ws (step_goes s u w is) ∙ each u e
    later (Err c) is e each = absurd cc

pub goes_run : (n : ℕ) (ws : List Word) (s t : State) → goes true s ws ≡ Some t → run n s ws ≡ Ok t
goes_run n [] s t e = ap (λ (s : State). Ok s) (same_Some s t e)
goes_run n (w ∷ ws) s t e = let h = goes_word true w ws s t e in ap (numbered n (λ t. run (suc n) t ws)) (goes_step_ok s h.0 w h.1) ∙ goes_run (suc n) ws h.0 t h.2

-- a word is refused, with this number
pub record Stops (n : ℕ) (s : State) (ws : List Word) (c : SyntaxCause) (m : ℕ) : Type 0 where
  pub front : List Word
  pub refused : Word
  pub rest : List Word
  pub last : State
  pub split : ws ≡ front ++ refused ∷ rest
  pub before : goes true s front ≡ Some last
  pub step : step last refused ≡ Err c
  pub number : m ≡ n + length front

pair_is : (c d : SyntaxCause) (n m : ℕ) → numbered n (λ (s : State). Ok s) (Err c) ≡ Err (d, m) → (c ≡ d) × (n ≡ m)
pair_is c d n m e = let both : ◌≡◌ {A = SyntaxCause × ℕ} (c, n) (d, m) = cc in (ap (λ p. p.0) both, ap (λ p. p.1) both)

stops_later : (n : ℕ) (s u : State) (w : Word) (ws : List Word) (c : SyntaxCause) (m : ℕ) → step s w ≡ Ok u → Stops (suc n) u ws c m → Stops n s (w ∷ ws) c m
stops_later n s u w ws c m e h =
    let number = h.number in
    record {
      front = w ∷ h.front;
      refused = h.refused;
      rest = h.rest;
      last = h.last;
      split = ap (λ (vs : List Word). w ∷ vs) h.split;
      before = goes_step true s u w h.front (step_goes s u w e) ∙ h.before;
      step = h.step;
      number = omega arith;
    }

pub run_stops : (n : ℕ) (ws : List Word) (s : State) (c : SyntaxCause) (m : ℕ) → run n s ws ≡ Err (c, m) → Stops n s ws c m
run_stops n [] s c m e = absurd cc
run_stops n (w ∷ ws) s c m e = later (step s w) refl (after_of n s ws (Err (c, m)) (step s w) e) (λ u h. run_stops (suc n) ws u c m h)
  where
    later : (r : Result State SyntaxCause) → step s w ≡ r → After n s ws (Err (c, m)) r → ((u : State) → run (suc n) u ws ≡ Err (c, m) → Stops (suc n) u ws c m) → Stops n s (w ∷ ws) c m
    later (Ok u) is e each = stops_later n s u w ws c m is (each u e)
    later (Err d) is e each =
        let same = pair_is d c n m e in
        let number = same.1 in
        record { front = []; refused = w; rest = ws; last = s; split = refl; before = refl; step = is ∙ ap (λ (x : SyntaxCause). Err x) same.0; number = omega arith }

pub stop_run : (n : ℕ) (front : List Word) (w : Word) (rest : List Word) (s t : State) (c : SyntaxCause) → goes true s front ≡ Some t → step t w ≡ Err c
    → run n s (front ++ w ∷ rest) ≡ Err (c, n + length front)
stop_run n [] w rest s t c e is =
    ap (λ (u : State). numbered n (λ v. run (suc n) v rest) (step u w)) (same_Some s t e) ∙ ap (numbered n (λ v. run (suc n) v rest)) is
    ∙ (let number : n ≡ n + 0 = omega arith in ap (λ (m : ℕ). Err (c, m)) number)
stop_run n (v ∷ front) w rest s t c e is =
    let h = goes_word true v front s t e in
    let number : suc n + length front ≡ n + suc (length front) = omega arith in
    ap (numbered n (λ t. run (suc n) t (front ++ w ∷ rest))) (goes_step_ok s h.0 v h.1) ∙ stop_run (suc n) front w rest h.0 t c h.2 is ∙ ap (λ (m : ℕ). Err (c, m)) number
