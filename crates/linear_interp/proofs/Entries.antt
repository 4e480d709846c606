-- The numbers of a symbol, in the entries of a program.
use Rattle.std.proofs.Common.{◌≡◌, ℕ, suc, ◌+◌, ◌<◌, ◌≤◌, refl, sym, ap, ◌∙◌, subst, List, [], ◌∷◌, map, length, get_or, zero, slice_get, option_map, unwrap_or, Vec, Global, arith}
use Rattle.std.proofs.lemmas.List.{length-map}
use Rattle.std.proofs.lemmas.Option.{slice_get-map, slice_get_read, unwrap_or-slice_get}
use Rattle.rewriting.specs.Terms as math
use Rattle.rewriting.specs.Terms.{app}
use Rattle.term_core.specs.View.{view, views}
use Rattle.term_core.specs.declared.terms.Term.{Term, Fun}
use Rattle.term_core.proofs.Views.{view-Fun}
use Rattle.term_core.proofs.Over.{count-views}
use Rattle.cert_model.specs.CertificateView.{linear_entry_view}
use Rattle.cert_model.specs.declared.model.LinearEntry.{LinearEntry}
use Rattle.interpretations.specs.Linear.{Interpretation, numbers_of, number_of}
use Rattle.linear_interp.specs.Parts.{IsReady, AreReady}

pub numbers_at : (entries : List LinearEntry) (f : ℕ) (e : LinearEntry) → f < length entries → e ≡ get_or entries f e → numbers_of (map linear_entry_view entries) f ≡ e.coeffs.items
numbers_at entries f e lt is =
    ap (λ o. unwrap_or (option_map (λ e. e.coefficients) o) []) (slice_get-map linear_entry_view entries f ∙ ap (option_map linear_entry_view) (slice_get_read entries (length entries) f e refl lt is))

pub number-index : (es : Interpretation) (f k : ℕ) (numbers : List ℕ) → numbers_of es f ≡ numbers → number_of es f k ≡ get_or numbers k 0
number-index es f k numbers e = ap (λ xs. unwrap_or (slice_get xs k) 0) e ∙ unwrap_or-slice_get numbers k 0

-- what a ready term has at its root
pub record Ready (entries : List LinearEntry) (n f : ℕ) (args : List Term) : Type 0 where
  pub within : f < length entries
  pub counted : length (numbers_of (map linear_entry_view entries) f) ≡ suc (length args)
  pub small : (k : ℕ) → number_of (map linear_entry_view entries) f k ≤ 1000000
  pub args_ready : AreReady (map linear_entry_view entries) n (views args)

pub ready_root : (entries : List LinearEntry) (n f : ℕ) (t : Term) (v : Vec Term Global) → t ≡ Fun f v → IsReady (map linear_entry_view entries) n (view t) → Ready entries n f v.items
ready_root entries n f t v is h =
    let shown : view t ≡ app f (views v.items) = ap view is ∙ view-Fun f v in
    let r = subst (IsReady (map linear_entry_view entries) n) shown h in
    let many = length-map entries linear_entry_view in
    let within = r.0 in
    record { within = omega (arith, many, within); counted = r.1 ∙ ap suc (count-views v.items); small = r.2; args_ready = r.3 }

pub numbers_small : (entries : List LinearEntry) (n f : ℕ) (args : List Term) (e : LinearEntry) → Ready entries n f args → e ≡ get_or entries f e → (k : ℕ) → get_or e.coeffs.items k 0 ≤ 1000000
numbers_small entries n f args e r is k =
    let small = r.small k in
    let same = number-index (map linear_entry_view entries) f k e.coeffs.items (numbers_at entries f e r.within is) in
    omega (arith, small, same)

pub numbers_counted : (entries : List LinearEntry) (n f : ℕ) (args : List Term) (e : LinearEntry) → Ready entries n f args → e ≡ get_or entries f e → length e.coeffs.items ≡ length args + 1
numbers_counted entries n f args e r is =
    let many = r.counted in
    let same = ap length (numbers_at entries f e r.within is) in
    omega (arith, many, same)

-- the call for a symbol's arguments
pub record Call (entries : List LinearEntry) (n : ℕ) (t : Term) (f : ℕ) (numbers : List ℕ) (args : List Term) : Type 0 where
  pub shown : view t ≡ app f (views args)
  pub counted : length numbers ≡ length args + 1
  pub small : (k : ℕ) → get_or numbers k 0 ≤ 1000000
  pub args_ready : AreReady (map linear_entry_view entries) n (views args)
  pub numbers_are : numbers_of (map linear_entry_view entries) f ≡ numbers
  pub falls : math.size (view t) ≡ suc (math.size_all (views args))

call_at : (entries : List LinearEntry) (n f : ℕ) (t : Term) (v : Vec Term Global) (e : LinearEntry) → t ≡ Fun f v → IsReady (map linear_entry_view entries) n (view t)
    → e ≡ get_or entries f e → Call entries n t f e.coeffs.items v.items
call_at entries n f t v e is h at =
    let r = ready_root entries n f t v is h in
    let shown : view t ≡ app f (views v.items) = ap view is ∙ view-Fun f v in
    record {
      shown = shown;
      counted = numbers_counted entries n f v.items e r at;
      small = numbers_small entries n f v.items e r at;
      args_ready = r.args_ready;
      numbers_are = numbers_at entries f e r.within at;
      falls = ap math.size shown;
    }

pub call : (entries : List LinearEntry) (n f : ℕ) (t : Term) (v : Vec Term Global) (e : LinearEntry) (numbers : List ℕ) (args : List Term) → t ≡ Fun f v
    → IsReady (map linear_entry_view entries) n (view t) → e ≡ get_or entries f e → numbers ≡ e.coeffs.items → args ≡ v.items
    → Call entries n t f numbers args
call entries n f t v e numbers args is h at a b =
    subst (λ ns. Call entries n t f ns args) (sym a) (subst (Call entries n t f e.coeffs.items) (sym b) (call_at entries n f t v e is h at))

-- an argument of ready ones
pub ready_at : (es : Interpretation) (n : ℕ) (args : List Term) (k : ℕ) (t : Term) → AreReady es n (views args) → k < length args → t ≡ get_or args k t → IsReady es n (view t)
ready_at es n [] k t h lt is = absurd (omega (arith, lt))
ready_at es n (a ∷ args) zero t h lt is = subst (λ z. IsReady es n (view z)) (sym is) h.0
ready_at es n (a ∷ args) (suc k) t h lt is = ready_at es n args k t h.1 (omega (arith, lt)) is
