-- A text that is written part by part, and what is left of it.
use Rattle.std.proofs.Common.{◌≡◌, ◌≤◌, ◌<◌, ◌+◌, ◌-◌, ℕ, suc, List, [], ◌∷◌, ◌++◌, get_or, take, drop, length, subst, sym, ◌∙◌, ap, arith, add-one, drop-cons, append_assoc}
use Rattle.std.proofs.lemmas.List.{take_all, drop_all}
use Rattle.cops_write.specs.Grows.{Grows}

-- what is written behind these bytes makes the whole text, where the rest of it follows
pub record Leads (start whole now left : List ℕ) : Type 0 where
  pub on : now ++ left ≡ start ++ whole

pub both : {a b c x y : List ℕ} → Grows a x b → Grows b y c → Grows a (x ++ y) c
both {a} {b} {c} {x} {y} h k = record { by = k.by ∙ ap (λ (w : List ℕ). w ++ y) h.by ∙ append_assoc a x y }

pub begins : {a b x : List ℕ} (left : List ℕ) → Grows a x b → Leads a (x ++ left) b left
begins {a} {b} {x} left h = record { on = ap (λ (w : List ℕ). w ++ left) h.by ∙ append_assoc a x left }

pub goes_on : {start whole now next x : List ℕ} (left : List ℕ) → Leads start whole now (x ++ left) → Grows now x next → Leads start whole next left
goes_on {start} {whole} {now} {next} {x} left l h = record { on = ap (λ (w : List ℕ). w ++ left) h.by ∙ append_assoc now x left ∙ l.on }

pub ends : {start whole now next x : List ℕ} → Leads start whole now x → Grows now x next → Grows start whole next
ends {start} {whole} {now} {next} {x} l h = record { by = h.by ∙ l.on }

pub as_text : {a b x : List ℕ} (y : List ℕ) → y ≡ x → Grows a x b → Grows a y b
as_text {a} {b} {x} y e h = record { by = h.by ∙ ap (λ (w : List ℕ). a ++ w) (sym e) }

-- the next of a list's members; the text of those behind it may differ
pub next_of : {A : Type 0} (text after : List A → List ℕ) (one : A → List ℕ) → ((x : A) (xs : List A) → text (x ∷ xs) ≡ one x ++ after xs)
    → {start whole now next : List ℕ} (xs : List A) (i : ℕ) (x : A) → i < length xs → x ≡ get_or xs i x
    → Leads start whole now (text (drop i xs)) → Grows now (one x) next → Leads start whole next (after (drop (i + 1) xs))
next_of {A} text after one unfolds {start} {whole} {now} {next} xs i x lt is l h =
    let y = get_or xs i x in
    let shown : text (drop i xs) ≡ one x ++ after (drop (i + 1) xs) = rw add-one (ap text (drop-cons xs i x lt) ∙ ap (λ (z : A). text (z ∷ drop (suc i) xs)) (sym is) ∙ unfolds x (drop (suc i) xs)) in
    goes_on (after (drop (i + 1) xs)) (subst (λ (w : List ℕ). Leads start whole now w) shown l) h

-- no member is left
pub none_left : {A : Type 0} (text : List A → List ℕ) {start whole now : List ℕ} (xs : List A) (i : ℕ) → length xs ≤ i → Leads start whole now (text (drop i xs)) → Leads start whole now (text [])
none_left {A} text {start} {whole} {now} xs i le l = subst (λ (w : List A). Leads start whole now (text w)) (drop_all i xs le) l

-- the first of some members, and the others
pub first_and_others : {A : Type 0} (xs : List A) (x : A) → 1 ≤ length xs → x ≡ get_or xs 0 x → xs ≡ x ∷ take (length xs - 1) (drop 1 xs)
first_and_others [] x some is = absurd (omega arith)
first_and_others (y ∷ ys) x some is = ap (λ zs. y ∷ zs) (sym (take_all (length (y ∷ ys) - 1) ys (omega arith))) ∙ ap (λ z. z ∷ take (length (y ∷ ys) - 1) ys) (sym is)
