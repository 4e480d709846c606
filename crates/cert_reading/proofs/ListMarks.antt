-- Lists with one item more.
use Rattle.cert_reading.proofs.Prelude.{◌≡◌, List, [], ◌∷◌, ◌++◌, codes, refl, sym, ap, append-nil, PairEntry, Simplification, dropped, inlined, Automaton, Version, Uses, Naming}
use Rattle.cert_reading.proofs.Prelude.{IsUsed, used_by, used_by_evidence, used_by_pairs, used_by_steps, Mark, fixed, number, simplifications_marks, infeasibility_marks, EvidenceUses, PairsUse}
use Rattle.cert_reading.proofs.Prelude.{StepsUse}
use Rattle.cert_laws.proofs.PassEvidence.{AllOf, all_of}

-- what is true of each item of a list is true with one more
pub more_of : {B : Type 0} (P : List B → Type 0) → ((x : B) (xs ys : List B) → (P xs → P ys) → P (x ∷ xs) → P (x ∷ ys)) → (done : List B) (b : B) → P (b ∷ []) → P done → P (done ++ b ∷ [])
more_of P step [] b one h = one
more_of P step (x ∷ done) b one h = step x done (done ++ b ∷ []) (more_of P step done b one) h

pub all_both : {A : Type 0} (P : A → Type 0) (a b : List A) → AllOf P a → AllOf P b → AllOf P (a ++ b)
all_both P [] b h k = k
all_both P (x ∷ a) b h k = (h.0, all_both P a b h.1 k)

-- what is used of others behind these
pub all_behind : {A : Type 0} (P : A → Type 0) (a b c : List A) → (AllOf P b → AllOf P c) → AllOf P (a ++ b) → AllOf P (a ++ c)
all_behind P a b c g h = let parts = all_of P a b h in all_both P a c parts.0 (g parts.1)

pub pairs_use : (v : Version) (all : List Automaton) (ps : List PairEntry) (p : PairEntry) → PairsUse v all ps → EvidenceUses v all p.evidence → PairsUse v all (ps ++ p ∷ [])
pairs_use v all ps p h k = more_of (PairsUse v all) (λ x xs ys. all_behind (IsUsed v all) (used_by_evidence x.evidence) (used_by_pairs xs) (used_by_pairs ys)) ps p (rw append-nil k) h

-- steps that simplify the system
pub steps_first : (u : Naming) (w : Uses) (s : Simplification) (ss : List Simplification) → simplifications_marks u w (s ∷ ss) ≡ simplifications_marks u w (s ∷ []) ++ simplifications_marks u w ss
steps_first u w (dropped rule e) ss =
    ap (λ (ms : List Mark). ms ++ simplifications_marks u w ss) (sym (append-nil (fixed (codes "drop ") ∷ number rule ∷ fixed (codes " ") ∷ infeasibility_marks u w e)))
steps_first u w (inlined rule condition) ss = refl

pub steps_more : (v : Version) (all : List Automaton) (s : Simplification) (xs ys : List Simplification) → (StepsUse v all xs → StepsUse v all ys) → StepsUse v all (s ∷ xs) → StepsUse v all (s ∷ ys)
steps_more v all (dropped rule e) xs ys g p = all_behind (IsUsed v all) (used_by e) (used_by_steps xs) (used_by_steps ys) g p
steps_more v all (inlined rule condition) xs ys g p = g p
