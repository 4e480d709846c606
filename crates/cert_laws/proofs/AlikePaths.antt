-- The grammar is deterministic: what two paths from one stack of items spell is alike.
use Rattle.cert_laws.proofs.Prelude.{◌≡◌, inr, ℕ, true, List, [], ◌∷◌, ◌++◌, refl, sym, ◌∙◌, subst, append-nil, Mark, marks_text, Skeleton, marks_of, skeleton_text}
use Rattle.cert_laws.proofs.Prelude.{Item, opening, Lead, text, ends_lead, Alike, ended, same, parted}
use Rattle.general_lemmas.proofs.Decisions.{same_numbers}
use Rattle.cert_laws.proofs.Moves.{There, takes_goes}
use Rattle.cert_laws.proofs.Paths.{Path}
use Rattle.cert_laws.proofs.Reached.{Moves, moves_all, Meet, ahead, behind_it, meet, same_words, same_taken}
use Rattle.cert_laws.proofs.SkeletonPaths.{skeleton_path}

-- a word with nothing behind it
alone : (a : Lead) (w v : List ℕ) → w ≡ v → There a w v
alone a w v e = record { rest = []; parts = sym e ∙ sym (append-nil w); ends = ends a }
  where
    ends : (a : Lead) → ends_lead a [] ≡ true
    ends (text bytes items) = refl
    ends _ = refl

-- where the words are the same so are the leads; else no bytes go along both
pub alike_paths : (ms ns : List Mark) (s : List Item) → Path ms s [] → Path ns s [] → Alike ms ns
alike_paths [] [] s p q = ended
alike_paths [] (n ∷ ns) [] p q = absurd q
alike_paths [] (n ∷ ns) (i ∷ s) p q = absurd cc
alike_paths (m ∷ ms) ns [] p q = absurd p
alike_paths (m ∷ ms) [] (i ∷ s) p q = absurd cc
alike_paths (m ∷ ms) (n ∷ ns) (i ∷ s) p q = by (same_numbers p.1.word_of q.1.word_of) (λ e. alike_paths ms ns (q.0 ++ s) (subst (λ (x : List Item). Path ms (x ++ s) []) e p.2) q.2)
  where
    by : Dec (p.1.word_of ≡ q.1.word_of) → (p.0 ≡ q.0 → Alike ms ns) → Alike (m ∷ ms) (n ∷ ns)
    by (yes e) each =
        let one = same_taken i m n p.0 q.0 q.1.word_of p.1 q.1 (alone p.1.lead p.1.word_of q.1.word_of e) (alone q.1.lead q.1.word_of q.1.word_of refl) in
        subst (λ (x : Mark). Alike (m ∷ ms) (x ∷ ns)) one.marks (same (each one.items))
    by (no ne) each = parted (λ bytes g h. ne (same_words i m n p.0 q.0 bytes p.1 q.1 (takes_goes i m p.0 s ms bytes p.1 p.2 (inr g)) (takes_goes i n q.0 s ns bytes q.1 q.2 (inr h))))

pub alike_skeletons : (s t : Skeleton) → Alike (marks_of s) (marks_of t)
alike_skeletons s t = alike_paths (marks_of s) (marks_of t) (opening ∷ []) (skeleton_path s) (skeleton_path t)

-- and with one text they are the same
pub same_marks : (ms ns : List Mark) (s : List Item) → Path ms s [] → Path ns s [] → marks_text ms ≡ marks_text ns → ms ≡ ns
same_marks ms ns s p q e = by (meet ms ns s [] [] (marks_text ms) [] [] (moves_all ms s p) (subst (λ (b : List ℕ). Moves ns s b [] []) (sym e) (moves_all ns s q)))
  where
    by : Meet ms ns [] [] [] [] → ms ≡ ns
    by (ahead [] f h) = sym (f ∙ append-nil ms)
    by (ahead (m ∷ more) f h) = absurd h
    by (behind_it m more f h) = absurd h

pub same_skeletons : (s t : Skeleton) → skeleton_text s ≡ skeleton_text t → marks_of s ≡ marks_of t
same_skeletons s t e = same_marks (marks_of s) (marks_of t) (opening ∷ []) (skeleton_path s) (skeleton_path t) e
