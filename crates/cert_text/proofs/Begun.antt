-- Where an opening stands, no reader stops within it.
use Rattle.cert_text.proofs.Prelude.{◌≡◌, ℕ, ◌==◌, Bool, true, false, cond, List, [], ◌∷◌, ◌++◌, length, get_or, Option, Some, None, refl, sym, subst, arith, NameTable, name_of, Version}
use Rattle.cert_text.proofs.Prelude.{first_version, second_version, Uses, in_full, by_number, version_of, CertificateCause, Naming, Mark, marks_text, answer_marks, heading_marks, Item, opening}
use Rattle.cert_text.proofs.Prelude.{nothing_shared, Moves, BeginsEntry, Opening, IsRead, IsOpened, gone_along, BeginsList, WithinOpening, IsStoppedWhere}
use Rattle.cert_openings.proofs.Opened.{gone}
use Rattle.certificates.specs.Evidence.{Automaton}
use Rattle.cert_text.proofs.Low.{last_list}
use Rattle.cert_text.proofs.Ahead.{past, later_moves, list_step}

-- ---- no reader stops within an opening that stands there

-- the version of an opening that is read
abbrev pub version_in : (names : NameTable) (bytes : List ℕ) (o : Opening) (end : ℕ) → IsRead names bytes o [] end → Version
version_in names bytes o end h = version_of (gone names bytes o [] end h).uses

never_within : (v : Version) (i : Item) (ms : List Mark) (t : List Item) (b q : List ℕ) → BeginsList v i → BeginsEntry b → Moves ms (i ∷ []) b t q → WithinOpening v t q → ⊥
never_within v i [] t b q list begins h p = p.closed i (sym h.0) list (subst BeginsEntry h.1 begins)
never_within v i (m ∷ ms) t b q list begins h p = p.early (later_moves v 1 ms (h.0 ++ []) t h.1 q h.3 (list_step v i m b h.1 h.0 list begins h.2))

pub unopened : (names : NameTable) (bytes : List ℕ) (o : Opening) (end : ℕ) (h : IsOpened names bytes o end) (t : Option (CertificateCause × ℕ)) (x : CertificateCause × ℕ) → t ≡ Some x
    → IsStoppedWhere (WithinOpening (version_in names bytes o end h.read)) names (length bytes) (opening ∷ []) bytes nothing_shared t → ⊥
unfolding gone
unopened names bytes o end h None x e s = absurd cc
unopened names bytes o end h (Some y) x e s =
    let a = gone names bytes o [] end h.read in
    let al = gone_along names bytes o [] end a in
    let there = past a (s (omega arith)) in
    never_within (version_of a.uses) al.item there.0 _ a.rest _ (last_list (name_of names) a.uses a.shared a.answer o al.item bytes a.rest al.moves al.may_end) h.begins there.1
    (s (omega arith)).place

-- ---- the first line tells the version

-- behind an answer line, if there is one
abbrev pub told_version : List ℕ → Version
told_version bytes = cond (cond (get_or bytes 0 0 == 99) (get_or bytes 7 0) (cond (get_or bytes 0 0 == 89) (get_or bytes 11 0) (get_or bytes 10 0)) == 49) first_version second_version

pub version_told : (u : Uses) (x : Naming) (bs : List Automaton) (g : Option Bool) (ms : List Mark) (r : List ℕ)
    → told_version (marks_text (answer_marks g ++ (heading_marks x u bs ++ ms)) ++ r) ≡ version_of u
version_told in_full x bs None ms r = refl
version_told in_full x bs (Some true) ms r = refl
version_told in_full x bs (Some false) ms r = refl
version_told (by_number f) x bs None ms r = refl
version_told (by_number f) x bs (Some true) ms r = refl
version_told (by_number f) x bs (Some false) ms r = refl
