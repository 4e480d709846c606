-- What a run along the marks of an opening and of entries has read, and where a run refuses a text.
use Rattle.cert_text.proofs.Prelude.{◌≡◌, ◌+◌, ◌-◌, ℕ, Bool, List, [], ◌∷◌, length, drop, Option, Some, refl, ap, ◌∙◌, arith, length-append}
use Rattle.cert_text.proofs.Prelude.{Automaton, PairEntry, NameTable, name_of, Version, IsCertificateRefused, CertificateCause, syntax, Naming, Mark}
use Rattle.cert_text.proofs.Prelude.{marks_text, Item, opening, Shared, nothing_shared, behind_marks, Opening, certificate_for, uses_with, IsReadTo, CertError, told, IsRefusedAs}
use Rattle.cert_text.proofs.Prelude.{left_at, Run, walks_text, walks_pass, walks_at, start_at, refused_at, IsPlainBy, ArePlainAutomata, CanShare, IsStoppedWhere}
use Rattle.cert_text.proofs.Prelude.{walks_named, front_found, place_of, read_marks, Place}
use Rattle.cert_words.specs.declared.error.CertError.TheVariants.{NoMemory}

-- ---- a run to the end, and one behind an opening and entries

pub run_read : {t : Shared} (v : Version) (all : List Automaton) (names : NameTable) (bytes left : List ℕ) (given : Option Bool) (o : Opening) (es : List PairEntry)
    (to : List Item) → CanShare v all → IsPlainBy v all (certificate_for o es) → ArePlainAutomata all
    → Run names (length bytes) (opening ∷ []) (λ u. read_marks u (uses_with v names all) all given o es) to bytes left nothing_shared t
    → IsReadTo names bytes o es (place_of bytes left) v (drop t.used all) left
run_read {t} v all names bytes left given o es to share p q r =
    let ms = read_marks (name_of names) (uses_with v names all) all given o es in
    let w = r.walks (omega arith) [] in
    let keeps = r.shares (omega arith) [] in
    let text = walks_text names ms _ _ w in
    let long = ap length text ∙ length-append (marks_text ms) left in
    front_found v all names bytes left given o es (place_of bytes left) t.used share p q
    (record { named = walks_named names ms _ _ w; passed = walks_pass names ms _ _ w; found = r.found }) keeps.0 (ap (λ (z : Shared). z.used) keeps.1) text
    (let e : place_of bytes left + length left ≡ length bytes = omega (arith, long) in e)

-- ---- refusals

-- what is told where a reader stops is the refusal of the text
pub refused_as : (P : Place) (names : NameTable) (bytes : List ℕ) (e : CertError) → {sa : Shared} → sa ≡ nothing_shared
    → IsStoppedWhere P names (length bytes) (opening ∷ []) bytes sa (told e) → IsRefusedAs names bytes e
refused_as P names bytes NoMemory fresh s = tt
refused_as P names bytes _ fresh s =
    let stop = (rw fresh at s) (omega arith) in
    refused_at names bytes _ (behind_marks stop.marks nothing_shared) _ (walks_at names bytes stop.marks _ _ nothing_shared (start_at names bytes) stop.walks (stop.stops []).0) (stop.stops []).1

-- bytes behind the last line are refused
pub refused_behind : (names : NameTable) (bytes left : List ℕ) (marks : Naming → List Mark) (at : ℕ) → {sa sb : Shared} → sa ≡ nothing_shared → (left ≡ [] → ⊥)
    → at ≡ length bytes - length left → Run names (length bytes) (opening ∷ []) marks [] bytes left sa sb → IsCertificateRefused names bytes syntax at
refused_behind names bytes [] marks at fresh some e r = absurd (some refl)
refused_behind names bytes (b ∷ left) marks at {sb = sb} fresh some e r =
    let run : Run names (length bytes) (opening ∷ []) marks [] bytes (b ∷ left) nothing_shared sb = rw (← fresh) r in
    rw e (refused_at names bytes (left_at (length bytes) [] (b ∷ left)) (behind_marks (marks (name_of names)) nothing_shared) (syntax, length bytes - length (b ∷ left))
    (walks_at names bytes (marks (name_of names)) _ _ nothing_shared (start_at names bytes) (run.walks (omega arith) []) (run.shares (omega arith) []).0) refl)

-- the refusal that an error tells
pub refused_as_told : (names : NameTable) (bytes : List ℕ) (e : CertError) (f : CertificateCause) (at : ℕ) → IsRefusedAs names bytes e → told e ≡ Some (f, at) → IsCertificateRefused names bytes f at
refused_as_told names bytes e f at h t = rw t at h
