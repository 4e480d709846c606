-- A reader goes along what stands there, and never stops before its end.
use Rattle.cert_text.proofs.Prelude.{◌≡◌, inl, inr, ◌<◌, ℕ, suc, true, List, [], ◌∷◌, ◌++◌, take, Option, Some, None, codes, refl, sym, ap, ◌∙◌, subst, arith, NameTable, CertificateCause, Demand}
use Rattle.cert_text.proofs.Prelude.{Mark, demands_of, verdict, Pass, Item, between, line, pairs_from, Lead, text, keyword, leads, Version, first_version, second_version, mode_of, first_there, taken}
use Rattle.cert_text.proofs.Prelude.{mark_of, items_of, behind_lead, judged, step_lead, Shared, share_verdict, behind_mark, behind_marks, PassShares, ends, further, Takes, Path, first_complete, Move}
use Rattle.cert_text.proofs.Prelude.{Moves, moves_path, there_size, BeginsEntry, Meet, ahead, behind_it, meet, never_ends, pass_split, left_at, RefusesAt, step_on, lowest, AreAbove, IsBehind}
use Rattle.cert_text.proofs.Prelude.{AreBehind, BeginsList, same_item, name_of, Opening, PairEntry, Gone, gone_along, Place, StopsWhere, opening, nothing_shared, read_marks, walks_at, start_at}
use Rattle.cert_text.proofs.Prelude.{length}
use Rattle.cert_grammar.proofs.ScanLaws.{IsWordOf}
use Rattle.cert_laws.proofs.LeadTables.{In}
use Rattle.cert_laws.proofs.OneRefusal.{passed_anywhere}
use Rattle.cert_laws.proofs.PassTerms.{pass_append}
use Rattle.cert_laws.proofs.Moves.{There}
use Rattle.cert_openings.proofs.Along.{Along}
use Rattle.cert_sharing.proofs.ExactShared.{At}
use Rattle.cert_grammar.specs.FirstRefusal as machine

-- ---- two readers of the same bytes

mark_read : (a : Lead) (w b : List ℕ) → IsWordOf (mode_of a) w → There a w b → mark_of a (take (taken a b) b) ≡ mark_of a w
mark_read (text bytes items) w b h t = refl
mark_read a w b h t = ap (mark_of a) (there_size a w b h t)

-- where a mark is read that passes nothing is refused
never_refused : (names : NameTable) (end : ℕ) (i : Item) (s : List Item) (m : Mark) (b behind : List ℕ) (new : List Item) (z : Shared) (e : CertificateCause × ℕ)
    → Move i m b behind new → verdict names 0 (demands_of m) ≡ None → share_verdict z 0 (demands_of m) ≡ None → RefusesAt names (left_at end (i ∷ s) b) z e → ⊥
never_refused names end i s m b behind new z e h v w r =
    let k = h.takes in
    let t = h.there in
    let l = left_at end (i ∷ s) b in
    let first : first_there (leads i) b ≡ Some k.lead = ap (first_there (leads i)) t.parts ∙ first_complete i k.lead k.word_of t.rest k.among k.spelt t.ends in
    let mark : mark_of k.lead (take (taken k.lead b) b) ≡ m = mark_read k.lead k.word_of b k.spelt t ∙ sym k.mark in
    let passed : verdict names l.at (demands_of (mark_of k.lead (take (taken k.lead b) b))) ≡ None = ap (λ (x : Mark). verdict names l.at (demands_of x)) mark
    ∙ passed_anywhere names 0 l.at (demands_of m) v in
    let goes = ap (λ (x : Option Lead). step_lead names l x i s) first ∙ ap (λ (x : Option (CertificateCause × ℕ)). judged x (behind_lead l k.lead s)) passed in
    let on = step_on names l (behind_lead l k.lead s) m z (record { item = i; others = s; items = refl; lead = k.lead; first = first; mark = sym mark; goes = goes }) w in
    let both : further (behind_lead l k.lead s) (behind_mark m z) ≡ ends (machine.refused e.0 e.1) = sym on ∙ r in
    cc

-- a reader that stops has gone along an opening and entries that stand there
pub past : {names : NameTable} {bytes : List ℕ} {o : Opening} {es : List PairEntry} {end : ℕ} {P : Place} {e : CertificateCause × ℕ} (a : Gone names bytes o es end)
    (s : StopsWhere P names (length bytes) (opening ∷ []) bytes nothing_shared e) → (ms : List Mark) × Moves ms ((gone_along names bytes o es end a).item ∷ []) a.rest (s.item ∷ s.more) s.rest
past {names} {bytes} {o} {es} {end} {e = e} a s = by (meet own r.reached.front (opening ∷ []) (al.item ∷ []) (s.item ∷ s.more) bytes a.rest s.rest al.moves r.reached.moves)
  where
    own : List Mark
    own = read_marks (name_of names) a.uses a.shared a.answer o es

    al : Along own bytes a.rest
    al = gone_along names bytes o es end a

    z : Shared
    z = behind_marks s.marks nothing_shared

    r : At names bytes (left_at (length bytes) (s.item ∷ s.more) s.rest) z
    r = walks_at names bytes s.marks _ _ nothing_shared (start_at names bytes) s.walks (s.stops []).0

    by : Meet own r.reached.front (al.item ∷ []) a.rest (s.item ∷ s.more) s.rest → (ms : List Mark) × Moves ms (al.item ∷ []) a.rest (s.item ∷ s.more) s.rest
    by (ahead ms q y) = (ms, y)
    by (behind_it m ms q y) =
        let front = r.reached.front in
        absurd (never_refused names (length bytes) s.item s.more m s.rest y.1 y.0 z e y.2 (pass_append names front (m ∷ ms) (subst (Pass names) q a.spells.passed)).1.0
        (rw (← r.is) at (pass_split front (m ∷ ms) nothing_shared (subst (PassShares nothing_shared) q a.pass_shared)).1.0) (s.stops []).1)

-- ---- the items behind a mark, by each lead of an item

abbrev pub Each : (List Item → Type 0) → Mark → List Lead → Type 0
Each P m [] = Unit {0}
Each P m (a ∷ others) = ((w : List ℕ) → m ≡ mark_of a w → P (items_of a w)) × Each P m others

each_in : (P : List Item → Type 0) (m : Mark) (ls : List Lead) (a : Lead) (w : List ℕ) → In a ls → m ≡ mark_of a w → Each P m ls → P (items_of a w)
each_in P m [] a w n e h = absurd n
each_in P m (b ∷ ls) a w (inl q) e h = subst (λ (x : Lead). P (items_of x w)) (sym q) (h.0 w (e ∙ ap (λ (x : Lead). mark_of x w) q))
each_in P m (b ∷ ls) a w (inr n) e h = each_in P m ls a w n e h.1

pub step_by : (P : List Item → Type 0) (i : Item) (m : Mark) (new : List Item) → Takes i m new → Each P m (leads i) → P new
step_by P i m new h each = subst P (sym h.items) (each_in P m (leads i) h.lead h.word_of h.among h.mark each)

-- ---- what stands below

lowest_behind : (k : Item) (ks : List Item) (j : Item) (s : List Item) → lowest k (ks ++ j ∷ s) ≡ lowest j s
lowest_behind k [] j s = refl
lowest_behind k (l ∷ ks) j s = lowest_behind l ks j s

-- an item of this kind stays below, if one such mark leaves one
module _ (P : Item → Type 0) (Fits : Mark → Type 0) (AllFit : List Mark → Type 0) (each : (m : Mark) (ms : List Mark) → AllFit (m ∷ ms) → Fits m × AllFit ms)
    (one : (i : Item) (m : Mark) (new : List Item) → Fits m → Takes i m new → P i → AreAbove P (new ++ [])) where
  above_step : (i : Item) (s : List Item) (m : Mark) (new : List Item) → Fits m → Takes i m new → AreAbove P (i ∷ s) → AreAbove P (new ++ s)
  above_step i [] m new f h (inl x) = one i m new f h x
  above_step i [] m new f h (inr x) = step_by (λ (y : List Item). AreAbove P (y ++ [])) (between line) m new
      (subst (λ (j : Item). Takes j m new) (same_item i (between line) x) h) ((λ w e. tt), tt)
  above_step i (j ∷ s) m [] f h (inl x) = inl x
  above_step i (j ∷ s) m (k ∷ ks) f h (inl x) = inl (subst P (sym (lowest_behind k ks j s)) x)
  above_step i (j ∷ s) m new f h (inr x) = absurd cc

  pub above_path : (ms : List Mark) (s t : List Item) → AllFit ms → Path ms s t → AreAbove P s → AreAbove P t
  above_path [] s t f p x = subst (AreAbove P) p x
  above_path (m ∷ ms) [] t f p x = absurd p
  above_path (m ∷ ms) (i ∷ s) t f p x = let both = each m ms f in above_path ms (p.0 ++ s) t both.1 p.2 (above_step i s m p.0 both.0 p.1 x)

-- an overlap is read, or the last line
pub pair_step : (v : Version) (n k : ℕ) (m : Mark) (new : List Item) → n < suc k → Takes (pairs_from v k) m new → AreBehind v n (new ++ [])
pair_step v n k m new less h = step_by (λ (x : List Item). AreBehind v n (x ++ [])) (pairs_from v k) m new h ((λ w e. inl (suc k, refl, less)), ((λ w e. inr refl), tt))

pub later_moves : (v : Version) (n : ℕ) (ms : List Mark) (s t : List Item) (b r : List ℕ) → Moves ms s b t r → AreBehind v n s → AreBehind v n t
later_moves v n ms s t b r h x = above_path (IsBehind v n) (λ m. Unit {0}) (λ ms. Unit {0}) (λ m ms f. (tt, tt))
    (λ i m new f k y. let less = y.2 in pair_step v n y.0 m new (omega (arith, less)) (subst (λ (j : Item). Takes j m new) y.1 k)) ms s t tt (moves_path ms s t b r h) x

-- where the last line may stand behind an overlap, a later overlap alone is left
pub last_pair : (v : Version) (n : ℕ) (i : Item) → AreBehind v n (i ∷ []) → (never_ends i ≡ true → ⊥) → IsBehind v n i
last_pair v n i (inl x) e = x
last_pair v n i (inr q) e = absurd (e (ap never_ends (same_item i (between line) q)))

-- ---- behind an opening

fun_never : (w : List ℕ) → BeginsEntry (102 ∷ w) → ⊥
fun_never w h = grind arith

aux_never : (w : List ℕ) → BeginsEntry (97 ∷ w) → ⊥
aux_never w h = grind arith

-- where an overlap or the last line begins no symbol is read
symbol_step : (v : Version) (i : Item) (m : Mark) (b behind : List ℕ) (new fun aux : List Item) (ds : List Demand) → BeginsEntry b → Move i m b behind new
    → leads i ≡ keyword (codes "fun") ds fun ∷ keyword (codes "aux") ds aux ∷ leads (pairs_from v 1) → AreBehind v 1 (new ++ [])
symbol_step v i m b behind new fun aux ds begins h is = step_by (λ (x : List Item). AreBehind v 1 (x ++ [])) i m new h.takes (rw is (
  (λ w e. absurd (fun_never (codes "un" ++ behind) (rw (h.text, e) at begins))),
  ((λ w e. absurd (aux_never (codes "ux" ++ behind) (rw (h.text, e) at begins))), ((λ w e. inl (2, refl, omega arith)), ((λ w e. inr refl), tt))),
))

-- where a list stands, and an overlap or the last line begins
pub list_step : (v : Version) (i : Item) (m : Mark) (b behind : List ℕ) (new : List Item) → BeginsList v i → BeginsEntry b → Move i m b behind new → AreBehind v 1 (new ++ [])
list_step first_version i m b behind new (inl x) begins h = symbol_step first_version i m b behind new _ _ _ begins h (ap leads x.1)
list_step first_version i m b behind new (inr x) begins h = pair_step first_version 1 (suc x.0) m new (omega arith) (subst (λ (j : Item). Takes j m new) x.1 h.takes)
list_step second_version i m b behind new (inl x) begins h = symbol_step second_version i m b behind new _ _ _ begins h (ap leads x.1)
list_step second_version i m b behind new (inr (inl x)) begins h = pair_step second_version 1 (suc x.0) m new (omega arith) (subst (λ (j : Item). Takes j m new) x.1 h.takes)
list_step second_version i m b behind new (inr (inr x)) begins h = symbol_step second_version i m b behind new _ _ _ begins h (ap leads x.1)
