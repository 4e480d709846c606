-- Where the last line may stand one item is left, and the marks before it end in bytes: whatever stands behind these bytes, a reader goes along them.
use Rattle.cert_openings.proofs.Prelude.{◌≡◌, ℕ, Bool, true, false, not, cond, List, [], ◌∷◌, ◌++◌, refl, sym, ap, ◌∙◌, subst, codes, append_assoc, append-nil, all_used, shares, same_bytes, Mark}
use Rattle.cert_openings.proofs.Prelude.{fixed, word, mark_text, marks_text, closing, GoesTo, Skeleton, marks_of, Item, opening, between, line, Lead, text, keyword, numeral_lead, position_lead}
use Rattle.cert_openings.proofs.Prelude.{variable_lead, leads, mode_of, mark_of, items_of, number_begins, place_begins, bar_begins, Moves, skeleton_path, text_both}
use Rattle.cert_grammar.proofs.ScanLaws.{IsWordOf}
pub use Rattle.cert_laws.proofs.LeadTables.{never_ends}
use Rattle.cert_laws.proofs.LeadTables.{each_in, is_end, is_line_alone, next_never, seals, lead_holds}
pub use Rattle.cert_laws.proofs.Reached.{Meet, ahead, behind_it, meet}
use Rattle.cert_laws.proofs.Reached.{moves_to}
use Rattle.cert_laws.proofs.Paths.{Path}

-- ---- items at which the last line may stand

abbrev pub end_mark : Mark
end_mark = word (codes "end") (shares all_used ∷ [])

abbrev MayEnd : Item → Type 0
MayEnd i = never_ends i ≡ true → ⊥

-- the word of the last line is one by a lead for it alone
spelt_end : (a : Lead) (w : List ℕ) → IsWordOf (mode_of a) w → end_mark ≡ mark_of a w → is_end a ≡ true
spelt_end (keyword bytes demands items) w h e = let same : codes "end" ≡ bytes = cc in ap (λ (b : List ℕ). same_bytes b (codes "end")) (sym same)
spelt_end (numeral_lead demands items) w h e = let k = subst (IsWordOf number_begins) (let q : w ≡ codes "end" = cc in q) h in let none = k.goes.1 in absurd cc
spelt_end (position_lead items) w h e = let k = subst (IsWordOf place_begins) (let q : w ≡ codes "end" = cc in q) h in let none = k.goes.2.1 in absurd cc
spelt_end (variable_lead demands items) w h e = let k = subst (IsWordOf bar_begins) (let q : w ≡ codes "end" = cc in q) h in let none = k.goes.1 in absurd cc
spelt_end _ w h e = absurd cc

line_alone : (items : List Item) → is_line_alone items ≡ true → items ≡ between line ∷ []
line_alone (between line ∷ []) e = refl
line_alone _ e = absurd cc

line_behind : (a : Lead) (w : List ℕ) → is_end a ≡ true → seals w a ≡ true → items_of a w ≡ between line ∷ []
line_behind (keyword bytes demands items) w e s = line_alone items (rw e at s)
line_behind _ w e s = absurd cc

nothing_else : (new s : List Item) → new ++ s ≡ [] → s ≡ []
nothing_else [] s e = e
nothing_else (i ∷ new) s e = absurd cc

pub one_left : (t : List Item) → Path closing t [] → (i : Item) × (t ≡ i ∷ []) × MayEnd i
one_left [] p = absurd p
one_left (i ∷ s) p =
    let k = p.1 in
    let is = spelt_end k.lead k.word_of k.spelt k.mark in
    let items : p.0 ≡ between line ∷ [] = k.items ∙ line_behind k.lead k.word_of is (lead_holds i k.word_of k.lead k.among).1 in
    let last = subst (λ (x : List Item). Path (fixed (codes "\n") ∷ []) (x ++ s) []) items p.2 in
    let none : s ≡ [] = nothing_else last.0 s last.2 in
    (i, ap (λ (x : List Item). i ∷ x) none, λ n. absurd (let both : not true ≡ true = ap not (sym is) ∙ each_in (λ (a : Lead). not (is_end a)) k.lead (leads i) k.among n in cc))

-- ---- marks before the last line

-- the last mark is one of bytes, and has some
abbrev pub EndsInBytes : List Mark → Type 0
EndsInBytes ms = (front : List Mark) × (b : ℕ) × (t : List ℕ) × (ms ≡ front ++ fixed (b ∷ t) ∷ [])

next_of : (items : List Item) (v : Bool) → cond v (is_line_alone items) (next_never items) ≡ true → next_never items ≡ true
next_of items true h = ap next_never (line_alone items h)
next_of items false h = h

not_next : (items s : List Item) (i : Item) → next_never items ≡ true → items ++ s ≡ i ∷ [] → MayEnd i → ⊥
not_next [] s i h e n = cc
not_next (k ∷ items) s i h e n = let same : i ≡ k = cc in n (ap never_ends same ∙ h)

last_bytes : (a : Lead) (w : List ℕ) (s : List Item) (i : Item) → seals w a ≡ true → items_of a w ++ s ≡ i ∷ [] → MayEnd i → (b : ℕ) × (t : List ℕ) × (mark_of a w ≡ fixed (b ∷ t))
last_bytes (text [] items) w s i h e n = absurd cc
last_bytes (text (b ∷ t) items) w s i h e n = (b, t, refl)
last_bytes a w s i h e n = absurd (not_next (items_of a w) s i (next_of (items_of a w) (is_end a) h) e n)

ends_in : (m : Mark) (ms : List Mark) (s : List Item) (i : Item) → Path (m ∷ ms) s (i ∷ []) → MayEnd i → EndsInBytes (m ∷ ms)
ends_in m ms [] i p n = absurd p
ends_in m [] (j ∷ s) i p n =
    let k = p.1 in
    let last = last_bytes k.lead k.word_of s i (lead_holds j k.word_of k.lead k.among).1 (ap (λ (x : List Item). x ++ s) (sym k.items) ∙ p.2) n in
    ([], last.0, last.1, ap (λ (x : Mark). x ∷ []) (k.mark ∙ last.2))
ends_in m (o ∷ ms) (j ∷ s) i p n = let k = ends_in o ms (p.0 ++ s) i p.2 n in (m ∷ k.0, k.1, k.2, ap (λ (x : List Mark). m ∷ x) k.3)

path_split : (a b : List Mark) (s t : List Item) → Path (a ++ b) s t → (u : List Item) × Path a s u × Path b u t
path_split [] b s t p = (s, refl, p)
path_split (m ∷ a) b [] t p = absurd p
path_split (m ∷ a) b (i ∷ s) t p = let r = path_split a b (p.0 ++ s) t p.2 in (r.0, (p.0, p.1, r.1), r.2)

-- marks of a text before its last line, up to one item, and the bytes behind them
pub record Along (own : List Mark) (bytes rest : List ℕ) : Type 0 where
  pub item : Item
  pub moves : Moves own (opening ∷ []) bytes (item ∷ []) rest
  pub closes : Path closing (item ∷ []) []
  pub may_end : MayEnd item
  pub last : EndsInBytes own

settled : (own : List Mark) (bytes rest : List ℕ) (front : List Mark) (b : ℕ) (t : List ℕ) → own ≡ front ++ fixed (b ∷ t) ∷ [] → (u : List Item)
    → Moves (front ++ fixed (b ∷ t) ∷ []) (opening ∷ []) bytes u rest → Path closing u [] → Along own bytes rest
settled own bytes rest front b t e u h p =
    let there = one_left u p in
    record {
      item = there.0;
      moves = subst (λ (k : List Mark). Moves k (opening ∷ []) bytes (there.0 ∷ []) rest) (sym e)
          (subst (λ (v : List Item). Moves (front ++ fixed (b ∷ t) ∷ []) (opening ∷ []) bytes v rest) there.1 h);
      closes = subst (λ (v : List Item). Path closing v []) there.1 p;
      may_end = there.2;
      last = (front, b, t, e);
    }

pub along : (s : Skeleton) (own : List Mark) (bytes rest : List ℕ) → marks_of s ≡ own ++ closing → bytes ≡ marks_text own ++ rest → Along own bytes rest
along s own bytes rest e spelt = by own refl
  where
    by : (ms : List Mark) → own ≡ ms → Along own bytes rest
    by [] q =
        let left = one_left (opening ∷ []) (subst (λ (k : List Mark). Path k (opening ∷ []) []) (e ∙ ap (λ (k : List Mark). k ++ closing) q) (skeleton_path s)) in
        let same : left.0 ≡ opening = cc in
        absurd (left.2 (ap never_ends same))
    by (m ∷ ms) q =
        let path = path_split (m ∷ ms) closing (opening ∷ []) [] (subst (λ (k : List Mark). Path k (opening ∷ []) []) (e ∙ ap (λ (k : List Mark). k ++ closing) q) (skeleton_path s)) in
        let left = one_left path.0 path.2 in
        let last = ends_in m ms (opening ∷ []) left.0 (subst (Path (m ∷ ms) (opening ∷ [])) left.1 path.1) left.2 in
        let bytes_last = fixed (last.1 ∷ last.2) in
        let whole : own ≡ last.0 ++ bytes_last ∷ [] = q ∙ last.3 in
        let moved = moves_to last.0 bytes_last closing (opening ∷ []) bytes rest
        (subst (λ (k : List Mark). Path k (opening ∷ []) []) (e ∙ ap (λ (k : List Mark). k ++ closing) whole ∙ append_assoc last.0 (bytes_last ∷ []) closing) (skeleton_path s))
        (cc (spelt, text_both last.0 (bytes_last ∷ []), append_assoc (marks_text last.0) (mark_text bytes_last ++ []) rest, append-nil (mark_text bytes_last))) tt in
        settled own bytes rest last.0 last.1 last.2 whole moved.0 moved.1 moved.2

-- bytes that are read along a text go to a mark of the own ones, or to one behind them
pub data Walked (own front : List Mark) (mark : Mark) : Type 0 where
  within : (back : List Mark) → own ≡ front ++ mark ∷ back → Walked own front mark
  past : (more : List Mark) → front ≡ own ++ more → Walked own front mark

up_to : (front own more : List Mark) (mark : Mark) → front ++ mark ∷ [] ≡ own ++ more → Walked own front mark
up_to front [] more mark e = past front refl
up_to [] (o ∷ own) more mark e = within own (cc)
up_to (f ∷ front) (o ∷ own) more mark e = by (up_to front own more mark (cc))
  where
    by : Walked own front mark → Walked (o ∷ own) (f ∷ front) mark
    by (within back q) = within back (cc)
    by (past others q) = past others (cc)

pub walk : {own : List Mark} {bytes rest : List ℕ} → Along own bytes rest → (t : Skeleton) (front : List Mark) (mark : Mark) → GoesTo (marks_of t) bytes front mark → Walked own front mark
walk {own} {bytes} {rest} a t front mark g =
    let to = moves_to front mark g.back (opening ∷ []) bytes g.rest (subst (λ (k : List Mark). Path k (opening ∷ []) []) g.parts (skeleton_path t)) g.text g.reached in
    by (meet own (front ++ mark ∷ []) (opening ∷ []) (a.item ∷ []) to.0 bytes rest g.rest a.moves to.1)
  where
    by : {u : List Item} → Meet own (front ++ mark ∷ []) (a.item ∷ []) rest u g.rest → Walked own front mark
    by (ahead more e h) = up_to front own more mark e
    by (behind_it m ms e h) = within (m ∷ ms) (e ∙ append_assoc front (mark ∷ []) (m ∷ ms))
