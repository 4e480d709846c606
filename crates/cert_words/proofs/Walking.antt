-- Parts one behind another.
use Rattle.std.proofs.lemmas.List.{append-nil}
use Rattle.cert_words.proofs.Prelude.{◌≡◌, ◌≤◌, ◌-◌, ℕ, List, [], ◌∷◌, ◌++◌, length, Option, Some, None, refl, sym, ap, ◌∙◌, subst, arith, append_assoc, length-drop, NameTable, name_of}
use Rattle.cert_words.proofs.Prelude.{CertificateCause, Naming, Mark, symbol, demands_of, Item, Lead, taken, Left, goes_on, behind_lead, judged, step_lead, step_items, Shared, share_verdict}
use Rattle.cert_words.proofs.Prelude.{behind_mark, behind_marks, PassShares, next_lead, further, shared_judged, behind_lead_shared, after_step, shared_step, with_begun, behind_both}
use Rattle.cert_words.proofs.Prelude.{pass_join, CertError, Reading, told, left_at, StepsOver, Walks, tagged, AreFound, Keeps, Run, RefusesAt, IsStopped, GoesOn, IsFront, Reads}
use Rattle.cert_words.proofs.Prelude.{IsStuckAt, IsStuckBehind, Place, Above, Anywhere, IsStoppedWhere, ReadsWhere}
use Rattle.cert_sharing.proofs.OneShared.{shares_anywhere}

pub walks_then : (names : NameTable) (ms ns : List Mark) (l k j : Left) → Walks names ms l k → Walks names ns k j → Walks names (ms ++ ns) l j
walks_then names [] ns l k j w v = subst (λ (x : Left). Walks names ns x j) (sym w) v
walks_then names (m ∷ ms) ns l k j w v = (w.0, w.1, walks_then names ms ns w.0 k j w.2 v)

-- what is met where it goes on, and where
pub judged_on : (v : Option (CertificateCause × ℕ)) (l k : Left) → judged v l ≡ goes_on k → (v ≡ None) × (l ≡ k)
judged_on None l k e = (refl, cc)
judged_on (Some x) l k e = absurd cc

-- a step behind which nothing is refused on shared automata
pub step_on : (names : NameTable) (l k : Left) (m : Mark) (z : Shared) → StepsOver names l m k → share_verdict z 0 (demands_of m) ≡ None → shared_step names l z ≡ further k (behind_mark m z)
step_on names l k m z s v =
    let next : next_lead l.items l.bytes ≡ Some s.lead = ap (λ (x : List Item). next_lead x l.bytes) s.items ∙ s.first in
    let there = shares_anywhere z 0 l.at (demands_of m) v in
    ap (after_step l z (next_lead l.items l.bytes)) s.goes ∙ ap (λ (x : Option Lead). behind_lead_shared l z x k) next
    ∙ ap (λ (n : Mark). shared_judged (share_verdict z l.at (demands_of n)) k (behind_mark n z)) (sym s.mark) ∙ ap (λ (o : Option (CertificateCause × ℕ)). shared_judged o k (behind_mark m z)) there

-- where a step goes
pub goes_where : (names : NameTable) (l k : Left) (m : Mark) → (s : StepsOver names l m k) → k ≡ behind_lead l s.lead s.others
goes_where names l k m s =
    sym (judged_on _ (behind_lead l s.lead s.others) k
    (sym (ap (λ (x : Option Lead). step_lead names l x s.item s.others) s.first) ∙ sym (ap (λ (x : List Item). step_items names l x) s.items) ∙ s.goes)).1

pub walks_shorter : (names : NameTable) (ms : List Mark) (l k : Left) → Walks names ms l k → length k.bytes ≤ length l.bytes
walks_shorter names [] l k w = let e : length k.bytes ≡ length l.bytes = ap (λ (x : Left). length x.bytes) (sym w) in omega (arith, e)
walks_shorter names (m ∷ ms) l k w =
    let j : Left = w.0 in
    let one : length j.bytes ≡ length l.bytes - taken w.1.lead l.bytes = ap (λ (x : Left). length x.bytes) (goes_where names l j m w.1) ∙ length-drop (taken w.1.lead l.bytes) l.bytes in
    omega (arith, walks_shorter names ms j k w.2, one)

pub found_then : (names : NameTable) (ms ns : List Mark) → AreFound names ms → AreFound names ns → AreFound names (ms ++ ns)
found_then names [] ns h k = k
found_then names (symbol name demands ∷ ms) ns h k = (h.0, found_then names ms ns h.1 k)
found_then names (_ ∷ ms) ns h k = found_then names ms ns h k

-- what is known of shared automata but for what was begun
pub same_begun : (z t : Shared) → with_begun [] z ≡ with_begun [] t → z ≡ with_begun z.begun t
same_begun z t e = ap (with_begun z.begun) e

pub keeps_then : (s t v : Shared) (ms ns : List Mark) → Keeps s ms t → Keeps t ns v → Keeps s (ms ++ ns) v
keeps_then s t v ms ns h k b =
    let z = behind_marks ms (with_begun b s) in
    let there : z ≡ with_begun z.begun t = same_begun z t (h b).1 in
    let on = k z.begun in (
      pass_join ms ns (with_begun b s) (h b).0 (subst (λ (x : Shared). PassShares x ns) (sym there) on.0),
      ap (with_begun []) (behind_both ms ns (with_begun b s)) ∙ ap (λ (x : Shared). with_begun [] (behind_marks ns x)) there ∙ on.1,
    )

-- the same up to a refusal
pub stops_then : (names : NameTable) (s t : Shared) (ms ns : List Mark) (l : Left) (e : CertificateCause × ℕ) → Keeps s ms t
    → ((b : List ℕ) → PassShares (with_begun b t) ns × RefusesAt names l (behind_marks ns (with_begun b t)) e) → (b : List ℕ)
    → PassShares (with_begun b s) (ms ++ ns) × RefusesAt names l (behind_marks (ms ++ ns) (with_begun b s)) e
stops_then names s t ms ns l e h k b =
    let z = behind_marks ms (with_begun b s) in
    let there : z ≡ with_begun z.begun t = same_begun z t (h b).1 in
    let on = k z.begun in (
      pass_join ms ns (with_begun b s) (h b).0 (subst (λ (x : Shared). PassShares x ns) (sym there) on.0),
      subst (λ (x : Shared). RefusesAt names l x e) (ap (behind_marks ns) (sym there) ∙ sym (behind_both ms ns (with_begun b s))) on.1,
    )

-- what is known where a part goes on: the same of others, one behind another, and that nothing was refused where nothing is
pub goes_as : (R Q : Type 0) (S T : Option (CertificateCause × ℕ) → Type 0) (s t : Option CertError) → (s ≡ None → t ≡ None → R → Q)
    → (s ≡ None → (e : CertError) → t ≡ Some e → S (told e) → T (told e)) → GoesOn R S s t → GoesOn Q T s t
goes_as R Q S T None None f g h = f refl refl h
goes_as R Q S T None (Some e) f g h = g refl e refl h
goes_as R Q S T (Some d) None f g h = absurd h
goes_as R Q S T (Some d) (Some e) f g h = h

pub goes_then : (R Q V : Type 0) (S T : Option (CertificateCause × ℕ) → Type 0) (s t u : Option CertError) → (R → Q → V) → ((o : Option (CertificateCause × ℕ)) → R → T o → S o)
    → GoesOn R S s t → GoesOn Q T t u → GoesOn V S s u
goes_then R Q V S T None None None f g h k = f h k
goes_then R Q V S T None None (Some e) f g h k = g (told e) h k
goes_then R Q V S T None (Some d) None f g h k = absurd k
goes_then R Q V S T None (Some d) (Some e) f g h k = subst S (sym k) h
goes_then R Q V S T (Some c) None u f g h k = absurd h
goes_then R Q V S T (Some c) (Some d) None f g h k = absurd k
goes_then R Q V S T (Some c) (Some d) (Some e) f g h k = k ∙ h

pub goes_open : (R : Type 0) (S : Option (CertificateCause × ℕ) → Type 0) (s t : Option CertError) → t ≡ None → GoesOn R S s t → s ≡ None
goes_open R S None t e h = refl
goes_open R S (Some d) None e h = absurd h
goes_open R S (Some d) (Some c) e h = absurd cc

module _ (names : NameTable) (end : ℕ) where
  pub run_then : (from mid to : List Item) (f g : Naming → List Mark) (b r q : List ℕ) (s t v : Shared) → Run names end from f mid b r s t → Run names end mid g to r q t v
      → Run names end from (λ u. f u ++ g u) to b q s v
  run_then from mid to f g b r q s t v x y = record {
    walks = λ le items.
        let first = x.walks le items in
        let less = walks_shorter names (f (name_of names)) (left_at end (from ++ items) b) (left_at end (mid ++ items) r) first in
        walks_then names (f (name_of names)) (g (name_of names)) _ _ _ first (y.walks (omega (arith, le, less)) items);
    found = found_then names (f tagged) (g tagged) x.found y.found;
    shares = λ le.
        let less = walks_shorter names (f (name_of names)) (left_at end (from ++ []) b) (left_at end (mid ++ []) r) (x.walks le []) in
        keeps_then s t v (f (name_of names)) (g (name_of names)) (x.shares le) (y.shares (omega (arith, le, less)));
  }

  -- items that stand behind all that is read
  pub framed_run : (from to more : List Item) (f : Naming → List Mark) (b r : List ℕ) (s t : Shared) → Run names end from f to b r s t → Run names end (from ++ more) f (to ++ more) b r s t
  framed_run from to more f b r s t x = record {
    walks = λ le items. rw (append_assoc from more items, append_assoc to more items) (x.walks le (more ++ items));
    found = x.found;
    shares = x.shares;
  }

  -- other marks and items
  pub as_run : (from to other : List Item) (f g : Naming → List Mark) (b r : List ℕ) (s t : Shared) → to ≡ other → ((u : Naming) → f u ≡ g u) → Run names end from f to b r s t
      → Run names end from g other b r s t
  as_run from to other f g b r s t e same h = record {
    walks = λ le items. rw (← e, ← same (name_of names)) (h.walks le items);
    found = rw (← same tagged) h.found;
    shares = λ le. subst (λ (ms : List Mark). Keeps s ms t) (same (name_of names)) (h.shares le);
  }

-- texts of shared automata in front of others
pub front_same : (s t : List (List ℕ)) → t ≡ s → IsFront s t
front_same s t e = ([], e ∙ sym (append-nil s))

pub front_then : (s t u : List (List ℕ)) → IsFront s t → IsFront t u → IsFront s u
front_then s t u x y = (x.0 ++ y.0, y.1 ∙ ap (λ (w : List (List ℕ)). w ++ y.0) x.1 ∙ append_assoc s x.0 y.0)

pub not_both : (o : Option CertError) (e : CertError) → o ≡ Some e → o ≡ None → ⊥
not_both o e p q = cc

-- where a part behind another is refused
pub stop_behind : (P : Place) (names : NameTable) (end : ℕ) (from mid : List Item) (f : Naming → List Mark) (b r : List ℕ) (s t : Shared) (o : Option (CertificateCause × ℕ)) (items : List Item)
    → Run names end from f mid b r s t → IsStoppedWhere P names end (mid ++ items) r t o → IsStoppedWhere P names end (from ++ items) b s o
stop_behind P names end from mid f b r s t None items x y = tt
stop_behind P names end from mid f b r s t (Some e) items x y = λ le.
    let first = x.walks le items in
    let less = walks_shorter names (f (name_of names)) (left_at end (from ++ items) b) (left_at end (mid ++ items) r) first in
    let there = y (omega (arith, le, less)) in
    record {
      marks = f (name_of names) ++ there.marks;
      item = there.item;
      more = there.more;
      rest = there.rest;
      walks = walks_then names (f (name_of names)) there.marks _ _ _
          first there.walks;
      stops = stops_then names s t (f (name_of names)) there.marks (left_at end (there.item ∷ there.more) there.rest) e (x.shares le) there.stops;
      place = there.place;
    }

-- at a place of which less is said
pub other_stop : (P Q : Place) → ((items : List Item) (q : List ℕ) → P items q → Q items q)
    → (names : NameTable) (end : ℕ) (from : List Item) (b : List ℕ) (s : Shared) (t : Option (CertificateCause × ℕ)) → IsStoppedWhere P names end from b s t → IsStoppedWhere Q names end from b s t
other_stop P Q f names end from b s None x = tt
other_stop P Q f names end from b s (Some e) x = λ le. let there = x le in record {
  marks = there.marks;
  item = there.item;
  more = there.more;
  rest = there.rest;
  walks = there.walks;
  stops = there.stops;
  place = f (there.item ∷ there.more) there.rest there.place;
}

-- a refusal at the first item
pub stuck_where : (P : Place) (names : NameTable) (end : ℕ) (i : Item) (b : List ℕ) (s : Shared) (t : Option (CertificateCause × ℕ)) → P (i ∷ []) b → IsStuckAt names end i b s t
    → IsStopped P names end (i ∷ []) b s t
stuck_where P names end i b s None p h = λ items. tt
stuck_where P names end i b s (Some e) p h = λ items le. record { marks = []; item = i; more = items; rest = b; walks = refl; stops = λ k. (tt, h items k); place = (i, [], refl, p) }

pub stuck_stops : (names : NameTable) (end : ℕ) (i : Item) (b : List ℕ) (s : Shared) (t : Option (CertificateCause × ℕ)) → IsStuckAt names end i b s t
    → IsStopped Anywhere names end (i ∷ []) b s t
stuck_stops names end i b s t h = stuck_where Anywhere names end i b s t tt h

-- and behind others, where a word is judged
pub sealed_stops : (P : Place) (names : NameTable) (end : ℕ) (from : List Item) (i : Item) (f : Naming → List Mark) (b q : List ℕ) (s z : Shared) (t : Option (CertificateCause × ℕ)) → P (i ∷ []) q
    → Run names end from f (i ∷ []) b q s z → IsStuckBehind names end i (f (name_of names)) b q s t → IsStopped P names end from b s t
sealed_stops P names end from i f b q s z None p x h = λ items. tt
sealed_stops P names end from i f b q s z (Some e) p x h = λ items le. record {
  marks = f (name_of names);
  item = i;
  more = items;
  rest = q;
  walks = x.walks le items;
  stops = λ k. ((x.shares le k).0, h le items k);
  place = (i, [], refl, p);
}

module _ {P : Place} {names : NameTable} {end : ℕ} {from to : List Item} {f : Naming → List Mark} {s t : Reading} where
  -- a part behind another
  pub then_reads : {after : List Item} {g : Naming → List Mark} {u : Reading} → ReadsWhere P names end from f to s t → ReadsWhere P names end to g after t u
      → ReadsWhere P names end from (λ v. f v ++ g v) after s u
  then_reads {after} {g} {u} x y = record {
    front = front_then s.shares.texts t.shares.texts u.shares.texts x.front y.front;
    on = goes_then _ _ _ (IsStopped P names end from s.left.now s.shares) (IsStopped P names end to t.left.now t.shares) s.refused t.refused u.refused
        (run_then names end from to after f g s.left.now t.left.now u.left.now s.shares t.shares u.shares)
        (λ o h k items. stop_behind (Above P items) names end from to f s.left.now t.left.now s.shares t.shares o items h (k items)) x.on y.on;
  }

  -- the same of others
  pub reads_as : {Q : Place} {front after : List Item} {g : Naming → List Mark} → (s.refused ≡ None → t.refused ≡ None → Run names end from f to s.left.now t.left.now s.shares t.shares
      → Run names end front g after s.left.now t.left.now s.shares t.shares)
      → (s.refused ≡ None → (e : CertError) → t.refused ≡ Some e → IsStopped P names end from s.left.now s.shares (told e) → IsStopped Q names end front s.left.now s.shares (told e))
      → ReadsWhere P names end from f to s t → ReadsWhere Q names end front g after s t
  reads_as {Q} {front} g h x = record {
    front = x.front;
    on = goes_as _ _ (IsStopped P names end from s.left.now s.shares) (IsStopped Q names end front s.left.now s.shares) s.refused t.refused g h x.on;
  }

  -- items that stand behind all that is read
  pub framed_where : {Q : Place} (more : List Item) → ((i : Item) (m : List Item) (q : List ℕ) → P (i ∷ m) q → Q (i ∷ (m ++ more)) q) → ReadsWhere P names end from f to s t
      → ReadsWhere Q names end (from ++ more) f (to ++ more) s t
  framed_where {Q} more g x = reads_as (λ q none. framed_run names end from to more f s.left.now t.left.now s.shares t.shares)
      (λ q e is h items. rw (append_assoc from more items)
      (other_stop (Above P (more ++ items)) (Above Q items) (λ is r k. (k.0, k.1 ++ more, k.2 ∙ ap (λ (y : List Item). k.0 ∷ y) (sym (append_assoc k.1 more items)), g k.0 k.1 r k.3))
      names end (from ++ (more ++ items)) s.left.now s.shares (told e) (h (more ++ items)))) x

  -- other marks and items, where they are the same if nothing is refused
  pub as_reads : {other : List Item} {g : Naming → List Mark} → ((t.refused ≡ None) → (to ≡ other) × ((u : Naming) → f u ≡ g u)) → ReadsWhere P names end from f to s t
      → ReadsWhere P names end from g other s t
  as_reads {other} {g} e x = reads_as (λ q none. as_run names end from to other f g s.left.now t.left.now s.shares t.shares (e none).0 (e none).1) (λ q o is h. h) x

  -- other marks
  pub as_marks : {g : Naming → List Mark} → ((t.refused ≡ None) → (u : Naming) → f u ≡ g u) → ReadsWhere P names end from f to s t → ReadsWhere P names end from g to s t
  as_marks e x = as_reads (λ none. (refl, e none)) x

  -- where the text is refused nothing is said of a value
  pub already : {other : List Item} {g : Naming → List Mark} (e : CertError) → t.refused ≡ Some e → ReadsWhere P names end from f to s t → ReadsWhere P names end from g other s t
  already e q x = as_reads (λ none. absurd (not_both t.refused e q none)) x

  -- what is read, or refused, where nothing was refused
  pub went : s.refused ≡ None → t.refused ≡ None → IsFront s.shares.texts t.shares.texts → Run names end from f to s.left.now t.left.now s.shares t.shares → ReadsWhere P names end from f to s t
  went e g k r = record { front = k; on = rw (e, g) r }

  pub stopped : (e : CertError) → s.refused ≡ None → t.refused ≡ Some e → IsFront s.shares.texts t.shares.texts → IsStopped P names end from s.left.now s.shares (told e)
      → ReadsWhere P names end from f to s t
  stopped e g h k r = record { front = k; on = rw (g, h) r }

  -- where nothing is refused nothing was
  pub open_before : ReadsWhere P names end from f to s t → t.refused ≡ None → s.refused ≡ None
  open_before x e = goes_open (Run names end from f to s.left.now t.left.now s.shares t.shares) (IsStopped P names end from s.left.now s.shares) s.refused t.refused e x.on

  -- what is read where nothing is refused, and where the text is refused
  pub read_run : t.refused ≡ None → ReadsWhere P names end from f to s t → Run names end from f to s.left.now t.left.now s.shares t.shares
  read_run e x = rw (open_before x e, e) at x.on

  pub stopped_where : (e : CertError) → s.refused ≡ None → t.refused ≡ Some e → ReadsWhere P names end from f to s t → IsStoppedWhere P names end from s.left.now s.shares (told e)
  stopped_where e p q x =
      let there : IsStopped P names end from s.left.now s.shares (told e) = rw (p, q) at x.on in
      other_stop (Above P []) P (λ is r k. rw (k.2, append-nil k.1) k.3) names end from s.left.now s.shares (told e)
      (subst (λ (is : List Item). IsStoppedWhere (Above P []) names end is s.left.now s.shares (told e)) (append-nil from) (there []))

-- no marks behind others
pub then_nothing : {P : Place} {names : NameTable} {end : ℕ} {from mid to : List Item} {f : Naming → List Mark} {s t u : Reading} → ReadsWhere P names end from f mid s t
    → ReadsWhere P names end mid (λ v. []) to t u → ReadsWhere P names end from f to s u
then_nothing {f = f} x y = as_marks (λ none v. append-nil (f v)) (then_reads x y)

-- what is refused stays so
pub stays : {P : Place} {names : NameTable} {end : ℕ} {from to : List Item} {f : Naming → List Mark} {s : Reading} (e : CertError) → s.refused ≡ Some e → ReadsWhere P names end from f to s s
stays {s = s} e q = record { front = front_same s.shares.texts s.shares.texts refl; on = rw q refl }

pub framed : {names : NameTable} {end : ℕ} {from to : List Item} {f : Naming → List Mark} {s t : Reading} (more : List Item) → Reads names end from f to s t
    → Reads names end (from ++ more) f (to ++ more) s t
framed more x = framed_where more (λ i m q h. tt) x
