-- Which of some leads is there, and what is read with it.
use Rattle.std.proofs.lemmas.List.{length-map}
use Rattle.cert_words.proofs.Prelude.{◌≡◌, ◌<◌, ◌≤◌, ◌+◌, ◌-◌, ℕ, zero, suc, true, false, List, [], ◌∷◌, length, map, get_or, max, Option, Some, None, MatchOption, refl, sym, ap, ap₂, ◌∙◌, subst}
use Rattle.cert_words.proofs.Prelude.{arith, NameTable, Naming, Mark, fixed, syntax, text, Item, Lead, leads, is_there, first_there, longest, CertError, Reading, told, Run, IsStuckAt}
use Rattle.cert_words.proofs.Prelude.{bare, IsLeadRead, Reads, Choice, lead_of, bare_of, Chosen, Missed, IsFirst, WordReads, IsMissed, Finds, IsJudged, Found, Demand, verdict, demands_of, mark_of}
use Rattle.cert_words.proofs.Prelude.{CertificateCause, name_lead, symbol, name_of, number_of, IsStill, numeral_lead, in_range, word, numeral, value, unknown_name, keyword, check, has_arity, behind}
use Rattle.cert_words.proofs.Prelude.{holds, all_used, shares, bad_share, IsVerdict, IsWhy, IsWithin, Front, plain, variable_lead, codes, largest, ◌++◌, bad_number, drop, nat_le, nat_lt, ◌&&◌}
use Rattle.cert_words.proofs.Prelude.{le-leb, le-ltb}
use Rattle.cert_words.proofs.Walking.{front_same, went, stopped, stuck_stops}
use Rattle.cert_words.proofs.Stepping.{same_plain, front_of, stuck_among, one_stop, is_told, name_run, number_run, in_range_then, keyword_keeps, still_keeps, check_run, variable_run, bar_read}
use Rattle.cert_words.proofs.Stepping.{spelling_of}
use Rattle.cert_words.proofs.Sharings.{end_keeps, end_stop}
use Rattle.cert_words.specs.declared.error.CertError.TheVariants.{UnknownName, BadNumber}
use Rattle.cert_grammar.proofs.ScanWords.{bar_is}
use Rattle.cert_words.specs.Nodes.{IsBarNumber}
use Rattle.cert_words.specs.declared.leads.Lead as code

-- none of them is there
none_of : (bytes : List ℕ) (ks : List Lead) (k : ℕ) → length ks ≤ k → Missed bytes k (map plain ks) → first_there ks bytes ≡ None
none_of bytes [] k h m = refl
none_of bytes (a ∷ ks) zero h m = absurd (omega (arith, h))
none_of bytes (a ∷ ks) (suc k) h m = rw (sym (same_plain a bytes).there ∙ m.0) (none_of bytes ks k (omega (arith, h)) m.1)

same_longest : (bytes : List ℕ) (ks : List Lead) → longest ks bytes ≡ longest (map plain ks) bytes
same_longest bytes [] = refl
same_longest bytes (a ∷ ks) = ap₂ max (sym (same_plain a bytes).size) (same_longest bytes ks)

module _ {end : ℕ} {s : Reading} where
  pub not_there : {e : CertError} (ls : List code.Lead) → s.refused ≡ None → Missed s.left.now (length ls) (map bare ls)
      → told e ≡ Some (syntax, (end - length s.left.now) + longest (map bare ls) s.left.now)
      → IsMissed end (λ i. map plain (leads i) ≡ map bare ls) s (record { left = s.left; refused = Some e; shares = s.shares })
  not_there {e} ls none m t = record {
    why = e;
    refused = refl;
    left = refl;
    at = λ names i fits marks to.
        let size = ap length fits in
        let stuck = stuck_among names end s.left.now s.shares i e (leads i) (map bare ls) refl
        (none_of s.left.now (leads i) (length ls) (omega (arith, size, length-map (leads i) plain, length-map ls bare)) (subst (Missed s.left.now (length ls)) (sym fits) m))
        (same_longest s.left.now (leads i) ∙ ap (λ (x : List Lead). longest x s.left.now) fits) t in
        record { read = stopped e none refl (front_same _ _ refl) (stuck_stops names end i s.left.now s.shares (told e) stuck); here = λ n. stuck };
  }

-- the one that is there
first_at : (bytes w rest : List ℕ) (ks : List Lead) (k : ℕ) (d : Lead) → IsFirst bytes (map plain ks) k w rest
    → (first_there ks bytes ≡ Some (get_or ks k d)) × IsLeadRead (plain (get_or ks k d)) bytes w rest
first_at bytes w rest [] k d h = absurd h
first_at bytes w rest (a ∷ ks) zero d h = (rw (sym (same_plain a bytes).there ∙ h.there) refl, h)
first_at bytes w rest (a ∷ ks) (suc k) d h = let r = first_at bytes w rest ks k d h.1 in (rw (sym (same_plain a bytes).there ∙ h.0) r.0, r.1)

pub which_below : (bytes w rest : List ℕ) (ls : List Lead) (k : ℕ) → IsFirst bytes ls k w rest → k < length ls
which_below bytes w rest [] k h = absurd h
which_below bytes w rest (a ∷ ls) zero h = omega arith
which_below bytes w rest (a ∷ ls) (suc k) h = let less = which_below bytes w rest ls k h.1 in omega (arith, less)

module _ {end : ℕ} {s u : Reading} {x : Found} where
  pub below : {ls : List Lead} → Finds end ls x s u → x.which < length ls
  below {ls} h = which_below s.left.now x.word.now x.rest.now ls x.which h.first

  pub alone_read : {a : Lead} → Finds end (a ∷ []) x s u → IsLeadRead a s.left.now x.word.now x.rest.now
  alone_read {a} h = by x.which h.first
    where
      by : (k : ℕ) → IsFirst s.left.now (a ∷ []) k x.word.now x.rest.now → IsLeadRead a s.left.now x.word.now x.rest.now
      by zero h = h
      by (suc k) h = absurd h.1

  pub front_at : {i : Item} {ks ls : List Lead} (k : ℕ) → leads i ≡ ks → map plain ks ≡ ls → Finds end ls x s u → x.which ≡ k
      → Front s.left.now i (get_or ks k (text [] [])) x.word.now x.rest.now
  front_at {ks = ks} k e fits h q =
      let there = rw (← fits, q) at h.first in
      let r = first_at s.left.now x.word.now x.rest.now ks k (text [] []) there in
      front_of (get_or ks k (text [] [])) (ap (λ (ls : List Lead). first_there ls s.left.now) e ∙ r.0) r.1

  pub only : {i : Item} {a b : Lead} → leads i ≡ a ∷ [] → plain a ≡ b → Finds end (b ∷ []) x s u → Front s.left.now i a x.word.now x.rest.now
  only e q h = let less = below h in front_at 0 e (ap (λ (y : Lead). y ∷ []) q) h (omega (arith, less))

  pub second : {i : Item} {a b : Lead} {ls : List Lead} → leads i ≡ a ∷ b ∷ [] → plain a ∷ plain b ∷ [] ≡ ls → Finds end ls x s u → (x.which ≡ 0 → ⊥) → Front s.left.now i b x.word.now x.rest.now
  second e fits h q = let less = below h in let two = ap length fits in front_at 1 e fits h (omega (arith, less, two, q))

-- what is found is read, or the text refused for it
module _ {names : NameTable} {end : ℕ} {i : Item} {marks : Naming → List Mark} {to : List Item} {s u : Reading} {x : Found} {ls : List Lead} (h : Finds end ls x s u) where
  pub refused_word : {e : CertError} → IsStuckAt names end i s.left.now s.shares (told e) → WordReads names end i marks to s (record { left = u.left; refused = Some e; shares = u.shares })
  refused_word {e} k = rw h.same (record { read = stopped e h.none refl (front_same _ _ refl) (stuck_stops names end i s.left.now s.shares (told e) k); here = λ n. k })

  pub judged_word : {t : Reading} {m : Option CertError} → IsJudged x m u t
      → MatchOption m (Run names end (i ∷ []) marks to s.left.now x.rest.now s.shares s.shares) (λ e. IsStuckAt names end i s.left.now s.shares (told e)) → WordReads names end i marks to s t
  judged_word {m = None} j r = rw (j.passed refl, h.same) (record { read = went h.none h.none (front_same _ _ refl) r; here = λ n. rw h.none tt })
  judged_word {m = Some e} j k = rw (j.refused e refl) (refused_word k)

-- why it is refused, if it is: some of what is asked of it is met
pub judge : {names : NameTable} {end : ℕ} {i : Item} {marks : Naming → List Mark} {to : List Item} {a : Lead} {w rest : List ℕ} {at : ℕ} (s : Reading) (m : Option CertError) (ds : List Demand)
    → Front s.left.now i a w rest → at ≡ end - length s.left.now → IsVerdict names at ds m
    → ((t : Option (CertificateCause × ℕ)) → verdict names (end - length s.left.now) ds ≡ t → verdict names (end - length s.left.now) (demands_of (mark_of a w)) ≡ t)
    → (verdict names (end - length s.left.now) ds ≡ None → Run names end (i ∷ []) marks to s.left.now rest s.shares s.shares)
    → MatchOption m (Run names end (i ∷ []) marks to s.left.now rest s.shares s.shares) (λ e. IsStuckAt names end i s.left.now s.shares (told e))
judge s None ds f p v all run = run (rw (← p) v)
judge {names} {end} s (Some e) ds f p v all run = one_stop names end f s.shares (told e) (is_told _ _ (all (told e) (rw (← p) v)))

module _ {names : NameTable} {end : ℕ} {i : Item} {s u t : Reading} {x : Found} {ls : List Lead} {m : Option CertError} (h : Finds end ls x s u) (j : IsJudged x m u t) where
  pub name_read : {g : ℕ} {ds : List Demand} {new : List ℕ → List Item} → Front s.left.now i (name_lead ds new) x.word.now x.rest.now → number_of names.symbols x.word.now ≡ Some g
      → IsVerdict names x.here ds m → IsStill ds → WordReads names end i (λ v. symbol (v g) ds ∷ []) (new (name_of names g)) s t
  name_read {ds = ds} f e v still = judged_word h j (judge s m ds f h.place v (λ t q. rw e q) (λ none. name_run f e none still))

  pub variable_read : {n : ℕ} {ds : List Demand} {new : List Item} → Front s.left.now i (variable_lead ds new) x.word.now x.rest.now → IsBarNumber x.word.now (Some n)
      → IsVerdict names x.here ds m → IsStill ds → WordReads names end i (λ v. word (codes "|" ++ numeral n) (in_range 1 0 (suc largest) n ∷ ds) ∷ []) new s t
  variable_read {n} {ds} f e v still = judged_word h j (judge s m ds f h.place v (λ t q. rw (bar_read x.word.now n e).1 q) (λ none. variable_run f e none still))

  pub numeral_read : {n least bound : ℕ} {ds : ℕ → List Demand} {new : ℕ → List Item} → leads i ≡ numeral_lead (λ k. in_range 0 least bound k ∷ ds k) new ∷ []
      → plain (numeral_lead ds new) ∷ [] ≡ ls → IsWithin least bound x.word.now (Some n) → IsVerdict names x.here (ds n) m → ((k : ℕ) → IsStill (ds k))
      → WordReads names end i (λ v. word (numeral n) (in_range 0 least bound n ∷ ds n) ∷ []) (new n) s t
  numeral_read {n} {least} {bound} {ds} e fits k v still =
      let f = front_at 0 e fits h (let less = below h in let one = ap length fits in omega (arith, less, one)) in
      judged_word h j (judge s m (ds n) f h.place v (λ t q. in_range_then names _ least bound (value x.word.now) (ds (value x.word.now)) t k.1 (rw (← k.0) q))
      (λ none. number_run f k.0 (in_range_then names _ least bound (value x.word.now) (ds (value x.word.now)) None k.1 (rw (← k.0) none)) still))

-- a name that no symbol has
pub bad_name : {names : NameTable} {end : ℕ} {i : Item} {marks : Naming → List Mark} {to : List Item} {s u : Reading} {x : Found} {ls : List Lead} {ds : List Demand} {new : List ℕ → List Item}
    → Finds end ls x s u → Front s.left.now i (name_lead ds new) x.word.now x.rest.now → number_of names.symbols x.word.now ≡ None
    → WordReads names end i marks to s (record { left = u.left; refused = Some (UnknownName x.here); shares = u.shares })
bad_name {names} {end} {s = s} {x = x} h f none = refused_word h (one_stop names end f s.shares (Some (unknown_name, x.here)) (rw none (ap (λ (k : ℕ). Some (unknown_name, k)) (sym h.place))))

pub bad_bar : {names : NameTable} {end : ℕ} {i : Item} {marks : Naming → List Mark} {to : List Item} {s u : Reading} {x : Found} {ls : List Lead} {ds : List Demand} {new : List Item}
    → Finds end ls x s u → Front s.left.now i (variable_lead ds new) x.word.now x.rest.now → IsBarNumber x.word.now None
    → WordReads names end i marks to s (record { left = u.left; refused = Some (BadNumber (x.here + 1)); shares = u.shares })
bad_bar {names} {end} {s = s} {x = x} h f low =
    refused_word h (one_stop names end f s.shares (Some (bad_number, x.here + 1))
    (rw (bar_low x.word.now (bar_is x.word.now (spelling_of f f.word)) low) (ap (λ (k : ℕ). Some (bad_number, k + 1)) (sym h.place))))
  where
    bar_low : (w : List ℕ) → w ≡ 124 ∷ numeral (value (drop 1 w)) → IsBarNumber w None → (nat_le 0 (value (drop 1 w)) && nat_lt (value (drop 1 w)) (suc largest)) ≡ false
    bar_low [] e k = absurd cc
    bar_low (b ∷ w) e k = rw (le-leb 0 (value w) (omega arith), le-ltb (value w) (suc largest) k) refl

-- why a word, or a symbol before a byte, is refused
module _ (names : NameTable) (end : ℕ) (s : Reading) where
  pub keyword_why : {i : Item} {at : ℕ} {w : List ℕ} {ds : List Demand} {new : List Item} (m : Option CertError) → at ≡ end - length s.left.now → IsVerdict names at ds m → IsStill ds
      → IsWhy names end i (keyword w ds new) (λ u. word w ds ∷ []) new s m
  keyword_why {w = w} {ds} m p v still = λ _ rest f. judge s m ds f p v (λ t q. q) (λ none. keyword_keeps f none (still_keeps (word w ds) s.shares still))

  pub check_why : {i : Item} {at n b : ℕ} {new : List Item} (f : ℕ) (m : Option CertError) → at ≡ end - length s.left.now → IsVerdict names at (has_arity (name_of names f) n ∷ []) m
      → IsWhy names end i (check (has_arity (name_of names f) n) b new) (λ u. behind (has_arity (u f) n) ∷ []) new s m
  check_why {n = n} f m p v = λ _ rest g. judge s m (has_arity (name_of names f) n ∷ []) g p v (λ t q. q) (λ none. check_run {d = λ u. has_arity (u f) n} g none tt)

  pub unused_why : {i : Item} {at : ℕ} {w : List ℕ} {new : List Item} (m : Option CertError) → at ≡ end - length s.left.now
      → MatchOption m (holds s.shares all_used ≡ true) (λ e. (holds s.shares all_used ≡ false) × (told e ≡ Some (bad_share, at)))
      → IsWhy names end i (keyword w (shares all_used ∷ []) new) (λ u. word w (shares all_used ∷ []) ∷ []) new s m
  unused_why {w = w} None p h = λ _ rest f. keyword_keeps f refl (end_keeps w s.shares h)
  unused_why (Some e) p h = λ _ rest f. rw (h.1, p) (end_stop names end s.shares f h.0)

-- past the last choice
pub past_last : (names : NameTable) (end : ℕ) (i : Item) (s t : Reading) (cs : List Choice) (k : ℕ) (e : CertError) → length cs ≤ k → t.refused ≡ Some e
    → Reads names end (i ∷ []) (λ u. []) [] s t → Chosen names end i cs k s t
past_last names end i s t [] k e h q r = (e, q, r)
past_last names end i s t (c ∷ cs) zero e h q r = absurd (omega (arith, h))
past_last names end i s t (c ∷ cs) (suc k) e h q r = past_last names end i s t cs k e (omega (arith, h)) q r

pub chosen_at : {names : NameTable} {end : ℕ} {i : Item} {s t : Reading} (cs : List Choice) (k : ℕ) → k < length cs
    → ((c : Choice) → get_or (map lead_of cs) k (text [] []) ≡ lead_of c → Reads names end (i ∷ []) (λ u. fixed c.bytes ∷ []) c.items s t) → Chosen names end i cs k s t
chosen_at [] k h f = absurd (omega (arith, h))
chosen_at (c ∷ cs) zero h f = f c refl
chosen_at (c ∷ cs) (suc k) h f = chosen_at cs k (omega (arith, h)) f

pub plain_choices : (cs : List Choice) → map plain (map lead_of cs) ≡ map bare_of cs
plain_choices [] = refl
plain_choices (c ∷ cs) = ap (λ (ls : List Lead). bare_of c ∷ ls) (plain_choices cs)

-- which is the first
pub is_first : (bytes w rest : List ℕ) (ls : List code.Lead) (k : ℕ) (d : code.Lead) → k < length ls → Missed bytes k (map bare ls)
    → IsLeadRead (bare (get_or ls k d)) bytes w rest → IsFirst bytes (map bare ls) k w rest
is_first bytes w rest [] k d lt m h = absurd (omega (arith, lt))
is_first bytes w rest (a ∷ ls) zero d lt m h = h
is_first bytes w rest (a ∷ ls) (suc k) d lt m h = (m.0, is_first bytes w rest ls k d (omega (arith, lt)) m.1 h)

pub missed_bare : (bytes : List ℕ) (texts : List code.Lead) (k : ℕ) (d : code.Lead) → k < length texts → Missed bytes k (map bare texts)
    → is_there (bare (get_or texts k d)) bytes ≡ false → Missed bytes (suc k) (map bare texts)
missed_bare bytes [] k d lt m e = absurd (omega (arith, lt))
missed_bare bytes (a ∷ ls) zero d lt m e = (e, tt)
missed_bare bytes (a ∷ ls) (suc k) d lt m e = (m.0, missed_bare bytes ls k d (omega (arith, lt)) m.1 e)

pub same_number : (texts : List code.Lead) (cs : List Choice) → map bare texts ≡ map bare_of cs → length cs ≡ length texts
same_number texts cs e = let n = ap length e in omega (arith, n, length-map texts bare, length-map cs bare_of)
