-- Words at which shared automata are judged.
use Rattle.cert_words.proofs.Prelude.{◌≡◌, ◌≤◌, ◌-◌, nat_le, nat_lt, ℕ, suc, Bool, true, false, not, cond, ◌&&◌, List, [], ◌∷◌, ◌++◌, length, take, Some, None, refl, sym, ap, ◌∙◌}
use Rattle.cert_words.proofs.Prelude.{subst, arith, length-append, take-append_seam, NameTable, largest, name_of, CertificateCause, bad_share, too_many, unfolded, automaton_begins}
use Rattle.cert_words.proofs.Prelude.{automaton_ends, is_use, is_light, all_used, Demand, shares, Naming, Mark, word, closed, marks_text, verdict, use_mark, value, Item, Lead, at_once}
use Rattle.cert_words.proofs.Prelude.{keyword, numeral_lead, is_short, leads, is_among, Shared, holds, share_verdict, share_effect, behind_marks, is_there, first_there}
use Rattle.cert_words.proofs.Prelude.{with_begun, behind_end, behind_both, pass_join, alone_met, two_met, CertError, Reading, told, left_at, tagged, Keeps, Run, RefusesAt}
use Rattle.cert_words.proofs.Prelude.{IsStuckAt, IsStopped, Anywhere, IsFront, Reads, BeginsAnew, IsStuckBehind}
use Rattle.cert_words.proofs.Stepping.{one_walk, number_keeps, shared_stop, in_range_then, Front}
use Rattle.cert_words.proofs.Walking.{walks_then, walks_shorter, same_begun, found_then, front_same, front_then, went, stopped, sealed_stops, open_before, read_run}
use Rattle.cert_words.proofs.Whole.{walks_text}

-- ---- the first word of an automaton, and the last line

pub begins_keeps : (w : List ℕ) (s : Shared) → Keeps s (word w (shares automaton_begins ∷ []) ∷ []) s
begins_keeps w s = λ b. ((refl, tt), refl)

pub end_keeps : (w : List ℕ) (s : Shared) → holds s all_used ≡ true → Keeps s (word w (shares all_used ∷ []) ∷ []) s
end_keeps w s h = λ b. ((alone_met (holds s all_used) (bad_share, 0) h, tt), refl)

pub end_stop : (names : NameTable) (end : ℕ) {bytes : List ℕ} (s : Shared) {i : Item} {w v rest : List ℕ} {new : List Item}
    → Front bytes i (keyword w (shares all_used ∷ []) new) v rest → holds s all_used ≡ false → IsStuckAt names end i bytes s (Some (bad_share, end - length bytes))
end_stop names end {bytes} s f missed = λ items b.
    shared_stop names end f (bad_share, end - length bytes) items (with_begun b s) refl (rw missed refl)

-- ---- a use

abbrev pub use_demands : ℕ → List Demand
use_demands n = is_short n ∷ shares (is_use n) ∷ shares (is_light n) ∷ []

abbrev pub use_lead : (ℕ → List Item) → Lead
use_lead new = numeral_lead use_demands new

pub use_met : (names : NameTable) (v n : ℕ) → n ≡ v → (nat_le 0 v && nat_lt v (suc largest)) ≡ true → (at : ℕ) → verdict names at (use_demands v) ≡ None
use_met names v n e h at = in_range_then names at 0 (suc largest) v (shares (is_use v) ∷ shares (is_light v) ∷ []) None h refl

module _ (names : NameTable) (end : ℕ) (s : Reading) {i : Item} {v rest : List ℕ} {new : ℕ → List Item} {n : ℕ} (f : Front s.left.now i (use_lead new) v rest)
    (k : (n ≡ value v) × ((nat_le 0 (value v) && nat_lt (value v) (suc largest)) ≡ true)) where
  pub use_run : {t : Shared} → (holds s.shares (is_use n) ≡ true) × (holds s.shares (is_light n) ≡ true) × (t ≡ share_effect (is_light n) (share_effect (is_use n) s.shares))
      → Run names end (i ∷ []) (λ u. use_mark n ∷ []) (new n) s.left.now rest s.shares t
  use_run m = number_keeps f k.0 (use_met names (value v) n k.0 k.1 _)
      (λ b. ((two_met (holds s.shares (is_use n)) (holds s.shares (is_light n)) (bad_share, 0) (too_many unfolded, 0) m.0 m.1, tt), ap (with_begun []) (sym m.2)))

  out : (x : CertificateCause × ℕ) → ((b : List ℕ) → share_verdict (with_begun b s.shares) (end - length s.left.now) (use_demands n) ≡ Some x) → IsStuckAt names end i s.left.now s.shares (Some x)
  out x w = λ items b. shared_stop names end f x items (with_begun b s.shares) (use_met names (value v) n k.0 k.1 (end - length s.left.now))
      (subst (λ (j : ℕ). share_verdict (with_begun b s.shares) (end - length s.left.now) (use_demands j) ≡ Some x) k.0 (w b))

  pub use_bad : holds s.shares (is_use n) ≡ false → IsStuckAt names end i s.left.now s.shares (Some (bad_share, end - length s.left.now))
  use_bad missed = out (bad_share, end - length s.left.now) (λ b. rw missed refl)

  pub use_heavy : holds s.shares (is_use n) ≡ true → holds s.shares (is_light n) ≡ false → IsStuckAt names end i s.left.now s.shares (Some (too_many unfolded, end - length s.left.now))
  use_heavy kept missed = out (too_many unfolded, end - length s.left.now)
      (λ b. rw (kept, missed) refl)

-- ---- an automaton's end

here_there : (d : Demand) (new : List Item) (bytes : List ℕ) → is_there (at_once d new) bytes ≡ true
here_there d new [] = refl
here_there d new (b ∷ bytes) = refl

not_among : (v w : Bool) → v ≡ not w → v ≡ true → w ≡ false
not_among v true e f = absurd (let q = sym e ∙ f in cc)
not_among v false e f = refl

front_if : (v : Bool) (text : List ℕ) (ts : List (List ℕ)) → IsFront ts (cond {A = List (List ℕ)} v ts (ts ++ text ∷ []))
front_if true text ts = front_same ts ts refl
front_if false text ts = (text ∷ [], refl)

-- texts that stand there stay in front of one that ends
pub front_ended : (text : List ℕ) (s t : Shared) → t ≡ behind_end text s → IsFront s.texts t.texts
front_ended text s t e = subst (λ (z : Shared). IsFront s.texts z.texts) (sym e) (front_if (is_among text s.texts) text s.texts)

module _ {names : NameTable} {end : ℕ} {from : List Item} {f : Naming → List Mark} {i : Item} {new : List Item} {a s : Reading} {text : List ℕ} {good : Bool}
    (is_end : leads i ≡ at_once (shares automaton_ends) new ∷ []) (cut : text ≡ take (length a.left.now - length s.left.now) a.left.now)
    (g : good ≡ holds (with_begun text s.shares) automaton_ends) (anew : BeginsAnew (f (name_of names))) (none : s.refused ≡ None) (x : Reads names end from f (i ∷ []) a s) where
  abbrev done : List Mark
  done = f (name_of names)

  run : Run names end from f (i ∷ []) a.left.now s.left.now a.shares s.shares
  run = read_run none x

  -- the bytes since the automaton began
  since : length a.left.now ≤ end → a.left.now ≡ marks_text done ++ s.left.now
  since le = walks_text names done _ _ (run.walks le [])

  text_is : length a.left.now ≤ end → text ≡ marks_text done
  text_is le =
      let long = ap length (since le) ∙ length-append (marks_text done) s.left.now in
      let size : length a.left.now - length s.left.now ≡ length (marks_text done) = omega (arith, long) in
      cut ∙ ap (λ (n : ℕ). take n a.left.now) size ∙ ap (take (length (marks_text done))) (since le) ∙ take-append_seam (marks_text done) s.left.now

  -- what is known where it ends
  behind_all : length a.left.now ≤ end → (b : List ℕ) → behind_marks done (with_begun b a.shares) ≡ with_begun (marks_text done) s.shares
  behind_all le b = same_begun (behind_marks done (with_begun b a.shares)) s.shares (run.shares le b).1 ∙ ap (λ (y : List ℕ). with_begun y s.shares) (anew b a.shares)

  at_end : Front s.left.now i (at_once (shares automaton_ends) new) [] s.left.now
  at_end = record { first = ap (λ (ls : List Lead). first_there ls s.left.now) is_end ∙ rw (here_there (shares automaton_ends) new s.left.now) refl; word = refl; rest = refl; within = omega arith }

  pub end_read : {t : Reading} → t.refused ≡ None → t.left.now ≡ s.left.now → good ≡ true → t.shares ≡ behind_end text s.shares
      → Reads names end from (λ u. f u ++ closed (shares automaton_ends) ∷ []) new a t
  end_read {t} still left kept known =
      went (open_before x none) still (front_then a.shares.texts s.shares.texts t.shares.texts x.front (front_ended text s.shares t.shares known))
      (subst (λ (r : List ℕ). Run names end from (λ u. f u ++ closed (shares automaton_ends) ∷ []) new a.left.now r a.shares t.shares) (sym left) (record {
        walks = λ le items.
            let first = run.walks le items in
            let less = walks_shorter names done _ _ first in
            walks_then names done (closed (shares automaton_ends) ∷ []) _ _ _ first (one_walk names end at_end refl (omega (arith, less, le)) items);
        found = found_then names (f tagged) (closed (shares automaton_ends) ∷ []) run.found tt;
        shares = λ le b.
            let there = behind_all le b in
            let is = text_is le in
            let new_one : is_among text s.shares.texts ≡ false = not_among good (is_among text s.shares.texts) g kept in
            let here = rw is at new_one in (
              pass_join done (closed (shares automaton_ends) ∷ []) (with_begun b a.shares) (run.shares le b).0 (rw there
                  (alone_met (not (is_among (marks_text done) s.shares.texts)) (bad_share, 0 - length (marks_text done)) (ap not here), tt)),
              ap (with_begun []) (behind_both done (closed (shares automaton_ends) ∷ []) (with_begun b a.shares) ∙ ap (behind_marks (closed (shares automaton_ends) ∷ [])) there)
                  ∙ rw (← is, known, new_one) refl,
            );
      }))

  pub end_stuck : (at : ℕ) → at ≡ end - length a.left.now → good ≡ false → IsStuckBehind names end i done a.left.now s.left.now a.shares (Some (bad_share, at))
  end_stuck at place missed = λ le items b.
      let long = ap length (since le) ∙ length-append (marks_text done) s.left.now in
      let there : (end - length s.left.now) - length (marks_text done) ≡ at = omega (arith, long, place) in
      subst (λ (z : Shared). RefusesAt names (left_at end (i ∷ items) s.left.now) z (bad_share, at)) (sym (behind_all le b))
      (shared_stop names end at_end (bad_share, at) items (with_begun (marks_text done) s.shares) refl
      (let out : not (is_among (marks_text done) s.shares.texts) ≡ false = subst (λ (w : List ℕ). not (is_among w s.shares.texts) ≡ false) (text_is le) (sym g ∙ missed) in rw (out, there) refl))

  pub end_stopped : {t : Reading} {e : CertError} (at : ℕ) → t.refused ≡ Some e → told e ≡ Some (bad_share, at) → at ≡ end - length a.left.now → good ≡ false
      → t.shares ≡ behind_end text s.shares → Reads names end from (λ u. f u ++ closed (shares automaton_ends) ∷ []) new a t
  end_stopped {t} {e} at some tells place missed known =
      stopped e (open_before x none) some (front_then a.shares.texts s.shares.texts t.shares.texts x.front (front_ended text s.shares t.shares known))
      (subst (IsStopped Anywhere names end from a.left.now a.shares) (sym tells) (sealed_stops Anywhere names end from i f a.left.now s.left.now a.shares s.shares (Some (bad_share, at)) tt run
      (end_stuck at place missed)))
