-- The reader of files refuses words exactly where, and for the cause for which, they are refused.
use Rattle.std.proofs.Common.{◌≡◌, inl, inr, true, false, ℕ, zero, suc, ◌+◌, List, [], ◌∷◌, ◌++◌, length, take, slice_get, Option, Some, None, Result, Ok, Err, refl, sym, ap, subst, ◌∙◌, arith}
use Rattle.std.proofs.Math.Seq.{take-length, take-append_seam}
use Rattle.std.proofs.lemmas.Option.{same_Some}
use Rattle.general_lemmas.proofs.Places.{slice_get_seam}
use Rattle.file_text.specs.Syntax.{RuleTree, FileTree}
use Rattle.file_text.specs.Grammar.{Word, Block, spelled_blocks, rules_in, SpellTree}
use Rattle.file_text.specs.Refusals.{SyntaxCause, unknown_block, repeated_block, other_condition_type, wrong_syntax, missing_rules, Calls, EndCalls, AreClear, AreRefused}
use Rattle.file_text.proofs.Machine.{State, outside, behind_bracket, behind_type, behind_type_word, in_variables, in_rules, file_or_missing, finish, numbered, run, finished, read_file}
use Rattle.file_text.proofs.Goes.{goes, goes_front, goes_word, goes_any, goes_step_ok, run_goes, goes_run, Stops, run_stops, stop_run}
use Rattle.file_text.proofs.BlockRuns.{any_go}
use Rattle.file_text.proofs.Files.{goes_words, file_complete}
use Rattle.file_text.proofs.Refused.{refused_calls, calls_refused}

-- ---- words before

-- words that are read call for no refusal
pub goes_clear : (ws : List Word) (s : State) → goes true (outside []) ws ≡ Some s → AreClear ws
goes_clear ws s e cause front w rest is calls =
    let gone = goes_front true front (w ∷ rest) (outside []) s (ap (goes true (outside [])) (sym is) ∙ e) in
    let one = goes_word true w rest gone.0 s gone.2 in
    let ok = goes_step_ok gone.0 one.0 w one.1 in
    let err = calls_refused front w gone.0 cause gone.1 calls in
    cc

pub clear_goes : (ws : List Word) → AreClear ws → (s : State) × (goes true (outside []) ws ≡ Some s)
clear_goes ws clear = go (run 0 (outside []) ws) refl
  where
    go : (r : Result State (SyntaxCause × ℕ)) → run 0 (outside []) ws ≡ r → (s : State) × (goes true (outside []) ws ≡ Some s)
    go (Ok s) is = (s, run_goes 0 ws (outside []) s is)
    go (Err (c, m)) is =
        let h = run_stops 0 ws (outside []) c m is in
        absurd (clear c h.front h.refused h.rest h.split (refused_calls h.front h.refused h.last c h.before h.step))

-- ---- the end of the words

is_outside : (ws : List Word) (s : State) (bs : List Block) → goes true (outside []) ws ≡ Some s → ws ≡ spelled_blocks bs → s ≡ outside bs
is_outside ws s bs e is = same_Some s (outside bs) (sym (goes_any ws (outside []) s e) ∙ ap (goes false (outside [])) is ∙ any_go bs)

abbrev refuse_file : SyntaxCause → Result FileTree SyntaxCause
refuse_file c = Err c

cause_is : (c d : SyntaxCause) → refuse_file c ≡ Err d → c ≡ d
cause_is c d e = cc

wrong_end : (ws : List Word) (s : State) (c : SyntaxCause) → goes true (outside []) ws ≡ Some s → refuse_file wrong_syntax ≡ Err c → ((bs : List Block) → s ≡ outside bs → ⊥) → EndCalls c ws
wrong_end ws s c e is not = subst (λ (c : SyntaxCause). EndCalls c ws) (cause_is wrong_syntax c is) (λ bs spelled. not bs (is_outside ws s bs e spelled))

refused_end : (ws : List Word) (s : State) (c : SyntaxCause) → goes true (outside []) ws ≡ Some s → finish s ≡ Err c → EndCalls c ws
refused_end ws (outside bs) c e is = go (rules_in bs) refl is
  where
    go : (m : Option (List RuleTree)) → rules_in bs ≡ m → file_or_missing bs m ≡ Err c → EndCalls c ws
    go None none is = subst (λ (c : SyntaxCause). EndCalls c ws) (cause_is missing_rules c is) (bs, sym (goes_words ws (outside bs) e), none)
    go (Some rs) some is = absurd cc
refused_end ws (behind_bracket bs) c e is = wrong_end ws (behind_bracket bs) c e is (λ cs h. cc)
refused_end ws (behind_type bs at) c e is = wrong_end ws (behind_type bs at) c e is (λ cs h. cc)
refused_end ws (behind_type_word bs at place kind) c e is = wrong_end ws (behind_type_word bs at place kind) c e is (λ cs h. cc)
refused_end ws (in_variables bs at names) c e is = wrong_end ws (in_variables bs at names) c e is (λ cs h. cc)
refused_end ws (in_rules bs at r) c e is = wrong_end ws (in_rules bs at r) c e is (λ cs h. cc)

end_refused : (ws : List Word) (s : State) (c : SyntaxCause) → goes true (outside []) ws ≡ Some s → EndCalls c ws → finish s ≡ Err c
end_refused ws s unknown_block e h = absurd h
end_refused ws s repeated_block e h = absurd h
end_refused ws s other_condition_type e h = absurd h
end_refused ws s wrong_syntax e h = go s e
  where
    go : (s : State) → goes true (outside []) ws ≡ Some s → finish s ≡ Err wrong_syntax
    go (outside bs) e = absurd (h bs (sym (goes_words ws (outside bs) e)))
    go (behind_bracket bs) e = refl
    go (behind_type bs at) e = refl
    go (behind_type_word bs at place kind) e = refl
    go (in_variables bs at names) e = refl
    go (in_rules bs at r) e = refl
end_refused ws s missing_rules e (bs, spelled, none) = ap finish (is_outside ws s bs e spelled) ∙ ap (file_or_missing bs) none

-- ---- files

pair_is : (c d : SyntaxCause) (n m : ℕ) → numbered n (λ (file : FileTree). Ok file) (Err c) ≡ Err (d, m) → (c ≡ d) × (n ≡ m)
pair_is c d n m e = let both : ◌≡◌ {A = SyntaxCause × ℕ} (c, n) (d, m) = cc in (ap (λ p. p.0) both, ap (λ p. p.1) both)

finish_fails : (n : ℕ) (r : Result FileTree SyntaxCause) (c : SyntaxCause) (k : ℕ) → numbered n (λ file. Ok file) r ≡ Err (c, k) → (r ≡ Err c) × (n ≡ k)
finish_fails n (Ok file) c k e = absurd cc
finish_fails n (Err d) c k e = let h = pair_is d c n k e in (ap refuse_file h.0, h.1)

stops_refused : (ws : List Word) (c : SyntaxCause) (k : ℕ) → Stops 0 (outside []) ws c k → AreRefused ws c k
stops_refused ws c k h =
    let number = h.number in
    let k_is : k ≡ length h.front = omega arith in
    let front : take k ws ≡ h.front = ap (λ (n : ℕ). take n ws) k_is ∙ ap (take (length h.front)) h.split ∙ take-append_seam h.front (h.refused ∷ h.rest) in
    let got : slice_get ws k ≡ Some h.refused = ap (λ (n : ℕ). slice_get ws n) k_is ∙ ap (λ (v : List Word). slice_get v (length h.front)) h.split ∙ slice_get_seam h.front h.refused h.rest in (
      subst AreClear (sym front) (goes_clear h.front h.last h.before),
      inl (h.refused, got, subst (λ (v : List Word). Calls c v h.refused) (sym front) (refused_calls h.front h.refused h.last c h.before h.step)),
    )

end_is_refused : (ws : List Word) (s : State) (c : SyntaxCause) (k : ℕ) → goes true (outside []) ws ≡ Some s → finish s ≡ Err c → length ws ≡ k → AreRefused ws c k
end_is_refused ws s c k e is n =
    (subst AreClear (sym (ap (λ (n : ℕ). take n ws) (sym n) ∙ take-length ws)) (goes_clear ws s e), inr (sym n, refused_end ws s c e is))

abbrev stopped : SyntaxCause × ℕ → Result State (SyntaxCause × ℕ)
stopped p = Err p

same_stop : (n : ℕ) (p q : SyntaxCause × ℕ) → finished n (stopped p) ≡ Err q → stopped p ≡ stopped q
same_stop n p q e = let same : p ≡ q = cc in ap stopped same

-- what the reader refuses is refused
pub refused_sound : (ws : List Word) (c : SyntaxCause) (k : ℕ) → read_file ws ≡ Err (c, k) → AreRefused ws c k
refused_sound ws c k e = go (run 0 (outside []) ws) refl e
  where
    go : (r : Result State (SyntaxCause × ℕ)) → run 0 (outside []) ws ≡ r → finished (length ws) r ≡ Err (c, k) → AreRefused ws c k
    go (Ok s) is e = let h = finish_fails (length ws) (finish s) c k e in end_is_refused ws s c k (run_goes 0 ws (outside []) s is) h.0 h.1
    go (Err p) is e = stops_refused ws c k (run_stops 0 ws (outside []) c k (is ∙ same_stop (length ws) p (c, k) e))

-- a list around the word with this number
split_at : (ws : List Word) (k : ℕ) (w : Word) → slice_get ws k ≡ Some w → (rest : List Word) × (ws ≡ take k ws ++ w ∷ rest) × (length (take k ws) ≡ k)
split_at [] k w e = absurd cc
split_at (v ∷ ws) zero w e = let same = same_Some v w e in (ws, ap (λ (u : Word). u ∷ ws) same, refl)
split_at (v ∷ ws) (suc k) w e = let h = split_at ws k w e in (h.0, ap (λ (u : List Word). v ∷ u) h.1, ap suc h.2)

-- what is refused is refused by the reader
pub refused_complete : (ws : List Word) (c : SyntaxCause) (k : ℕ) → AreRefused ws c k → read_file ws ≡ Err (c, k)
refused_complete ws c k (clear, inl (w, got, calls)) =
    let s = clear_goes (take k ws) clear in
    let at = split_at ws k w got in
    let stops = stop_run 0 (take k ws) w at.0 (outside []) s.0 c s.1 (calls_refused (take k ws) w s.0 c s.1 calls) in
    let length_is = at.2 in
    let number : 0 + length (take k ws) ≡ k = omega arith in
    ap (finished (length ws)) (ap (run 0 (outside [])) at.1 ∙ stops ∙ ap (λ (n : ℕ). Err (c, n)) number)
refused_complete ws c k (clear, inr (n, calls)) =
    let whole : take k ws ≡ ws = ap (λ (m : ℕ). take m ws) n ∙ take-length ws in
    let s = clear_goes ws (subst AreClear whole clear) in
    ap (finished (length ws)) (goes_run 0 ws (outside []) s.0 s.1) ∙ ap (numbered (length ws) (λ (file : FileTree). Ok file)) (end_refused ws s.0 c s.1 calls) ∙ ap (λ (m : ℕ). Err (c, m)) (sym n)

-- ---- one refusal, and no tree beside it

error_is : (p q : SyntaxCause × ℕ) (r : Result FileTree (SyntaxCause × ℕ)) → r ≡ Err p → r ≡ Err q → p ≡ q
error_is p q r e h = let both : finished 0 (Err p) ≡ Err q = sym e ∙ h in cc

pub one_refusal : (ws : List Word) (c d : SyntaxCause) (k m : ℕ) → AreRefused ws c k → AreRefused ws d m → (c ≡ d) × (k ≡ m)
one_refusal ws c d k m p q =
    let same = error_is (c, k) (d, m) (read_file ws) (refused_complete ws c k p) (refused_complete ws d m q) in (ap (λ (e : SyntaxCause × ℕ). e.0) same, ap (λ (e : SyntaxCause × ℕ). e.1) same)

pub never_refused : (ws : List Word) (file : FileTree) (c : SyntaxCause) (k : ℕ) → SpellTree ws file → AreRefused ws c k → ⊥
never_refused ws file c k h r = let read = file_complete ws file h in let refused = refused_complete ws c k r in cc
