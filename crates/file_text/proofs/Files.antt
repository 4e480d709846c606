-- The reader of files accepts the words exactly where they spell a file.
use Rattle.std.proofs.Common.{◌≡◌, ℕ, Bool, true, false, ◌&&◌, if◌then◌else◌, List, [], ◌∷◌, ◌++◌, length, Option, Some, None, Result, Ok, Err, refl, sym, ap, subst, ◌∙◌, append_assoc}
use Rattle.std.proofs.lemmas.List.{append-nil}
use Rattle.std.proofs.lemmas.Option.{same_Some}
use Rattle.file_text.specs.declared.ConditionType.{ConditionType}
use Rattle.file_text.specs.Syntax.{Name, RuleTree, FileTree}
use Rattle.file_text.specs.Grammar.{Word, Block, spelled_blocks, are_distinct, type_in, variables_in, rules_in, SpellTree}
use Rattle.file_text.specs.Refusals.{SyntaxCause}
use Rattle.file_text.proofs.Machine.{State, outside, behind_bracket, behind_type, behind_type_word, in_variables, in_rules, step_any, repeats, file_or_missing, finish, numbered}
use Rattle.file_text.proofs.Machine.{run, finished, read_file}
use Rattle.file_text.proofs.Closing.{state_words}
use Rattle.file_text.proofs.Goes.{taken, goes, goes_word, goes_any, run_goes, goes_run}
use Rattle.file_text.proofs.StateReads.{any_reads}
use Rattle.file_text.proofs.BlockRuns.{blocks_go}
use Rattle.file_text.proofs.Distinct.{distinct_free, taken_is, goes_new}

pub any_step : (b : Bool) (r : Result State SyntaxCause) (t : State) → (if b && false then None else taken r) ≡ Some t → r ≡ Ok t
any_step true r t e = taken_is r t e
any_step false r t e = taken_is r t e

any_words : (ws : List Word) (s t : State) → goes false s ws ≡ Some t → state_words t ≡ state_words s ++ ws
any_words [] s t e = ap state_words (sym (same_Some s t e)) ∙ sym (append-nil (state_words s))
any_words (w ∷ ws) s t e =
    let h = goes_word false w ws s t e in
    any_words ws h.0 t h.2
    ∙ ap (λ (vs : List Word). vs ++ ws) (any_reads s h.0 w (any_step (repeats s w) (step_any s w) h.0 h.1))
    ∙ append_assoc (state_words s) (w ∷ []) ws

-- what was read is what the state's words are
pub goes_words : (ws : List Word) (t : State) → goes true (outside []) ws ≡ Some t → state_words t ≡ ws
goes_words ws t e = any_words ws (outside []) t (goes_any ws (outside []) t e)

abbrev tree : List Block → List RuleTree → FileTree
tree bs rs = record { condition_type = type_in bs; variables = variables_in bs; rules = rs }

abbrev told : Result FileTree SyntaxCause → Result FileTree (SyntaxCause × ℕ)
told r = numbered 0 (λ file. Ok file) r

file_is : (file other : FileTree) → told (Ok file) ≡ Ok other → file ≡ other
file_is file other e = cc

finish_is : (n : ℕ) (r : Result FileTree SyntaxCause) (file : FileTree) → numbered n (λ file. Ok file) r ≡ Ok file → r ≡ Ok file
finish_is n (Ok other) file e = ap (λ (f : FileTree). Ok f) (file_is other file e)
finish_is n (Err c) file e = absurd cc

-- the blocks that are read spell a file
finish_sound : (ws : List Word) (bs : List Block) (file : FileTree) → ws ≡ spelled_blocks bs → are_distinct bs ≡ true → file_or_missing bs (rules_in bs) ≡ Ok file → SpellTree ws file
finish_sound ws bs file spelled new e = go (rules_in bs) refl e
  where
    go : (m : Option (List RuleTree)) → rules_in bs ≡ m → file_or_missing bs m ≡ Ok file → SpellTree ws file
    go None is e = absurd cc
    go (Some rs) is e =
        let same : tree bs rs ≡ file = file_is (tree bs rs) file (ap told e) in
        subst (SpellTree ws) same record { blocks = bs; spelled = spelled; distinct = new; condition_type = refl; variables = refl; rules = is }

state_sound : (ws : List Word) (s : State) (file : FileTree) → goes true (outside []) ws ≡ Some s → finish s ≡ Ok file → SpellTree ws file
state_sound ws (outside bs) file e is = finish_sound ws bs file (sym (goes_words ws (outside bs) e)) (goes_new ws (outside []) (outside bs) e refl) is
state_sound ws (behind_bracket bs) file e is = absurd cc
state_sound ws (behind_type bs at) file e is = absurd cc
state_sound ws (behind_type_word bs at place kind) file e is = absurd cc
state_sound ws (in_variables bs at names) file e is = absurd cc
state_sound ws (in_rules bs at r) file e is = absurd cc

-- what is read is spelled
pub file_sound : (ws : List Word) (file : FileTree) → read_file ws ≡ Ok file → SpellTree ws file
file_sound ws file e = go (run 0 (outside []) ws) refl e
  where
    go : (r : Result State (SyntaxCause × ℕ)) → run 0 (outside []) ws ≡ r → finished (length ws) r ≡ Ok file → SpellTree ws file
    go (Err c) is e = absurd cc
    go (Ok s) is e = state_sound ws s file (run_goes 0 ws (outside []) s is) (finish_is (length ws) (finish s) file e)

-- distinct blocks are read
pub distinct_go : (bs : List Block) → are_distinct bs ≡ true → goes true (outside []) (spelled_blocks bs) ≡ Some (outside bs)
distinct_go bs d = blocks_go true bs [] (distinct_free bs [] d)

-- what is spelled is read
pub file_complete : (ws : List Word) (file : FileTree) → SpellTree ws file → read_file ws ≡ Ok file
file_complete ws file h =
    let gone = ap (goes true (outside [])) h.spelled ∙ distinct_go h.blocks h.distinct in
    ap (finished (length ws)) (goes_run 0 ws (outside []) (outside h.blocks) gone)
    ∙ ap (λ (m : Option (List RuleTree)). numbered (length ws) (λ file. Ok file) (file_or_missing h.blocks m)) h.rules
    ∙ ap (λ (c : Option ConditionType). Ok record { condition_type = c; variables = variables_in h.blocks; rules = file.rules }) (sym h.condition_type)
    ∙ ap (λ (v : List Name). Ok record { condition_type = file.condition_type; variables = v; rules = file.rules }) (sym h.variables)

ok_file : (file other : FileTree) (r : Result FileTree (SyntaxCause × ℕ)) → r ≡ Ok file → r ≡ Ok other → file ≡ other
ok_file file other r p q = file_is file other (sym p ∙ q)

-- words spell one file
pub one_file : (ws : List Word) (file other : FileTree) → SpellTree ws file → SpellTree ws other → file ≡ other
one_file ws file other p q = ok_file file other (read_file ws) (file_complete ws file p) (file_complete ws other q)
