-- What the reader of files says of the words that it has taken.
use Rattle.std.proofs.Common.{◌≡◌, ℕ, ◌+◌, true, List, [], ◌∷◌, ◌++◌, length, Option, Some, None, Result, Ok, Err, map, refl, sym, ap, subst, ◌∙◌, arith}
use Rattle.std.specs.Result.{IfOk}
use Rattle.file_text.specs.Syntax as syntax
use Rattle.file_text.specs.Grammar.{Word}
use Rattle.file_text.specs.Refusals.{SyntaxCause}
use Rattle.file_text.proofs.Machine.{State, outside, step, finish, numbered, finished, read_file}
use Rattle.file_text.proofs.Goes.{goes, goes_then, goes_one_end, step_goes, goes_run, stop_run}
use Rattle.file_text.proofs.Files.{file_sound}
use Rattle.file_text.proofs.RefusedFiles.{refused_sound}
use Rattle.cops_syntax.specs.Flat as lists
use Rattle.cops_syntax.specs.declared.tree.CondText.{CondText}
use Rattle.cops_syntax.specs.declared.tree.RuleText.{RuleText}
use Rattle.cops_syntax.specs.declared.tree.FileText.{FileText}
use Rattle.cops_syntax.specs.declared.blocks.SyntaxRefusal.{SyntaxRefusal}
use Rattle.cops_syntax.specs.declared.blocks.Blocks.{Blocks}
use Rattle.cops_syntax.specs.View.{AreConditions, IsRule, AreRules, IsFileText}
use Rattle.cops_syntax.specs.States.{condition_view, rule_view, stage_view, blocks_view, cause_of, passed, file_view, ended_file}
use Rattle.cops_syntax.specs.Reader.{at_start, one_further, TakeAnswers, EndAnswers}
use Rattle.cops_syntax.specs.Answers.{Follow, SpellFile, AreRefusedFor}
use Rattle.cops_syntax.proofs.FlatTrees.{condition_of, rule_of}
use Rattle.cops_syntax.proofs.FlatBlocks.{blocks_of, mapped, IsFresh, block_step_of, fresh_next, can_step_of, file_of, mapped_file, finish_of}

-- ---- lists of trees

pub are_conditions : (cs : List CondText) (ts : List syntax.ConditionTree) → map condition_view cs ≡ map condition_of ts → AreConditions cs ts
are_conditions [] [] e = tt
are_conditions [] (t ∷ ts) e = absurd cc
are_conditions (c ∷ cs) [] e = absurd cc
are_conditions (c ∷ cs) (t ∷ ts) e =
    let first : condition_view c ≡ condition_of t = cc in
    let rest : map condition_view cs ≡ map condition_of ts = cc in
    (record { left = ap (λ (d : lists.Condition). d.left) first; right = ap (λ (d : lists.Condition). d.right) first }, are_conditions cs ts rest)

is_rule : (r : RuleText) (t : syntax.RuleTree) → rule_view r ≡ rule_of t → IsRule r t
is_rule r t e = record {
  left = ap (λ (q : lists.Rule). q.left) e;
  right = ap (λ (q : lists.Rule). q.right) e;
  bar = ap (λ (q : lists.Rule). q.bar) e;
  conditions = are_conditions r.conditions.items (syntax.conditions_of t) (ap (λ (q : lists.Rule). q.conditions) e);
}

are_rules : (rs : List RuleText) (ts : List syntax.RuleTree) → map rule_view rs ≡ map rule_of ts → AreRules rs ts
are_rules [] [] e = tt
are_rules [] (t ∷ ts) e = absurd cc
are_rules (r ∷ rs) [] e = absurd cc
are_rules (r ∷ rs) (t ∷ ts) e =
    let first : rule_view r ≡ rule_of t = cc in
    let rest : map rule_view rs ≡ map rule_of ts = cc in
    (is_rule r t first, are_rules rs ts rest)

is_file : (f : FileText) (t : syntax.FileTree) → file_view f ≡ file_of t → IsFileText f t
is_file f t e = record {
  condition_type = ap (λ (g : lists.File). g.condition_type) e;
  variables = ap (λ (g : lists.File). g.variables) e;
  rules = are_rules f.rules.items t.rules (ap (λ (g : lists.File). g.rules) e);
}

-- ---- one word after the other

mapped_ok : {P : Type 0} (b : lists.Blocks) (r : Result State SyntaxCause) → Ok b ≡ mapped r → ((t : State) → r ≡ Ok t → b ≡ blocks_of t → P) → P
mapped_ok b (Ok t) e k = k t refl cc
mapped_ok b (Err c) e k = absurd cc

mapped_err : (c : SyntaxCause) (r : Result State SyntaxCause) → Err c ≡ mapped r → r ≡ Err c
mapped_err c (Ok t) e = absurd cc
mapped_err c (Err d) e = let same : c ≡ d = cc in ap (λ (x : SyntaxCause). Err x) (sym same)

-- The words lead to what the blocks show.
record Followed (ws : List Word) (b : lists.Blocks) : Type 0 where
  pub state : State
  pub fresh : IsFresh state
  pub shows : b ≡ blocks_of state
  pub reached : goes true (outside []) ws ≡ Some state

-- the step of the reader of trees
same_step : (ws : List Word) (b : lists.Blocks) (w : Word) (f : Followed ws b) → lists.step_blocks b w ≡ mapped (step f.state w)
same_step ws b w f = ap (λ (c : lists.Blocks). lists.step_blocks c w) f.shows ∙ block_step_of f.state w f.fresh

followed : (ws : List Word) (b : lists.Blocks) → Follow ws b → Followed ws b
followed _ _ at_start = record { state = outside []; fresh = tt; shows = refl; reached = refl }
followed _ _ (one_further ws w b c led e) =
    let f = followed ws b led in
    mapped_ok c (step f.state w) (sym e ∙ same_step ws b w f)
    (λ s to shows. record {
      state = s;
      fresh = fresh_next f.state s w f.fresh to;
      shows = shows;
      reached = goes_then true ws (w ∷ []) (outside []) f.state f.reached ∙ goes_one_end true w f.state s (step_goes f.state s w to);
    })

pub follows_can : (ws : List Word) (b : Blocks) → Follow ws (blocks_view b) → lists.CanStep (stage_view b.stage)
follows_can ws b led = let f = followed ws (blocks_view b) led in subst lists.CanStep (sym (ap (λ (c : lists.Blocks). c.stage) f.shows)) (can_step_of f.state)

takes : (before after : Blocks) (w : Word) (o : Option SyntaxRefusal) → passed o after ≡ lists.step_blocks (blocks_view before) w
    → (ws : List Word) → Follow ws (blocks_view before) → TakeAnswers (λ vs. Follow vs (blocks_view after)) AreRefusedFor ws w o
takes before after w None e ws led = one_further ws w (blocks_view before) (blocks_view after) led (sym e)
takes before after w (Some refusal) e ws led = λ us.
    let f = followed ws (blocks_view before) led in
    let c = cause_of refusal in
    let number : 0 + length ws ≡ length ws = omega arith in
    let stops = mapped_err c (step f.state w) (e ∙ same_step ws (blocks_view before) w f) in
    refused_sound (ws ++ w ∷ us) c (length ws)
    (ap (finished (length (ws ++ w ∷ us))) (stop_run 0 ws w us (outside []) f.state c f.reached stops ∙ ap (λ (n : ℕ). Err (c, n)) number))

pub follows_take : {E : Type 0} (before after : Blocks) (w : Word) (r : Result (Option SyntaxRefusal) E) → IfOk r (λ o. passed o after ≡ lists.step_blocks (blocks_view before) w)
    → IfOk r (λ o. (ws : List Word) → Follow ws (blocks_view before) → TakeAnswers (λ vs. Follow vs (blocks_view after)) AreRefusedFor ws w o)
follows_take before after w (Ok o) h = takes before after w o h
follows_take before after w (Err e) h = tt

-- ---- the end

file_ok : {P : Type 0} (g : lists.File) (r : Result syntax.FileTree SyntaxCause) → Ok g ≡ mapped_file r → ((t : syntax.FileTree) → r ≡ Ok t → g ≡ file_of t → P) → P
file_ok g (Ok t) e k = k t refl cc
file_ok g (Err c) e k = absurd cc

file_err : (c : SyntaxCause) (r : Result syntax.FileTree SyntaxCause) → Err c ≡ mapped_file r → r ≡ Err c
file_err c (Ok t) e = absurd cc
file_err c (Err d) e = let same : c ≡ d = cc in ap (λ (x : SyntaxCause). Err x) (sym same)

read_to : (ws : List Word) (s : State) (r : Result syntax.FileTree SyntaxCause) → goes true (outside []) ws ≡ Some s → finish s ≡ r → read_file ws ≡ numbered (length ws) (λ file. Ok file) r
read_to ws s r e is = ap (finished (length ws)) (goes_run 0 ws (outside []) s e) ∙ ap (numbered (length ws) (λ (file : syntax.FileTree). Ok file)) is

pub follows_end : (b : Blocks) (r : Result FileText SyntaxRefusal) → ended_file r ≡ lists.finish (blocks_view b) → (ws : List Word) → Follow ws (blocks_view b)
    → EndAnswers SpellFile AreRefusedFor ws r
follows_end b r e ws led = go r (e ∙ ap (λ (c : lists.Blocks). lists.finish c) f.shows ∙ finish_of f.state)
  where
    f : Followed ws (blocks_view b)
    f = followed ws (blocks_view b) led

    go : (r : Result FileText SyntaxRefusal) → ended_file r ≡ mapped_file (finish f.state) → EndAnswers SpellFile AreRefusedFor ws r
    go (Ok file) same = file_ok (file_view file) (finish f.state) same (λ t to is. (t, file_sound ws t (read_to ws f.state (Ok t) f.reached to), is_file file t is))
    go (Err refusal) same =
        let c = cause_of refusal in
        refused_sound ws c (length ws) (read_to ws f.state (Err c) f.reached (file_err c (finish f.state) same))
