-- Rules put behind others, one by one.
use Rattle.std.proofs.Common.{◌≡◌, ℕ, suc, ◌+◌, ◌≤◌, sym, ap, ◌∙◌, subst, List, [], ◌∷◌, ◌++◌, map, length, get_or, drop, take, ◌<◌, ◌-◌, arith, append_assoc}
use Rattle.std.proofs.Common.{length-drop, Result, Ok, Err}
use Rattle.std.proofs.lemmas.List.{take_rest}
use Rattle.rewriting.proofs.Leaves.{fits_under, fits_before, variables_are_leaves}
use Rattle.rewriting.specs.Prelude.{Term, Fits, with_variables, sides, Each, DoSidesFit, numbered_anew, keeper, unraveled_from}
use Rattle.rewriting.specs.Rules as rules
use Rattle.term_core.specs.Prelude.{rule_view, condition_view, view}
use Rattle.term_core.specs.declared.systems.Cond.{Cond}
use Rattle.term_core.specs.declared.systems.Rule.{Rule}
use Rattle.unravel.specs.declared.rules.RuleError.{RuleError}
use Rattle.unravel.specs.declared.rules.RuleError.TheVariants as cause
use Rattle.unravel.specs.RuleAnswers.{PushAnswers, AppendAnswers}

pub no_fit : (l r : Term) (rs : List rules.Rule) → (Fits l → Fits r → ⊥) → DoSidesFit (numbered_anew l r ∷ rs) → ⊥
no_fit l r rs k h = k (fits_before _ (variables_are_leaves _) l h.0) (fits_before _ (variables_are_leaves _) r h.1)

pub pushed_last : (l r : Term) (before after : List Rule) (result : Result (Unit {0}) RuleError) → PushAnswers l r before after result → AppendAnswers (numbered_anew l r ∷ []) before after result
pushed_last l r before after (Ok _) h = (h.0, (fits_under _ (variables_are_leaves _) l h.1, fits_under _ (variables_are_leaves _) r h.2, tt))
pushed_last l r before after (Err cause.TooLarge) h = no_fit l r [] h
pushed_last l r before after (Err cause.NoMemory) h = tt

pub pushed_first : (l r : Term) (rs : List rules.Rule) (before mid after : List Rule) (done : Unit {0}) (result : Result (Unit {0}) RuleError)
    → PushAnswers l r before mid (Ok done) → AppendAnswers rs mid after result → AppendAnswers (numbered_anew l r ∷ rs) before after result
pushed_first l r rs before mid after done (Ok _) p h =
    (h.0 ∙ ap (λ q. q ++ rs) p.0 ∙ append_assoc (map rule_view before) (numbered_anew l r ∷ []) rs, (fits_under _ (variables_are_leaves _) l p.1, fits_under _ (variables_are_leaves _) r p.2, h.1))
pushed_first l r rs before mid after done (Err cause.TooLarge) p h = λ all. h all.2
pushed_first l r rs before mid after done (Err cause.NoMemory) p h = tt

-- no condition is left
pub pushed_none : (f : ℕ) (xs : List ℕ) (head right : Term) (conds : List Cond) (before after : List Rule) (result : Result (Unit {0}) RuleError)
    → length conds < 1 → PushAnswers head right before after result
    → AppendAnswers (unraveled_from f xs head (map condition_view conds) right) before after result
pushed_none f xs head right [] before after result h p = pushed_last head right before after result p
pushed_none f xs head right (c ∷ cs) before after result h p = absurd (omega (arith, h))

-- a condition is left, and a side at it does not fit
pub pushed_badly : (f : ℕ) (xs : List ℕ) (head right : Term) (conds : List Cond) (c : Cond) (before mid after : List Rule) (error : RuleError)
    → 1 ≤ length conds → c ≡ get_or conds 0 c → PushAnswers head (keeper f (view c.left) xs) before mid (Err error)
    → AppendAnswers (unraveled_from f xs head (map condition_view conds) right) before after (Err error)
pushed_badly f xs head right [] c before mid after error h is p = absurd (omega (arith, h))
pushed_badly f xs head right (d ∷ cs) c before mid after cause.TooLarge h is p = no_fit head (keeper f (view d.left) xs) _
    (subst (λ q. PushAnswers head (keeper f (view q.left) xs) before mid (Err cause.TooLarge)) is p)
pushed_badly f xs head right (d ∷ cs) c before mid after cause.NoMemory h is p = tt

-- a condition is left, its rule is put behind, and then the others
pub pushed_one : (f : ℕ) (xs ys : List ℕ) (head right : Term) (conds : List Cond) (c : Cond) (before mid after : List Rule) (done : Unit {0}) (result : Result (Unit {0}) RuleError)
    → 1 ≤ length conds → c ≡ get_or conds 0 c → ys ≡ with_variables xs (view c.right)
    → PushAnswers head (keeper f (view c.left) xs) before mid (Ok done)
    → AppendAnswers (unraveled_from (f + 1) ys (keeper f (view c.right) xs) (map condition_view (take (length conds - 1) (drop 1 conds))) right) mid after result
    → AppendAnswers (unraveled_from f xs head (map condition_view conds) right) before after result
pushed_one f xs ys head right [] c before mid after done result h is e p q = absurd (omega (arith, h))
pushed_one f xs ys head right (d ∷ cs) c before mid after done result h is e p given =
    let q = subst (λ zs. AppendAnswers (unraveled_from (f + 1) ys (keeper f (view c.right) xs) (map condition_view zs) right) mid after result) (take_rest (d ∷ cs) 1) given in
    pushed_first head (keeper f (view d.left) xs) _ before mid after done result (subst (λ z. PushAnswers head (keeper f (view z.left) xs) before mid (Ok done)) is p)
    (subst (λ n. AppendAnswers (unraveled_from n (with_variables xs (view d.right)) (keeper f (view d.right) xs) (map condition_view cs) right) mid after result)
    (let n : f + 1 ≡ suc f = omega arith in n)
    (subst (λ z. AppendAnswers (unraveled_from (f + 1) (with_variables xs (view z.right)) (keeper f (view z.right) xs) (map condition_view cs) right) mid after result) is
    (subst (λ zs. AppendAnswers (unraveled_from (f + 1) zs (keeper f (view c.right) xs) (map condition_view cs) right) mid after result) e q)))

-- the sides of the first condition fit, and those of the others
pub first_fits : (conds : List Cond) (c : Cond) → Each Fits (sides (map condition_view conds)) → 1 ≤ length conds → c ≡ get_or conds 0 c → Fits (view c.left) × Fits (view c.right)
first_fits [] c h le is = absurd (omega (arith, le))
first_fits (d ∷ cs) c h le is = subst (λ z. Fits (view z.left) × Fits (view z.right)) (sym is) (h.0, h.1.0)

pub others_fit : (conds : List Cond) → Each Fits (sides (map condition_view conds)) → 1 ≤ length conds → Each Fits (sides (map condition_view (take (length conds - 1) (drop 1 conds))))
others_fit conds h le = subst (λ cs. Each Fits (sides (map condition_view cs))) (sym (take_rest conds 1)) (go conds h le)
  where
    go : (conds : List Cond) → Each Fits (sides (map condition_view conds)) → 1 ≤ length conds → Each Fits (sides (map condition_view (drop 1 conds)))
    go [] h le = absurd (omega (arith, le))
    go (d ∷ cs) h le = h.1.1

pub others_count : (conds : List Cond) → length (take (length conds - 1) (drop 1 conds)) ≡ length conds - 1
others_count conds = ap length (take_rest conds 1) ∙ length-drop 1 conds
