-- The names of a problem's rules are identifiers, where all names of its words are.
use Rattle.std.proofs.Common.{ℕ, List, [], ◌∷◌, ◌++◌, Option, None, Some, codes, subst}
use Rattle.file_text.specs.Syntax.{Phrase, Phrases, word, call, none, more, ConditionTree, Guard, RuleTree, guarded, conditions_of}
use Rattle.file_text.proofs.Names.{IsName}
use Rattle.cops_write.proofs.Trees.{HasNames, HaveNames, ConditionsHaveNames, GuardHasNames, RulesHaveNames}
use Rattle.ari_text.specs.Signs.{Sign, opening, closing, name, IsSpelt, AreSpelt}
use Rattle.ari_text.specs.Grammar.{term_signs, terms_signs, conditions_signs, rule_signs, metas_signs, IsBehindMetas, function_signs, format_signs, AreRulesIn, ArePartsIn, IsProblem}
use Rattle.ari_text.specs.declared.heads.Format.{Format}
use Rattle.ari_text.specs.declared.heads.Format.TheVariants.{Plain, Oriented, Join}

is_name : (f : List ℕ) → IsSpelt f → IsName f
is_name f s = record { some = s.some; whole = s.whole; short = s.short }

pub spelt_behind : (vs ws : List Sign) → AreSpelt (vs ++ ws) → AreSpelt ws
spelt_behind [] ws h = h
spelt_behind (v ∷ vs) ws h = spelt_behind vs ws h.1

mutual
  term_named : (p : Phrase) (k : List Sign) → AreSpelt (term_signs p k) → HasNames p × AreSpelt k
  term_named (word f) k h = (is_name f.text h.0, h.1)
  term_named (call f ts) k h = let r = terms_named ts (closing ∷ k) h.1.1 in ((is_name f.text h.1.0, r.0), r.1.1)

  terms_named : (ts : Phrases) (k : List Sign) → AreSpelt (terms_signs ts k) → HaveNames ts × AreSpelt k
  terms_named none k h = (tt, h)
  terms_named (more t ts) k h =
      let first = term_named t (terms_signs ts k) h in
      let rest = terms_named ts k first.1 in
      ((first.0, rest.0), rest.1)

conditions_named : (cs : List ConditionTree) (k : List Sign) → AreSpelt (conditions_signs cs k) → ConditionsHaveNames cs × AreSpelt k
conditions_named [] k h = (tt, h)
conditions_named (c ∷ cs) k h =
    let left = term_named c.left (term_signs c.right (closing ∷ conditions_signs cs k)) h.1.1 in
    let right = term_named c.right (closing ∷ conditions_signs cs k) left.1 in
    let rest = conditions_named cs k right.1.1 in
    ((left.0, right.0, rest.0), rest.1)

guard_named : (g : Option Guard) → ConditionsHaveNames (guarded g) → GuardHasNames g
guard_named None h = tt
guard_named (Some g) h = (tt, h)

rule_named : (r : RuleTree) (k : List Sign) → AreSpelt (rule_signs r k) → HasNames r.left × HasNames r.right × GuardHasNames r.guard × AreSpelt k
rule_named r k h =
    let left = term_named r.left (term_signs r.right (conditions_signs (conditions_of r) (closing ∷ k))) h in
    let right = term_named r.right (conditions_signs (conditions_of r) (closing ∷ k)) left.1 in
    let conditions = conditions_named (conditions_of r) (closing ∷ k) right.1 in
    (left.0, right.0, guard_named r.guard conditions.0, conditions.1.1)

metas_named : (ms : List (List Sign)) (k : List Sign) → AreSpelt (metas_signs ms k) → AreSpelt k
metas_named [] k h = h
metas_named (m ∷ ms) k h = metas_named ms k (spelt_behind m (closing ∷ metas_signs ms k) h.1.1).1

behind_named : (ws k : List Sign) → IsBehindMetas ws k → AreSpelt ws → AreSpelt k
behind_named ws k b h = metas_named b.metas k (subst AreSpelt b.words h)

rules_named : (ws : List Sign) (rs : List RuleTree) → AreRulesIn ws rs → AreSpelt ws → RulesHaveNames rs
rules_named ws [] a h = tt
rules_named ws (r ∷ rs) a h =
    let one = rule_named r a.0 (behind_named ws (opening ∷ name (codes "rule") ∷ rule_signs r a.0) a.1 h).1.1 in
    (one.0, one.1, one.2, rules_named a.0 rs a.2 one.3)

parts_named : (ws : List Sign) (fs : List (List ℕ × ℕ)) (rs : List RuleTree) → ArePartsIn ws fs rs → AreSpelt ws → RulesHaveNames rs
parts_named ws [] rs a h = rules_named ws rs a h
parts_named ws (f ∷ fs) rs a h = parts_named a.0 fs rs a.2 (behind_named ws (opening ∷ name (codes "fun") ∷ function_signs f a.0) a.1 h).1.1.1.1.1

format_named : (f : Format) (k : List Sign) → AreSpelt (format_signs f k) → AreSpelt k
format_named Plain k h = h.1.1
format_named Oriented k h = h.1.1.1
format_named Join k h = h.1.1.1

pub problem_named : (ws : List Sign) (f : Format) (fs : List (List ℕ × ℕ)) (rs : List RuleTree) → IsProblem ws f fs rs → AreSpelt ws → RulesHaveNames rs
problem_named ws f fs rs p h = parts_named p.0 fs rs p.2 (format_named f p.0 (behind_named ws (opening ∷ name (codes "format") ∷ format_signs f p.0) p.1 h).1.1)
