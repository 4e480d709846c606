-- The texts of rejections.
use Rattle.std.specs.Prelude.{◌++◌, ℕ, List, [], Option, Some, None, codes, decimal, unwrap_or}
use Rattle.rewriting.specs.Positions.{Position}
use Rattle.certificates.specs.Reasons.{StepReason, no_such_rule, no_such_hypothesis, no_redex, wrong_count, unbound, condition_fails, too_large, BadStep, Class, left_linear, type3}
use Rattle.certificates.specs.Reasons.{extended_oriented, right_stable, deterministic, Blame, MeasureReason, wrong_shape, wrong_coefficient, overflow_at, smaller_variable}
use Rattle.certificates.specs.Reasons.{smaller_constant, not_ordered, EvidenceReason, not_allowed, not_root, sides_differ, tcap_unifies, tcap_large, conflict_number, conflict_left}
use Rattle.certificates.specs.Reasons.{conflict_unifies, conflict_large, auto_number, auto_any, auto_misses, auto_wide, auto_not_closed, auto_wide_right, auto_reaches, join_left}
use Rattle.certificates.specs.Reasons.{join_right, join_differs, unfeasible_number, unfeasible_first, unfeasible_second, first_reducible, second_reducible, unfeasible_unifies}
use Rattle.certificates.specs.Reasons.{unfeasible_large, SimplificationReason, missing_rule, missing_condition, not_inline, inlined_large, bad_evidence, Rejection, class_fails}
use Rattle.certificates.specs.Reasons.{not_irreducible, measure_fails, unraveling_large, pair_large, too_many_pairs, pair_missing, pair_extra, evidence_fails, foreign, first_bad}
use Rattle.certificates.specs.Reasons.{second_bad, same_term, not_normal, redex_extra, redex_fails, caps_unify, caps_large, simplification_fails}
use Rattle.cops_names.specs.NameTable.{NameTable, variable_at}
use Rattle.cert_grammar.specs.Words.{each_behind, position_text}
use Rattle.concon_run.specs.Paths.{path_text}

abbrev pub step_reason_text : StepReason → List ℕ
step_reason_text no_such_rule = codes "no such rule"
step_reason_text no_such_hypothesis = codes "no such hypothesis"
step_reason_text no_redex = codes "no redex"
step_reason_text wrong_count = codes "wrong count"
step_reason_text unbound = codes "unbound"
step_reason_text condition_fails = codes "condition fails"
step_reason_text too_large = codes "too large"

-- the path, and the reason
abbrev pub bad_step_text : BadStep → List ℕ
bad_step_text bad = path_text bad.path ++ (codes " " ++ step_reason_text bad.reason)

-- three numbers as an overlap or a redex has them
abbrev pub place_text : ℕ → Position → ℕ → List ℕ
place_text i p j = decimal i ++ (codes " " ++ (position_text p ++ (codes " " ++ decimal j)))

abbrev pub class_text : Class → List ℕ
class_text left_linear = codes "left-linear"
class_text type3 = codes "type3"
class_text extended_oriented = codes "oriented"
class_text right_stable = codes "right-stable"
class_text deterministic = codes "deterministic"

-- the name of a variable of a rule; behind steps, where rules have other numbers than in the file and no names are given, its own number
abbrev pub variable_name : Option NameTable → ℕ → ℕ → List ℕ
variable_name (Some names) rule k = unwrap_or (variable_at names rule k) []
variable_name None rule k = codes "|" ++ decimal k

-- where there is a variable
abbrev pub variable_text : Option NameTable → ℕ → Option ℕ → List ℕ
variable_text names rule None = []
variable_text names rule (Some k) = codes " variable " ++ variable_name names rule k

abbrev pub blame_text : Option NameTable → Blame → List ℕ
blame_text names b = (codes "class " ++ (class_text b.class ++ (codes " rule " ++ (decimal b.rule ++ (codes " condition " ++ decimal b.condition))))) ++ variable_text names b.rule b.variable

abbrev pub measure_text : MeasureReason → List ℕ
measure_text (wrong_shape n) = codes "measure shape " ++ decimal n
measure_text (wrong_coefficient n) = codes "measure coefficient " ++ decimal n
measure_text (overflow_at n) = codes "measure overflow rule " ++ decimal n
measure_text (smaller_variable n k) = codes "measure rule " ++ (decimal n ++ (codes " variable |" ++ decimal k))
measure_text (smaller_constant n) = codes "measure rule " ++ (decimal n ++ codes " constant")
measure_text (not_ordered n) = codes "measure rule " ++ (decimal n ++ codes " order")

abbrev pub evidence_reason_text : EvidenceReason → List ℕ
evidence_reason_text not_allowed = codes "not allowed"
evidence_reason_text not_root = codes "trivial not root"
evidence_reason_text sides_differ = codes "trivial sides differ"
evidence_reason_text tcap_unifies = codes "tcap unifies"
evidence_reason_text tcap_large = codes "tcap large"
evidence_reason_text conflict_number = codes "conflict number"
evidence_reason_text conflict_left = codes "conflict left sides"
evidence_reason_text conflict_unifies = codes "conflict unifies"
evidence_reason_text conflict_large = codes "conflict large"
evidence_reason_text auto_number = codes "auto number"
evidence_reason_text auto_any = codes "auto state 0"
evidence_reason_text auto_misses = codes "auto misses"
evidence_reason_text (auto_wide n) = codes "auto wide rule " ++ decimal n
evidence_reason_text (auto_not_closed n states q) = codes "auto not closed rule " ++ (decimal n ++ (codes " states" ++ (each_behind 32 states ++ (codes " to " ++ decimal q))))
evidence_reason_text auto_wide_right = codes "auto wide right side"
evidence_reason_text auto_reaches = codes "auto reaches"
evidence_reason_text (join_left bad) = codes "join left step " ++ bad_step_text bad
evidence_reason_text (join_right bad) = codes "join right step " ++ bad_step_text bad
evidence_reason_text join_differs = codes "join ends differ"
evidence_reason_text unfeasible_number = codes "unfeasible number"
evidence_reason_text (unfeasible_first bad) = codes "unfeasible first step " ++ bad_step_text bad
evidence_reason_text (unfeasible_second bad) = codes "unfeasible second step " ++ bad_step_text bad
evidence_reason_text first_reducible = codes "unfeasible first reducible"
evidence_reason_text second_reducible = codes "unfeasible second reducible"
evidence_reason_text unfeasible_unifies = codes "unfeasible unifies"
evidence_reason_text unfeasible_large = codes "unfeasible large"

abbrev pub simplification_reason_text : SimplificationReason → List ℕ
simplification_reason_text missing_rule = codes "no such rule"
simplification_reason_text missing_condition = codes "no such condition"
simplification_reason_text not_inline = codes "inline"
simplification_reason_text inlined_large = codes "large"
simplification_reason_text (bad_evidence reason) = evidence_reason_text reason

abbrev pub rejection_text : Option NameTable → Rejection → List ℕ
rejection_text names (class_fails blame) = blame_text names blame
rejection_text names (not_irreducible i k) = codes "irreducible rule " ++ (decimal i ++ (codes " condition " ++ decimal k))
rejection_text names (measure_fails reason) = measure_text reason
rejection_text names (unraveling_large i) = codes "unraveling large rule " ++ decimal i
rejection_text names (pair_large i p j) = codes "overlap large " ++ place_text i p j
rejection_text names too_many_pairs = codes "overlaps too many"
rejection_text names (pair_missing i p j) = codes "pair missing " ++ place_text i p j
rejection_text names (pair_extra n) = codes "pair extra " ++ decimal n
rejection_text names (evidence_fails n reason) = (codes "pair " ++ (decimal n ++ codes " ")) ++ evidence_reason_text reason
rejection_text names (foreign which) = codes "peak foreign " ++ decimal which
rejection_text names (first_bad bad) = codes "peak first step " ++ bad_step_text bad
rejection_text names (second_bad bad) = codes "peak second step " ++ bad_step_text bad
rejection_text names same_term = codes "peak same term"
rejection_text names (not_normal which p i) = codes "peak not normal " ++ place_text which p i
rejection_text names (redex_extra n) = codes "peak redex extra " ++ decimal n
rejection_text names (redex_fails n reason) = (codes "peak redex " ++ (decimal n ++ codes " ")) ++ evidence_reason_text reason
rejection_text names caps_unify = codes "peak caps unify"
rejection_text names caps_large = codes "peak caps large"
rejection_text names (simplification_fails n reason) = (codes "simplify " ++ (decimal n ++ codes " ")) ++ simplification_reason_text reason

-- the line that says why a certificate is rejected
abbrev pub rejected_line : Option NameTable → Rejection → List ℕ
rejected_line names reason = codes "REJECTED " ++ (rejection_text names reason ++ codes "\n")
