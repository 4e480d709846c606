-- Whether rigid caps clash, by what stands for them.
use Rattle.std.proofs.Common.{◌≡◌, ◌^◌, inl, inr, Bool, true, false, List, Option, None, Some, Ok, sym, ap, ◌∙◌, arith}
use Rattle.std.specs.Prelude.{IfSome}
use Rattle.std.proofs.lemmas.Bool.{false≢true}
use Rattle.rewriting.specs.Prelude.{Term, System}
use Rattle.unifier_run.specs.Run.{Binding, unifier, clash, too_large}
use Rattle.caps.specs.Caps.{kept}
use Rattle.caps.specs.Evidence.{IsRigidOutcome, IsPairLarge}
use Rattle.caps.proofs.Unique.{one_outcome}
use Rattle.term_core.specs.View.{view}
use Rattle.term_core.specs.declared.terms.Term as program
use Rattle.tcap_infeasible.specs.Clashes.{do_clash}
use Rattle.tcap_infeasible.proofs.Clashes.{first_open, second_open}
use Rattle.tcap_infeasible.proofs.Made.{made_answers}
use Rattle.noncon_search.specs.Ends.{StandsForCap}
use Rattle.noncon_search.specs.Laying.{DoMeet}
use Rattle.noncon_search.specs.Answers.{CapsAnswers}

-- there is one outcome
module _ (sys : System) (u v : Term) where
  pub unify_none : (b : List Binding) → IsRigidOutcome sys u v (unifier b) → IsRigidOutcome sys u v clash → ⊥
  unify_none b h k = let same = (one_outcome sys kept u v).one clash (unifier b) k h in cc

  pub large_none : IsPairLarge sys kept u v → IsRigidOutcome sys u v clash → ⊥
  large_none (inl (inl h)) k = ((one_outcome sys kept u v).never_both clash k).0 h
  large_none (inl (inr h)) k = ((one_outcome sys kept u v).never_both clash k).1 h
  large_none (inr h) k = let same = (one_outcome sys kept u v).one clash too_large k h in cc

module _ (sys : System) (u v c d : Term) where
  never_clash : StandsForCap sys u c → StandsForCap sys v d → do_clash (2 ^ 31) c d ≡ false → IsRigidOutcome sys u v clash → ⊥
  never_clash (inl h) (inl k) e o = let run = made_answers sys (2 ^ 31) u v c d h k false (sym e) in unify_none sys u v run.0 run.1 o
  never_clash (inl h) (inr (large, is)) e o = large_none sys u v (inl (inr large)) o
  never_clash (inr (large, is)) k e o = large_none sys u v (inl (inl large)) o

  does_clash : StandsForCap sys u c → StandsForCap sys v d → do_clash (2 ^ 31) c d ≡ true → IsRigidOutcome sys u v clash
  does_clash (inl h) (inl k) e = made_answers sys (2 ^ 31) u v c d h k true (sym e)
  does_clash (inl h) (inr (large, is)) e = absurd (false≢true (sym (second_open (2 ^ 31) c (2 ^ 31) (omega arith)) ∙ ap (do_clash (2 ^ 31) c) (sym is) ∙ e))
  does_clash (inr (large, is)) k e = absurd (false≢true (sym (first_open (2 ^ 31) (2 ^ 31) d (omega arith)) ∙ ap (λ z. do_clash (2 ^ 31) z d) (sym is) ∙ e))

  pub caps_answer : StandsForCap sys u c → StandsForCap sys v d → (b : Bool) → b ≡ do_clash (2 ^ 31) c d → CapsAnswers sys u v (Ok b)
  caps_answer h k true e = does_clash h k (sym e)
  caps_answer h k false e = never_clash h k (sym e)

pub never_met : (sys : System) (u v : Term) (o p : Option program.Term) → IfSome o (λ c. StandsForCap sys u (view c)) → IfSome p (λ d. StandsForCap sys v (view d)) → DoMeet o p
    → IsRigidOutcome sys u v clash → ⊥
never_met sys u v None p h k m = absurd m
never_met sys u v (Some c) None h k m = absurd m
never_met sys u v (Some c) (Some d) h k m = never_clash sys u v (view c) (view d) h k m
