-- Systems from files in which the same terms are reached at every level have one file's relation.
use Rattle.std.proofs.Common.{ℕ, zero, suc, inl, inr, sym, subst}
use Rattle.rewriting.specs.Prelude.{HasSymbolsBelow, IsWellFormed}
use Rattle.rewriting.proofs.Common.{Term, done, more, IsOver, System, Reaches}
use Rattle.rewriting.proofs.Laws.{keeps_over}
use Rattle.rewriting.proofs.Over.{IsOver-apply, step_over}
use Rattle.join_systems.specs.JoinReduction.{JReaches}
use Rattle.join_systems.specs.FileRelation.{IsFileTerm, FileReaches, IsFileConfluent, AreFileApart, IsFromFile}
use Rattle.join_systems.proofs.Levels.{jlevel, jlevel_of_step}
use Rattle.join_systems.proofs.Files.{by_cases, files_are_apart, reaches_back, told}
use Rattle.simplifications.specs.Laws.{AreSameByLevels, SystemsOfOneLevelsAreOneFile}
use Rattle.simplifications.proofs.Alike.{same_back, reaches_to}

-- where the file's relation leads, the system does
reaches_of_file : (sys : System) (u v : Term) → IsFromFile sys → FileReaches sys u v → Reaches sys u v
reaches_of_file sys u v (inl (j, h)) p = subst (λ z. Reaches z u v) (sym h.is) (reaches_back j (p.joined j h))
reaches_of_file sys u v (inr all) p = p.others (told.all_own sys all)

-- join rules lead from terms over their symbols to such terms
jlevel_over : (j : System) → IsWellFormed j → (n : ℕ) (u v : Term) → jlevel j n u v → IsOver j.arities u → IsOver j.arities v
jlevel_over j well zero u v h over = absurd h
jlevel_over j well (suc n) u v h over =
    step_over j.arities
    (λ a b c. subst (IsOver j.arities) (sym c.right) (IsOver-apply j.arities c.by c.rule.right c.values (well c.is_rule.0 c.rule c.is_rule.1).over.1.0)) h over

jreaches_over : (j : System) → IsWellFormed j → {u v : Term} → JReaches j u v → IsOver j.arities u → IsOver j.arities v
jreaches_over j well done over = over
jreaches_over j well (more h p) over = jreaches_over j well p (jlevel_over j well h.0 _ _ (jlevel_of_step j h.0 _ _ h.1) over)

-- so the file's relation leads from file terms to file terms
file_term_kept : (sys : System) (u v : Term) → IsWellFormed sys → IsFromFile sys → IsFileTerm sys u → FileReaches sys u v → IsFileTerm sys v
file_term_kept sys u v well (inl (j, h)) at p =
    (by_cases.terms_of_joined j sys v h).1 (jreaches_over j h.well_formed (p.joined j h) ((by_cases.terms_of_joined j sys u h).0 at))
file_term_kept sys u v well (inr all) at p = (by_cases.terms_where_all_own sys v all).1 (keeps_over sys u v well at.0 (p.others (told.all_own sys all)))

module _ (sys other : System) (well : IsWellFormed sys) (well' : IsWellFormed other) (file : IsFromFile sys) (file' : IsFromFile other) (same : AreSameByLevels sys other) where
  term_to : (t : Term) → IsFileTerm sys t → IsFileTerm other t
  term_to t at = (subst (λ a. IsOver a t) (sym same.arities) at.0, subst (λ n. HasSymbolsBelow n t) (sym same.own) at.1)

  pub file_to : (u v : Term) → IsFileTerm sys u → IsFileTerm sys v → FileReaches sys u v → FileReaches other u v
  file_to u v at au p = files_are_apart.reaches other u v (term_to u at) (term_to v au) (reaches_to sys other same (reaches_of_file sys u v file p))

module _ (sys other : System) (well : IsWellFormed sys) (well' : IsWellFormed other) (file : IsFromFile sys) (file' : IsFromFile other) (same : AreSameByLevels sys other) where
  abbrev back : AreSameByLevels other sys
  back = same_back sys other same

  term_there : (t : Term) → IsFileTerm sys t → IsFileTerm other t
  term_there = term_to sys other well well' file file' same

  term_back : (t : Term) → IsFileTerm other t → IsFileTerm sys t
  term_back = term_to other sys well' well file' file back

  file_there : (u v : Term) → IsFileTerm sys u → IsFileTerm sys v → FileReaches sys u v → FileReaches other u v
  file_there = file_to sys other well well' file file' same

  file_back : (u v : Term) → IsFileTerm other u → IsFileTerm other v → FileReaches other u v → FileReaches sys u v
  file_back = file_to other sys well' well file' file back

  pub file_confluent_to : IsFileConfluent sys → IsFileConfluent other
  file_confluent_to c t u v at au av p q =
      let w = c t u v (term_back t at) (term_back u au) (term_back v av) (file_back t u at au p) (file_back t v at av q) in
      (w.0, term_there w.0 w.1, file_there u w.0 (term_back u au) w.1 w.2, file_there v w.0 (term_back v av) w.1 w.3)

  pub file_apart_to : (u v : Term) → IsFileTerm sys u → IsFileTerm sys v → AreFileApart sys u v → AreFileApart other u v
  file_apart_to u v at av a w p q =
      let aw = file_term_kept other u w well' file' (term_there u at) p in
      a w (file_back u w (term_there u at) aw p) (file_back v w (term_there v av) aw q)

pub one_file : SystemsOfOneLevelsAreOneFile
one_file sys other well well' file file' same =
    let back = same_back sys other same in
    let there = term_to sys other well well' file file' same in
    let again = term_to other sys well' well file' file back in
    record {
      terms = λ t. (there t, again t);
      reaches = λ u v at au. (file_to sys other well well' file file' same u v at au, file_to other sys well' well file' file back u v (there u at) (there v au));
      confluent = (file_confluent_to sys other well well' file file' same, file_confluent_to other sys well' well file' file back);
      apart = λ u v at av. (
        file_apart_to sys other well well' file file' same u v at av,
        file_apart_to other sys well' well file' file back u v (there u at) (there v av),
      );
    }
