-- The cases in which the weaker statements hold.
use Rattle.std.proofs.Common.{refl, arith}
use Rattle.rewriting.specs.Prelude.{done, constant}
use Rattle.measure.proofs.NoRules.{no_rules_bound}
use Rattle.level_theorem.proofs.Counterexamples.{forked_apart}
use Rattle.join_systems.specs.FileRelation.{IsFileTerm}
use Rattle.join_systems.proofs.Files.{files_are_apart}
use Rattle.level_theorem.specs.Example.{forked}
use Rattle.weaker_statements.specs.Peaks.{EndsMatter}
use Rattle.weaker_statements.specs.Measures.{JudgementsMatter}

-- the constants a, b and c
a_is : IsFileTerm forked (constant 0)
a_is = ((refl, tt), (omega arith, tt))

b_is : IsFileTerm forked (constant 1)
b_is = ((refl, tt), (omega arith, tt))

c_is : IsFileTerm forked (constant 2)
c_is = ((refl, tt), (omega arith, tt))

pub ends_matter : EndsMatter
ends_matter = (
  (
    constant 1,
    constant 2,
    record {
      terms = (a_is, b_is, c_is);
      one = forked_apart.0;
      other = forked_apart.1;
      apart = forked_apart.2;
      file_one = files_are_apart.reaches forked (constant 0) (constant 1) a_is b_is forked_apart.0;
      file_other = files_are_apart.reaches forked (constant 0) (constant 2) a_is c_is forked_apart.1;
      file_apart = files_are_apart.apart forked (constant 1) (constant 2) forked_apart.2;
    },
  ),
  λ h. (h.apart (constant 0) (constant 0) (record { first = refl; second = refl })).apart (constant 0) done done,
)

pub judgements_matter : JudgementsMatter
judgements_matter = record { bounds = no_rules_bound; is_good = refl; is_bad = refl }
