use Rattle.std.proofs.Common.{ℕ, length, flat_map, map, Result}
use Rattle.term_core.specs.View.{view}
use Rattle.cert_model.specs.CertificateView.{redex_view}
use Rattle.validity.specs.declared.CheckError.{CheckError}
use Rattle.redex_conditions.specs.Judged.{IsJudgedAt}
use Rattle.redex_conditions.specs.Redexes.{part_redexes, redexes}
use Rattle.noncon_check.specs.Walks.{PlacesAnswer}
use Rattle.redex_conditions.proofs.Parts.{AreAhead}
use Rattle.noncon_check.proofs.redexes.Judge.judge_parts.Given as goal

abbrev pub invariant-parts : goal.invariant-parts
invariant-parts l = record {
  ahead : AreAhead (view l.end) l.walk.rest;
  rest : (a : Result ℕ CheckError)
      → PlacesAnswer (IsJudgedAt l.self.sys.now l.self.own (view l.end)) (map redex_view l.self.entries.now) l.next (flat_map (part_redexes l.self.sys.now l.self.which) l.walk.rest) a
      → PlacesAnswer (IsJudgedAt l.self.sys.now l.self.own (view l.end)) (map redex_view l.self.entries.now) l.at (redexes l.self.sys.now l.self.which (view l.end)) a;
}

abbrev pub decreases-parts : goal.decreases-parts
decreases-parts l = length l.walk.rest
