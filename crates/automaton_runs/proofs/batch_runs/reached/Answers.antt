use Rattle.std.proofs.Common.{subst}
use Rattle.std.proofs.lemmas.Result.{IfOk-weaker}
use Rattle.term_core.specs.View.{view}
use Rattle.automaton_runs.specs.Reached.{AreWhere, Reaches}
use Rattle.automaton_runs.specs.Relations.{relation_of}
use Rattle.automaton_runs.specs.declared.relations.Evaluated.{Evaluated}
use Rattle.automaton_runs.proofs.Evaluated.{copied}
use Rattle.automaton_runs.proofs.batch_runs.reached.Goals as goal

pub returns-in-Stored : goal.returns-in-Stored
returns-in-Stored c =
    let P = Reaches c.args.index.now c.args.names.now (view c.args.t.now) in
    let here = subst (λ (e : Evaluated). AreWhere c.args.batch.now (Reaches c.args.index.now c.args.names.now (view c.args.t.now)) (relation_of e)) c.in-Stored.is c.in_ok-relation.ensures in
    IfOk-weaker c.copy.result _ (AreWhere c.args.batch.now P) (λ s same. copied c.args.batch.now P c.in-Stored.relation.now s here same) c.copy.ensures

pub returns-in-Made : goal.returns-in-Made
returns-in-Made c = subst (λ (e : Evaluated). AreWhere c.args.batch.now (Reaches c.args.index.now c.args.names.now (view c.args.t.now)) (relation_of e)) c.in-Made.is c.in_ok-relation.ensures
