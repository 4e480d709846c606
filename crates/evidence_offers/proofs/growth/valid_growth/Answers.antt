use Rattle.std.proofs.Common.{None, map, refl, sym, ap, ◌∙◌, subst}
use Rattle.term_core.specs.Prelude.{view, condition_view}
use Rattle.term_core.proofs.Views.{view-Var}
use Rattle.cert_model.specs.EvidenceView.{automaton_view}
use Rattle.evidence_offers.specs.Growth.{MayGive}
use Rattle.evidence_offers.proofs.Growing.{condition_fits, gives_none, gives_none_for, gives_shown}
use Rattle.evidence_offers.proofs.growth.valid_growth.Goals as goal

pub grown-requires : goal.grown-requires
grown-requires c = record {
  fits = condition_fits (map condition_view c.args.conds.now) c.args.cond (condition_view c.in-Some.asked.now) c.requires.fit (sym c.in-Some.ensures);
}

pub returns-in_default : goal.returns-in_default
returns-in_default c = subst (λ z. MayGive c.args.sys.now z None) c.in_default.ensures refl

pub returns-in-Some-2 : goal.returns-in-Some-2
returns-in-Some-2 c =
    let h = rw c.in-Some-2.is at c.in_ok-automaton.ensures in
    gives_shown c.args.sys.now (map condition_view c.args.conds.now) c.args.cond (condition_view c.in-Some.asked.now) (sym c.in-Some.ensures) (automaton_view c.in-Some-2.automaton)
    h.0 c.shown.result c.shown.ensures

pub returns-in-None : goal.returns-in-None
returns-in-None c =
    gives_none c.args.sys.now (map condition_view c.args.conds.now) c.args.cond (condition_view c.in-Some.asked.now) (sym c.in-Some.ensures) (rw c.in-None.is at c.in_ok-automaton.ensures)

pub returns-in-Var : goal.returns-in-Var
returns-in-Var c =
    gives_none_for c.args.sys.now (map condition_view c.args.conds.now) c.args.cond (condition_view c.in-Some.asked.now) (sym c.in-Some.ensures) c.in-Var.field-0
    (ap view c.in-Var.is ∙ view-Var c.in-Var.field-0)
