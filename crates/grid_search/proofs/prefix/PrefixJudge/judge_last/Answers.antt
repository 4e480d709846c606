use Rattle.std.proofs.Common.{map, sym, ◌∙◌, arith}
use Rattle.std.proofs.lemmas.Bool.{false≢true}
use Rattle.cert_model.specs.CertificateView.{linear_entry_view}
use Rattle.grid_search.proofs.JudgedRules.{walked, next_at, next_ready, next_dead, one_more, all_walked}
use Rattle.grid_search.proofs.prefix.PrefixJudge.judge_last.Goals as goal

pub completed-init : goal.completed-init
completed-init c =
    record {
      walked = walked c.self.inside c.args.self.now c.args.prefix.now c.rules-rules.result.now c.index.result.now c.deref-number-items.result.now c.self.invariant c.self.view_is c.requires.prefix
          c.rules-rules.ensures.rules c.rules-rules.ensures.counted c.rules-rules.ensures.sound c.index.ensures c.deref-number-items.ensures.value;
      fall = λ k less. absurd (omega (arith, less));
    }

pub overflow_sub-number : goal.overflow_sub-number
overflow_sub-number c = (next_at (map linear_entry_view c.args.prefix.now) c.completed.invariant.walked c.completed.number-index c.completed-test.true).low

pub bounds-rules-number : goal.bounds-rules-number
bounds-rules-number c = (next_at (map linear_entry_view c.args.prefix.now) c.completed.invariant.walked c.completed.number-index c.completed-test.true).high

pub does_fall-requires : goal.does_fall-requires
does_fall-requires c =
    next_ready (map linear_entry_view c.args.prefix.now) c.completed.invariant.walked c.completed.number-index c.completed-test.true c.index-rules-number.result c.index-rules-number.is
    c.requires.prefix

pub returns-then-not-branch : goal.returns-then-not-branch
returns-then-not-branch c =
    next_dead (map linear_entry_view c.args.prefix.now) c.completed.invariant.walked c.completed.number-index c.completed-test.true c.index-rules-number.result c.index-rules-number.is
    (λ f. false≢true (sym c.if-not-branch.true ∙ c.in_ok-does_fall.ensures.1 f))

pub completed-preserved : goal.completed-preserved
completed-preserved c =
    record {
      walked = c.completed.invariant.walked;
      fall = one_more (map linear_entry_view c.args.prefix.now) c.completed.invariant.walked c.completed.number-index c.completed-test.true c.index-rules-number.result
          c.index-rules-number.is c.completed.invariant.fall (c.in_ok-does_fall.ensures.0 c.if-not-branch.false);
    }

pub returns : goal.returns
returns c =
    all_walked (map linear_entry_view c.args.prefix.now) c.completed.invariant.walked c.completed.number-index c.completed-test.false c.completed.invariant.fall c.requires.alive
