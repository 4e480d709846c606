use Rattle.std.proofs.Common.{◌<◌, ◌^◌, map, length, None, Some, subst, arith}
use Rattle.interpretations.specs.Linear.{HasShape, AreAllNumbersGood}
use Rattle.interpretations.proofs.Bound.{few_heads}
use Rattle.rewriting.proofs.Laws.{well_formed}
use Rattle.cert_model.specs.CertificateView.{linear_entry_view}
use Rattle.linear_interp.specs.Entries.{BadAnswers}
use Rattle.linear_interp.proofs.Final.{misshapen, shape, bad, all_good_numbers, few_entries, rules_ready, judged}
use Rattle.linear_interp.proofs.judge.Goals as goal
use Rattle.linear_interp.proofs.judge.Goals.{In-Some-first_bad, In_default-first_bad}

pub returns-in-Some : goal.returns-in-Some
returns-in-Some c =
    let es = map linear_entry_view c.args.entries.now in (
      c.requires.fits,
      (
        c.in-Some.k,
        omega arith,
        misshapen c.args.sys.now es _ _ _ _ c.deref.ensures.value c.requires.heads c.arities-arities.ensures c.requires.system c.in-Some.k c.in-Some.ensures,
      ),
    )

-- none is misshapen, and one is bad; they are few
bad_here : (c : In-Some-first_bad) → HasShape c.args.sys.now (map linear_entry_view c.args.entries.now)
    × BadAnswers (length c.args.sys.now.arities) (map linear_entry_view c.args.entries.now) (Some c.in-Some-first_bad.k) × (c.in-Some-first_bad.k < 2 ^ 31)
bad_here c =
    let sys = c.args.sys.now in
    let es = map linear_entry_view c.args.entries.now in
    let s = shape sys es _ _ _ _ c.deref.ensures.value c.requires.heads c.arities-arities.ensures c.requires.system c.in_default.ensures in
    let here = subst (λ xs. BadAnswers (length xs) es (Some c.in-Some-first_bad.k)) c.arities.ensures c.in-Some-first_bad.ensures in
    (s, here, few_entries sys es s (few_heads sys c.args.unraveled.now.system c.requires.system c.rules-rules.ensures.sound) c.in-Some-first_bad.k here)

pub overflow_cast-result-in-Some-first_bad : goal.overflow_cast-result-in-Some-first_bad
overflow_cast-result-in-Some-first_bad c =
    let few = (bad_here (goal.at.overflow_cast-result-in-Some-first_bad c).In-Some-first_bad).2 in omega (arith, few)

pub overflow_add-result-in-Some-first_bad : goal.overflow_add-result-in-Some-first_bad
overflow_add-result-in-Some-first_bad c =
    let few = (bad_here (goal.at.overflow_add-result-in-Some-first_bad c).In-Some-first_bad).2 in omega (arith, few)

pub returns-in-Some-first_bad : goal.returns-in-Some-first_bad
returns-in-Some-first_bad c =
    let (s, here, few) = bad_here (goal.at.returns-in-Some-first_bad c).In-Some-first_bad in
    (c.requires.fits, s, (c.in-Some-first_bad.k, omega arith, bad c.args.sys.now (map linear_entry_view c.args.entries.now) c.in-Some-first_bad.k here))

-- none is misshapen or bad
good_here : (c : In_default-first_bad) → HasShape c.args.sys.now (map linear_entry_view c.args.entries.now)
    × AreAllNumbersGood c.args.sys.now (map linear_entry_view c.args.entries.now)
good_here c =
    let sys = c.args.sys.now in
    let es = map linear_entry_view c.args.entries.now in (
      shape sys es _ _ _ _ c.deref.ensures.value c.requires.heads c.arities-arities.ensures c.requires.system c.in_default.ensures,
      all_good_numbers sys es (subst (λ xs. BadAnswers (length xs) es None) c.arities.ensures c.in_default-first_bad.ensures),
    )

pub judge_rules-requires-clause-ready : goal.judge_rules-requires-clause-ready
judge_rules-requires-clause-ready c =
    let sys = c.args.sys.now in
    let (s, numbers) = good_here (goal.at.judge_rules-requires-clause-ready c).In_default-first_bad in
    rules_ready sys c.args.unraveled.now.system (map linear_entry_view c.args.entries.now) c.rules-rules.result.now c.requires.system
    (well_formed sys c.rules-own_rules.ensures.sound) s numbers c.rules-rules.ensures.rules c.rules-rules.ensures.counted c.rules-rules.ensures.sound

pub returns : goal.returns
returns c =
    let (s, numbers) = good_here (goal.at.returns c).In_default-first_bad in
    judged c.args.sys.now (map linear_entry_view c.args.entries.now) c.args.unraveled.now.system _ c.requires.system c.rules-rules.ensures.rules c.requires.fits s numbers
    c.judge_rules.result c.judge_rules.ensures
