use Rattle.cert_words.proofs.Prelude.{◌≡◌, ◌+◌, ℕ, suc, length, map, subst, arith, bare, Missed}
use Rattle.cert_words.proofs.Choosing.{is_first, missed_bare}
use Rattle.cert_words.proofs.Fronts.{lead_read}
use Rattle.cert_words.proofs.choices.which.Goals as goal

pub returns-in-Some : goal.returns-in-Some
returns-in-Some c = is_first _ _ _ _ _ _ c.leads-test.true c.leads.invariant (lead_read c.in-Some.size c.in-Some.ensures c.split_at.ensures.front c.split_at.ensures.back)

pub leads-preserved : goal.leads-preserved
leads-preserved c =
    let e : suc c.leads.place ≡ c.leads.place + 1 = omega arith in
    subst (λ (k : ℕ). Missed c.args.left.now k (map bare c.args.leads.now)) e (missed_bare _ _ _ _ c.leads-test.true c.leads.invariant c.in_default.ensures)

pub returns : goal.returns
returns c =
    let e : c.leads.place ≡ length c.args.leads.now = omega (arith, c.leads-test.false, c.leads.auto.place-end) in
    subst (λ (k : ℕ). Missed c.args.left.now k (map bare c.args.leads.now)) e c.leads.invariant
