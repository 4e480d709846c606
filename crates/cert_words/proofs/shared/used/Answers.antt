use Rattle.cert_words.proofs.Lemmas.{use_run, use_bad, use_heavy, only, Some, ap, refl, Shared, bad_share, too_many, unfolded}
use Rattle.cert_words.proofs.Walking.{front_same, went, stopped, stuck_stops}
use Rattle.cert_words.specs.declared.error.CertError.TheVariants.{BadShare, TooMany}
use Rattle.cert_words.specs.declared.error.CertCount.TheVariants.{Unfolded}
use Rattle.cert_words.proofs.shared.used.Goals as goal

pub returns-in_default-clause-read : goal.returns-in_default-clause-read
returns-in_default-clause-read c = λ names i new e. (c.in_default.ensures.at names i (_, new, e) _ _).read

pub returns-in-Good-clause-read : goal.returns-in-Good-clause-read
returns-in-Good-clause-read c = λ names i new e.
    let h = c.in-Some.ensures.0 in
    let good = rw h.same at c.in-Good.ensures in
    rw h.same (went h.none h.none (front_same _ _ (ap (λ (z : Shared). z.texts) good.2)) (use_run names c.args.end c.args.at.now (only e refl h) c.in-Some.ensures.1 good))

pub returns-in-Bad-clause-read : goal.returns-in-Bad-clause-read
returns-in-Bad-clause-read c = λ names i new e.
    let h = c.in-Some.ensures.0 in
    let bad = rw h.same at c.in-Bad.ensures in
    rw h.same (stopped (BadShare c.in-Some.found.here) h.none refl (front_same _ _ (ap (λ (z : Shared). z.texts) bad.1))
    (stuck_stops names c.args.end i c.args.at.now.left.now c.args.at.now.shares (Some (bad_share, c.in-Some.found.here))
    (rw h.place (use_bad names c.args.end c.args.at.now (only e refl h) c.in-Some.ensures.1 bad.0))))

pub returns-in-Heavy-clause-read : goal.returns-in-Heavy-clause-read
returns-in-Heavy-clause-read c = λ names i new e.
    let h = c.in-Some.ensures.0 in
    let heavy = rw h.same at c.in-Heavy.ensures in
    rw h.same (stopped (TooMany Unfolded c.in-Some.found.here) h.none refl (front_same _ _ (ap (λ (z : Shared). z.texts) heavy.2))
    (stuck_stops names c.args.end i c.args.at.now.left.now c.args.at.now.shares (Some (too_many unfolded, c.in-Some.found.here))
    (rw h.place (use_heavy names c.args.end c.args.at.now (only e refl h) c.in-Some.ensures.1 heavy.0 heavy.1))))
