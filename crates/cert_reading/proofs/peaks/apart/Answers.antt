use Rattle.cert_reading.proofs.Lemmas.{known_still}
use Rattle.cert_reading.proofs.Prelude.{refl, then_reads, apart, version_by, automata_by}
use Rattle.cert_reading.proofs.peaks.apart.Goals as goal

pub redexes-redexes-requires : goal.redexes-redexes-requires
redexes-redexes-requires c =
    let v = version_by c.args.uses in
    known_still v (automata_by c.args.uses) (c.either.ensures.one c.if-either.true c.args.names.now (apart v) _ _ refl) (tt, tt) c.requires

pub returns-then-either-clause-read : goal.returns-then-either-clause-read
returns-then-either-clause-read c = then_reads (c.either.ensures.one c.if-either.true c.args.names.now _ _ _ refl) c.redexes-redexes.ensures.read

pub returns-clause-read : goal.returns-clause-read
returns-clause-read c =
    let names = c.args.names.now in
    then_reads (c.either.ensures.other c.if-either.false names _ _ _ refl) (then_reads (c.last_word.ensures names _ _ refl) (c.text.ensures.read names _ _ refl))
