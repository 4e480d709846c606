use Rattle.cert_text.proofs.Prelude.{map, refl, automaton_view}
use Rattle.cert_grammar.specs.Versions.{first_version}
use Rattle.cert_text.proofs.Openings.{late, first_begun, second_begun}
use Rattle.cert_text.proofs.opening.open_cert.Goals as goal

pub open_second-requires : goal.open_second-requires
open_second-requires c =
    second_begun (record { all_left = refl; fresh = c.new-shares.ensures; not_refused = refl }) (c.first_line-given.ensures c.args.names.now)
    (map automaton_view c.shared_automata-automata.result.items) c.if-second.true (c.shared_automata-automata.ensures.read c.first_line-given.result.0)
    c.shared_automata-automata.ensures.known c.shared_automata-automata.ensures.plain

pub returns-then-second-clause-late : goal.returns-then-second-clause-late
returns-then-second-clause-late c = late c.args.names.now c.args.bytes.now c.open_second.result c.open_second.ensures

pub open_body-requires : goal.open_body-requires
open_body-requires c = record {
  given = c.first_line-given.result.0;
  begun = first_begun (record { all_left = refl; fresh = c.new-shares.ensures; not_refused = refl }) (c.first_line-given.ensures c.args.names.now) c.kind_word-kind.result
      c.if-second.false (c.kind_word-kind.ensures c.args.names.now first_version);
}

pub returns-clause-late : goal.returns-clause-late
returns-clause-late c = late c.args.names.now c.args.bytes.now c.open_body.result c.open_body.ensures
