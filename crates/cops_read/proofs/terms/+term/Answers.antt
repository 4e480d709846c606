use Rattle.std.proofs.Common.{rules, ◌≡◌, ◌+◌, ◌∙◌, false, true, length, ap, arith, add-one}
use Rattle.std.proofs.lemmas.Bool.{lt-ltb}
use Rattle.file_text.specs.Syntax.{count, Node}
use Rattle.cops_read.specs.Heads.{side_at}
use Rattle.cops_read.specs.Texts.{IsTermThere, AreTermsThere}
use Rattle.cops_read.specs.Walks.{TermAnswers, ArgumentsAnswers}
use Rattle.cops_read.proofs.Phrases.{next_phrase, here, later, arguments_of, count_is, stands_within}
use Rattle.cops_read.proofs.Firsts.{handed}
use Rattle.cops_read.proofs.Walks.{head_fails, arguments_fail, whole_variable, whole_symbol, nodes_here, loop_fails, loop_step, loop_end}
use Rattle.cops_read.proofs.terms.+term.Goals as goal

pub read_term-returns-in_err-number-clause-term : goal.read_term-returns-in_err-number-clause-term
read_term-returns-in_err-number-clause-term g t c p rest h =
    let H = g.H.HeadReader in
    let x = c.in-Some.ensures.lookup in
    let place = c.args.place in
    handed (TermAnswers (H.cause (H.kept c.args.reader.now)) (H.block (H.kept c.args.reader.now)) H.tells (H.symbols c.args.reader.now) (H.variables c.args.reader.now)
    (side_at place) place.depth place.argument place.before p (H.symbols c.read_head.new.self) (H.variables c.read_head.new.self))
    c.in_err-number.field-0.0 c.from_residual.result c.from_residual.ensures.1
    (head_fails (H.cause (H.kept c.args.reader.now)) (H.block (H.kept c.args.reader.now)) (H.symbols c.args.reader.now) (H.variables c.args.reader.now)
    (side_at place) place.depth place.argument place.before g.met.H.HeadReader.goes_on
    p (H.node_of c.in-Some.node.now) c.in_err-number.field-0.0 (here H.node_of c.args.nodes.now place.before c.in-Some.node.now p rest x.3.0 x.1 h)
    c.in_err-number.ensures.head)

pub read_term-returns-in-Variable-clause-term : goal.read_term-returns-in-Variable-clause-term
read_term-returns-in-Variable-clause-term g t c p rest h =
    let H = g.H.HeadReader in
    let x = c.in-Some.ensures.lookup in
    let place = c.args.place in
    let is = rw c.in-Variable.is at c.in_ok-number.ensures.head in
    whole_variable (H.cause (H.kept c.args.reader.now)) (H.block (H.kept c.args.reader.now)) (H.symbols c.args.reader.now) (H.variables c.args.reader.now)
    (side_at place) place.depth place.argument place.before
    p (H.node_of c.in-Some.node.now) (H.symbols c.read_head.new.self) (H.variables c.read_head.new.self) c.in-Variable.number
    (here H.node_of c.args.nodes.now place.before c.in-Some.node.now p rest x.3.0 x.1 h) is

pub read_term-returns-in_err-terms-in-Symbol-clause-term : goal.read_term-returns-in_err-terms-in-Symbol-clause-term
read_term-returns-in_err-terms-in-Symbol-clause-term g t c p rest h =
    let H = g.H.HeadReader in
    let x = c.in-Some.ensures.lookup in
    let place = c.args.place in
    let is = rw c.in-Symbol.is at c.in_ok-number.ensures.head in
    let same = here H.node_of c.args.nodes.now place.before c.in-Some.node.now p rest x.3.0 x.1 h in
    let many : c.arguments-count.result ≡ count (arguments_of p) = c.arguments-count.ensures ∙ ap (λ (n : Node). n.arguments) same ∙ count_is p in
    let read = c.in_err-terms-in-Symbol.ensures.terms (arguments_of p) rest many (later H.node_of c.args.nodes.now place.before p rest h) in
    let read' = rw c.in_ok-number.ensures.kept at read in
    handed (TermAnswers (H.cause (H.kept c.args.reader.now)) (H.block (H.kept c.args.reader.now)) H.tells (H.symbols c.args.reader.now) (H.variables c.args.reader.now)
    (side_at place) place.depth place.argument place.before p (H.symbols c.read_arguments.new.reader) (H.variables c.read_arguments.new.reader))
    c.in_err-terms-in-Symbol.field-0.0 c.from_residual-in_err-terms-in-Symbol.result c.from_residual-in_err-terms-in-Symbol.ensures.1
    (arguments_fail (H.cause (H.kept c.args.reader.now)) (H.block (H.kept c.args.reader.now)) (H.symbols c.args.reader.now) (H.variables c.args.reader.now)
    (side_at place) place.depth place.argument place.before
    g.met.H.HeadReader.goes_on p (H.node_of c.in-Some.node.now) (H.symbols c.read_head.new.self) (H.variables c.read_head.new.self) c.in-Symbol.number c.in_err-terms-in-Symbol.field-0.0 same is read')

pub read_term-returns-in_ok-terms-in-Symbol-clause-term : goal.read_term-returns-in_ok-terms-in-Symbol-clause-term
read_term-returns-in_ok-terms-in-Symbol-clause-term g t c p rest h =
    let H = g.H.HeadReader in
    let x = c.in-Some.ensures.lookup in
    let place = c.args.place in
    let is = rw c.in-Symbol.is at c.in_ok-number.ensures.head in
    let same = here H.node_of c.args.nodes.now place.before c.in-Some.node.now p rest x.3.0 x.1 h in
    let many : c.arguments-count.result ≡ count (arguments_of p) = c.arguments-count.ensures ∙ ap (λ (n : Node). n.arguments) same ∙ count_is p in
    let read = c.in_ok-terms-in-Symbol.ensures.terms (arguments_of p) rest many (later H.node_of c.args.nodes.now place.before p rest h) in
    let read' = rw c.in_ok-number.ensures.kept at read in
    whole_symbol (H.cause (H.kept c.args.reader.now)) (H.block (H.kept c.args.reader.now)) (H.symbols c.args.reader.now) (H.variables c.args.reader.now)
    (side_at place) place.depth place.argument place.before
    p (H.node_of c.in-Some.node.now) (H.symbols c.read_head.new.self) (H.symbols c.read_arguments.new.reader) (H.variables c.read_head.new.self)
    (H.variables c.read_arguments.new.reader) c.in-Symbol.number c.in_ok-terms-in-Symbol.terms c.in_ok-terms-in-Symbol.next same is read'

pub read_term-unreachable-requires : goal.read_term-unreachable-requires
read_term-unreachable-requires g t c =
    let (p, rest, h) = c.requires.there in
    let within = lt-ltb c.args.place.before (length c.args.nodes.now) (stands_within g.H.HeadReader.node_of c.args.nodes.now c.args.place.before p rest h) in
    let bad : false ≡ true = c.in_default.ensures.lookup.0 ∙ within in
    absurd (cc)

pub read_term-read_arguments-requires : goal.read_term-read_arguments-requires
read_term-read_arguments-requires g t c κs within =
    let H = g.H.HeadReader in
    let x = c.in-Some.ensures.lookup in
    let (p, rest, h) = c.requires.there in
    let same = here H.node_of c.args.nodes.now c.args.place.before c.in-Some.node.now p rest x.3.0 x.1 h in
    let falls = c.decreases in
    let shallow = c.in_ok-number.ensures.deep in
    let few = c.in_ok-number.ensures.few in
    let there : AreTermsThere H.node_of c.args.nodes.now (c.args.place.before + 1) c.arguments-count.result =
    (arguments_of p, rest, c.arguments-count.ensures ∙ ap (λ (n : Node). n.arguments) same ∙ count_is p, later H.node_of c.args.nodes.now c.args.place.before p rest h) in
    (omega (arith, falls, shallow), search rules)

pub read_arguments-read_term-requires : goal.read_arguments-read_term-requires
read_arguments-read_term-requires g t c κs within =
    let (ps, rest, many, h) = c.requires.there in
    let loop = c.arguments.invariant.read ps rest many h in
    let test = c.arguments-test.true in
    let n = next_phrase ps c.arguments.argument (omega (arith, many)) in
    let few = c.arguments.invariant.few in
    let there : IsTermThere g.H.HeadReader.node_of c.args.nodes.now c.arguments.before = (n.phrase, _, nodes_here loop n) in
    let falls = c.decreases in (omega (arith, falls), search rules)

pub read_arguments-returns-in_err-term-clause-terms : goal.read_arguments-returns-in_err-term-clause-terms
read_arguments-returns-in_err-term-clause-terms g t c ps rest many h =
    let H = g.H.HeadReader in
    let loop = c.arguments.invariant.read ps rest many h in
    let test = c.arguments-test.true in
    let n = next_phrase ps c.arguments.argument (omega (arith, many)) in
    let read = rw c.arguments.invariant.kept at (c.in_err-term.ensures.term n.phrase _ (nodes_here loop n)) in
    let first = c.args.first in
    handed (ArgumentsAnswers (H.cause (H.kept c.args.reader.now)) (H.block (H.kept c.args.reader.now)) H.tells (H.symbols c.args.reader.now) (H.variables c.args.reader.now)
    (side_at first) first.depth first.before ps (H.symbols c.read_term.new.reader) (H.variables c.read_term.new.reader)) c.in_err-term.field-0.0 c.from_residual.result c.from_residual.ensures.1
    (loop_fails loop g.met.H.HeadReader.goes_on n c.in_err-term.field-0.0 read)

pub read_arguments-arguments-preserved : goal.read_arguments-arguments-preserved
read_arguments-arguments-preserved g t c = record {
  read = λ ps rest many h.
      let loop = c.arguments.invariant.read ps rest many h in
      let test = c.arguments-test.true in
      let n = next_phrase ps c.arguments.argument (omega (arith, many)) in
      let read = rw c.arguments.invariant.kept at (c.in_ok-term.ensures.term n.phrase _ (nodes_here loop n)) in
      let next = loop_step loop n (g.H.HeadReader.symbols c.read_term.new.reader) (g.H.HeadReader.variables c.read_term.new.reader) c.in_ok-term.term c.in_ok-term.next read in
      rw (add-one, c.push.ensures.items, c.if-is_err.ensures.negation) next;
  kept = c.in_ok-term.ensures.kept ∙ c.arguments.invariant.kept;
  few = c.in_ok-term.ensures.few;
}

pub read_arguments-returns-clause-terms : goal.read_arguments-returns-clause-terms
read_arguments-returns-clause-terms g t c ps rest many h = loop_end (c.arguments.invariant.read ps rest many h) (let test = c.arguments-test.false in omega (arith, many))
