use Rattle.std.proofs.Common.{sym, subst, ◌<◌, ◌≤◌, length, arith, true}
use Rattle.flatterm.specs.declared.Cell.TheVariants.{Var, Fun}
use Rattle.flatterm.proofs.Marking.{IsReading, holds_it, reading_from, read_variable, no_begin, begins_next, not_last_end, reading_on, read_symbol}
use Rattle.flatterm.proofs.terms.+subterm_at.Goals as goal

pub each-init : goal.each-init
each-init t c = let d = c.args.chain.now in let i = c.args.mark.now.index.number in let w = c.in-Fun in let m = c.go_on.new.mark in
    subst (λ ts. IsReading d.items i w.f w.n ts m.index.number m.at) (sym c.in_ok-args-in-Fun.ensures.items)
    (reading_from d.before d.items (d.after, true) i w.f w.n c.look-here.result m.at m.index.number c.requires.1 c.look-here.ensures
    (holds_it c.look-here.result.body.cell c.in-Some.cell (Fun w.f w.n) c.in-Some.is w.is) c.go_on.ensures.0 c.go_on.ensures.1)

pub subterm_at-requires : goal.subterm_at-requires
subterm_at-requires t c = let d = c.args.chain.now in let i = c.args.mark.now.index.number in let w = c.in-Fun in let m = c.each.mark in let s = c.each.invariant in
    let less : length c.each.args.items < w.n = omega (arith, c.each-test.true, c.len.ensures, c.each.args.ok.0) in
    (omega (arith, s.place, c.requires.0.0, s.here.0), (s.here, begins_next d.items i w.f w.n c.each.args.items m.index.number m.at s less))

pub go_on-requires-in-each : goal.go_on-requires-in-each
go_on-requires-in-each t c = let d = c.args.chain.now in let i = c.args.mark.now.index.number in let w = c.in-Fun in let m = c.each.mark in let s = c.each.invariant in let k = c.subterm_at.new.mark in
    let less : length c.each.args.items < w.n = omega (arith, c.each-test.true, c.len.ensures, c.each.args.ok.0) in
    let r = c.in_ok-subterm_at-in-Fun.ensures in
    (r.3, not_last_end d.items i w.f w.n c.each.args.items m.index.number m.at c.in_ok-subterm_at-in-Fun.field-0 k.index.number k.at s less r)

pub each-preserved : goal.each-preserved
each-preserved t c = let d = c.args.chain.now in let i = c.args.mark.now.index.number in let w = c.in-Fun in let m = c.each.mark in let s = c.each.invariant in
    let k = c.subterm_at.new.mark in let l = c.go_on-in-each.new.mark in
    let less : length c.each.args.items < w.n = omega (arith, c.each-test.true, c.len.ensures, c.each.args.ok.0) in
    let r = c.in_ok-subterm_at-in-Fun.ensures in
    subst (λ ts. IsReading d.items i w.f w.n ts l.index.number l.at) (sym c.in_ok-push-in-Fun.ensures.items)
    (reading_on d.items i w.f w.n c.each.args.items m.index.number m.at c.in_ok-subterm_at-in-Fun.field-0 k.index.number k.at l.index.number l.at s less r
    c.go_on-in-each.ensures.0 c.go_on-in-each.ensures.1)

pub returns-after-each : goal.returns-after-each
returns-after-each t c = let d = c.args.chain.now in let i = c.args.mark.now.index.number in let w = c.in-Fun in let m = c.each.mark in
    let more : w.n ≤ length c.each.args.items = omega (arith, c.each-test.false, c.len.ensures, c.each.args.ok.0) in
    read_symbol d.items i w.f w.n c.each.args m.index.number m.at c.each.invariant more

pub returns-in-Var : goal.returns-in-Var
returns-in-Var t c = let d = c.args.chain.now in let i = c.args.mark.now.index.number in let m = c.go_on.new.mark in
    read_variable d.before d.items (d.after, true) i c.in-Var.x c.look-here.result m.at m.index.number c.requires.1 c.look-here.ensures
    (holds_it c.look-here.result.body.cell c.in-Some.cell (Var c.in-Var.x) c.in-Some.is c.in-Var.is) c.go_on.ensures.0 c.go_on.ensures.1

pub returns-in-None : goal.returns-in-None
returns-in-None t c = let d = c.args.chain.now in absurd (no_begin d.before d.items (d.after, true) c.args.mark.now.index.number c.look-here.result c.requires.1 c.look-here.ensures c.in-None.is)
