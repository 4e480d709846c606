use Rattle.std.proofs.Common.{arith}
use Rattle.cert_shares.proofs.Uses.{found_in, heavy_answer, good_answer}
use Rattle.cert_shares.proofs.shares.Shares.take.Goals as goal

pub returns-then-sum : goal.returns-then-sum
returns-then-sum c =
    let l = c.in-Some.ensures.lookup.3 in
    let i = c.self.inside in
    let t = c.in-Some.text.now in
    let f = found_in _ _ i.used i.unfolded _ t c.as_slice.ensures.keys c.if-number-eq0.false c.if-number-self.false l.0 (l.1 t) in
    heavy_answer _ _ _ _ c.self.view_is f (let sum = c.saturating_add-sum.ensures in let over = c.if-sum.true in omega arith)

pub returns-else-sum : goal.returns-else-sum
returns-else-sum c =
    let l = c.in-Some.ensures.lookup.3 in
    let i = c.self.inside in
    let t = c.in-Some.text.now in
    let f = found_in _ _ i.used i.unfolded _ t c.as_slice.ensures.keys c.if-number-eq0.false c.if-number-self.false l.0 (l.1 t) in
    let sum = c.saturating_add-sum.ensures in
    let below = c.if-sum.false in
    good_answer i.texts.keys _ _ _ _ _ _ _ c.self.view_is f (omega arith) (omega arith) c.max-self-inside.ensures
