use Rattle.std.proofs.Common.{ℕ, ◌+◌, length, sym, ap, subst, arith}
use Rattle.std.proofs.lemmas.List.{length_push}
use Rattle.term_core.specs.HeadView.{head_view}
use Rattle.wide_search.specs.Tried.{IsOneAtLeast, AreTriedOf}
use Rattle.wide_search.proofs.GoodNumbers.{one_more}
use Rattle.wide_search.proofs.numbers.first_entry.Goals as goal

pub places-preserved : goal.places-preserved
places-preserved c =
    let head = head_view c.args.head in
    let known = c.places.invariant in
    let cs = c.places.coeffs.items in
    let n = c.least_at.result in
    let put = c.in_ok-push.ensures.items in
    let long = length_push cs n in
    let counted = known.counted in
    let longer = ap length put in
    record {
      within = omega (arith, c.places-test.true);
      counted = omega (arith, long, counted, longer);
      tried = subst (AreTriedOf head (c.args.arity + 1)) (sym put)
          (one_more head (c.args.arity + 1) cs n known.tried
          (record {
            small = omega (arith, c.least_at.ensures.small);
            least = λ h. c.least_at.ensures.least
                (subst (λ (z : ℕ). IsOneAtLeast head (c.args.arity + 1) z) counted h);
          }));
    }

pub returns-clause-count : goal.returns-clause-count
returns-clause-count c = let known = c.places.invariant in omega (arith, known.within, known.counted, c.places-test.false)

pub returns-clause-tried : goal.returns-clause-tried
returns-clause-tried c =
    let known = c.places.invariant in
    subst (λ n. AreTriedOf (head_view c.args.head) n c.places.coeffs.items) (omega (arith, known.within, known.counted, c.places-test.false)) known.tried
