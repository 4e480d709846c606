use Rattle.std.proofs.Common.{◌≡◌, ◌-◌, ◌*◌, ◌<◌, ◌∙◌, ℕ, Vec, Global, length, ap, ap₂, sym, mul_comm, arith}
use Rattle.std.proofs.lemmas.List.{length-map, get_or_default}
use Rattle.automaton_runs.specs.Choices.{as_lists, before_each}
use Rattle.automaton_runs.proofs.ChoiceLists.{choices_before, length_each}
use Rattle.automaton_runs.proofs.listing.tails.Goals as goal

pub pools-preserved : goal.pools-preserved
pools-preserved c =
    let pool = c.index-pools-place-in-pools.result in
    let made = c.pools.made.items in
    let inside : c.pools.place - 1 < length c.args.pools.now = omega (arith, c.pools.invariant.within, c.pools-test.true) in
    let same : c.index-pools-place.result ≡ c.index-pools-place-in-pools.result =
    c.index-pools-place.is ∙ get_or_default c.args.pools.now (c.pools.place - 1) c.index-pools-place.result c.index-pools-place-in-pools.result inside ∙ sym c.index-pools-place-in-pools.is in
    let listed : as_lists c.in_ok-made-2.made.items ≡ before_each c.index-pools-place-in-pools.result.items (as_lists c.pools.made.items) = c.in_ok-made-2.ensures
    ∙ ap₂ before_each c.deref.ensures.value (ap as_lists c.deref-in-pools.ensures.value) in
    let count : length c.in_ok-made-2.made.items ≡ length c.index-pools-place-in-pools.result.items * length c.pools.made.items =
    sym (length-map c.in_ok-made-2.made.items (λ v. v.items)) ∙ ap length listed ∙ length_each c.index-pools-place-in-pools.result.items (as_lists c.pools.made.items)
    ∙ ap (λ (n : ℕ). length c.index-pools-place-in-pools.result.items * n) (length-map c.pools.made.items (λ v. v.items)) in
    let long : c.len-in-pools.result ≡ length c.index-pools-place-in-pools.result.items = c.len-in-pools.ensures ∙ c.index-pools-place.result.ok.0 ∙ ap (λ (v : Vec ℕ Global). length v.items) same in
    let product : c.len.result * c.len-in-pools.result ≡ length c.index-pools-place-in-pools.result.items * length c.pools.made.items =
    ap₂ (λ (m n : ℕ). m * n) (c.len.ensures ∙ c.pools.made.ok.0) long ∙ mul_comm (length c.pools.made.items) (length c.index-pools-place-in-pools.result.items) in
    let low = c.if-saturating_mul-le-MAX_TAILS.true in
    let told = c.saturating_mul.ensures in
    record {
      within = omega (arith, c.pools.invariant.within);
      made = listed ∙ ap (before_each c.index-pools-place-in-pools.result.items) c.pools.invariant.made
          ∙ choices_before c.args.pools.now c.pools.place c.index-pools-place-in-pools.result c.pools-test.true c.pools.invariant.within c.index-pools-place-in-pools.is;
      few = omega arith;
    }
