use Rattle.std.proofs.Common.{rules, ◌≡◌, ◌+◌, ◌-◌, ◌∙◌, refl, sym, arith}
use Rattle.term_core.specs.View.{view}
use Rattle.derivation.proofs.Ways.{low, high, inside, whole, stood}
use Rattle.derivation.proofs.places.+exchange.Goals as goal

pub overflow_sub-k : goal.overflow_sub-k
overflow_sub-k t c =
    let is = sym c.replace-2.ensures.value ∙ c.in-Fun.is in
    low c.args.t.now c.in-Fun.f c.in-Fun.args c.args.p.now c.in-Some.rest.now c.in-Some.k.now is c.in-Some.ensures.cases.0 c.requires.there

pub index_mut-requires : goal.index_mut-requires
index_mut-requires t c =
    let is = sym c.replace-2.ensures.value ∙ c.in-Fun.is in
    let split = c.in-Some.ensures.cases.0 in
    let least = low c.args.t.now c.in-Fun.f c.in-Fun.args c.args.p.now c.in-Some.rest.now c.in-Some.k.now is split c.requires.there in
    let most = high c.args.t.now c.in-Fun.f c.in-Fun.args c.args.p.now c.in-Some.rest.now c.in-Some.k.now is split c.requires.there in
    let len = c.in-Fun.args.ok.0 in
    omega (arith, least, most, len)

pub exchange-was-requires : goal.exchange-was-requires
exchange-was-requires t c =
    let is = sym c.replace-2.ensures.value ∙ c.in-Fun.is in
    let split = c.in-Some.ensures.cases.0 in
    let least = low c.args.t.now c.in-Fun.f c.in-Fun.args c.args.p.now c.in-Some.rest.now c.in-Some.k.now is split c.requires.there in
    let next : c.in-Some.k.now - 1 + 1 ≡ c.in-Some.k.now = omega (arith, least) in (
      search rules,
      inside c.args.t.now c.in-Fun.f c.in-Fun.args c.args.p.now c.in-Some.rest.now c.in-Some.k.now is split c.requires.there
          (c.in-Some.k.now - 1) c.index_mut.result.now next c.index_mut.ensures.value,
    )

pub returns-in-Fun-clause-was : goal.returns-in-Fun-clause-was
returns-in-Fun-clause-was t c =
    let is = sym c.replace-2.ensures.value ∙ c.in-Fun.is in
    let split = c.in-Some.ensures.cases.0 in
    let least = low c.args.t.now c.in-Fun.f c.in-Fun.args c.args.p.now c.in-Some.rest.now c.in-Some.k.now is split c.requires.there in
    let next : c.in-Some.k.now - 1 + 1 ≡ c.in-Some.k.now = omega (arith, least) in
    stood c.args.t.now c.in-Fun.f c.in-Fun.args c.args.p.now c.in-Some.rest.now c.in-Some.k.now is split c.requires.there (c.in-Some.k.now - 1) c.index_mut.result.now next
    c.index_mut.ensures.value (view c.exchange-was.result) c.exchange-was.ensures.was

pub returns-in-Fun-clause-put : goal.returns-in-Fun-clause-put
returns-in-Fun-clause-put t c =
    let is = sym c.replace-2.ensures.value ∙ c.in-Fun.is in
    let split = c.in-Some.ensures.cases.0 in
    let least = low c.args.t.now c.in-Fun.f c.in-Fun.args c.args.p.now c.in-Some.rest.now c.in-Some.k.now is split c.requires.there in
    let next : c.in-Some.k.now - 1 + 1 ≡ c.in-Some.k.now = omega (arith, least) in
    whole c.args.t.now c.in-Fun.f c.in-Fun.args c.args.p.now c.in-Some.rest.now c.in-Some.k.now is split c.requires.there _ (c.in-Some.k.now - 1) c.index_mut.result.now
    c.exchange-was.new.t (view c.args.part) next c.index_mut.ensures.value refl c.exchange-was.ensures.put
