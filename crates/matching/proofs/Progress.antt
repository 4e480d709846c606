-- Lists of patterns, matched one after another.
use Rattle.std.proofs.Common.{◌≡◌, suc, List, [], ◌∷◌, length, refl, ap}
use Rattle.rewriting.specs.Terms as math
use Rattle.rewriting.specs.Prelude.{cons, Bindings, Extends, SolvesAll, IsLeastMatch}
use Rattle.rewriting.proofs.LeastMatches.{Solves-extends}
use Rattle.term_core.specs.View.{views}
use Rattle.term_core.specs.declared.terms.Term.{Term}

-- the first patterns are matched, with the rest still to come
pub record Progress (b c : Bindings) (ps ss rest others : math.Terms) : Type 0 where
  pub extends : Extends b c
  pub whole : (d : Bindings) → Extends c d → SolvesAll d rest others → SolvesAll d ps ss
  pub least : (d : Bindings) → Extends b d → SolvesAll d ps ss → Extends c d × SolvesAll d rest others

pub advance : (b c e : Bindings) (ps ss rest others : math.Terms) (p s : math.Term) → Progress b c ps ss (cons p rest) (cons s others) → IsLeastMatch c e p s → Progress b e ps ss rest others
advance b c e ps ss rest others p s h m = record {
  extends = λ x t k. m.extends x t (h.extends x t k);
  whole = λ d f k. h.whole d (λ x t g. f x t (m.extends x t g)) (Solves-extends e d p s f m.solves, k);
  least = λ d f k. (let l = h.least d f k in (m.least d l.0 l.1.0, l.1.1));
}

pub lengths_differ : (d : Bindings) (ps ss : List Term) → SolvesAll d (views ps) (views ss) → length ps ≡ length ss
lengths_differ d [] [] h = refl
lengths_differ d [] (s ∷ ss) h = absurd h
lengths_differ d (p ∷ ps) [] h = absurd h
lengths_differ d (p ∷ ps) (s ∷ ss) h = ap suc (lengths_differ d ps ss h.1)
