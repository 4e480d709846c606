-- Caps laid one upon the other: their holes are the variables from 2^31 on.
use Rattle.std.specs.Prelude.{ℕ, ◌≡◌, ◌^◌, Bool, true, false, nat_lt, if◌then◌else◌, Option, None, Some}
use Rattle.rewriting.specs.Terms as math
use Rattle.rewriting.specs.Terms.{Terms, var, app, nil, cons}
use Rattle.term_core.specs.View.{view}
use Rattle.term_core.specs.declared.terms.Term.{Term}
use Rattle.tcap_infeasible.specs.Clashes.{do_clash}
use Rattle.noncon_search.specs.declared.overlay.Overlay.{Overlay}

-- a term with what stands in another one at its variables from n on
abbrev mutual
  pub laid : ℕ → math.Term → math.Term → math.Term
  laid n (var x) u = if nat_lt x n then var x else u
  laid n (app f ts) (var y) = app f ts
  laid n (app f ts) (app g us) = app f (all_laid n ts us)

  pub all_laid : ℕ → Terms → Terms → Terms
  all_laid n nil us = nil
  all_laid n (cons t ts) nil = cons t ts
  all_laid n (cons t ts) (cons u us) = cons (laid n t u) (all_laid n ts us)

-- the cap was made, and what clashes with it clashes with the whole
abbrev pub LiesIn : math.Term → Option Term → Type 0
LiesIn whole None = ⊥
LiesIn whole (Some c) = (v : math.Term) → do_clash (2 ^ 31) whole v ≡ false → do_clash (2 ^ 31) (view c) v ≡ false

-- as long as the overlay is open, the cap lies in it
abbrev pub IsUnder : Overlay → Option Term → Type 0
IsUnder o c = o.is_open ≡ true → LiesIn (view o.whole) c

-- both caps were made, and they do not clash
abbrev pub DoMeet : Option Term → Option Term → Type 0
DoMeet None d = ⊥
DoMeet (Some c) None = ⊥
DoMeet (Some c) (Some d) = do_clash (2 ^ 31) (view c) (view d) ≡ false

-- a cap was laid upon those that lay there, and where it is said so, it meets each of them
pub record IsLaid (before after : Overlay) (cap : Option Term) (is_met : Bool) : Type 0 where
  pub kept : (c : Option Term) → IsUnder before c → IsUnder after c
  pub added : IsUnder after cap
  pub met : is_met ≡ true → (c : Option Term) → IsUnder before c → DoMeet c cap
