-- The parts of a term, each with its position, and walks over them.
use Rattle.std.specs.Prelude.{◌≡◌, List, [], ◌∷◌, map, flat_map, option_to_list, Option, None, Some, Result, Ok, Err, refl}
use Rattle.std.specs.Borrow.{Bor}
use Rattle.std.specs.Coded.{Coded, code_by, coded×, coded_ℕ, coded_list}
use Rattle.rewriting.specs.Terms as math
use Rattle.rewriting.specs.Prelude.{Position, subterm, positions, coded_term}
use Rattle.term_core.specs.View.{view}
use Rattle.term_core.specs.declared.terms.Term.{Term}
use Rattle.term_core.specs.declared.terms.NoMemory.{NoMemory}

-- a term that stands at a position
pub record Part : Type 0 where
  pub position : Position
  pub term : math.Term

abbrev pub part : Position → math.Term → Part
part p t = record { position = p; term = t }

-- the part at a position, where the term has the position
abbrev pub part_at : math.Term → Position → List Part
part_at t p = map (part p) (option_to_list (subterm t p))

-- all parts of a term in preorder, the term itself first
abbrev pub parts : math.Term → List Part
parts t = flat_map (part_at t) (positions t)

-- a walk: the position of the part given last, at first the root's, and the parts that are still to come
pub record Walk : Type 0 where
  pub position : Position
  pub rest : List Part

abbrev pub walk : Position → List Part → Walk
walk p rest = record { position = p; rest = rest }

-- the walk over a term, before its first part
abbrev pub walk_of : math.Term → Walk
walk_of t = walk [] (parts t)

-- the next part, which then stands at the new position, or none where none is to come
abbrev pub IsNext : List Part → Option (Bor Term) → Position → List Part → Type 0
IsNext before None p after = (before ≡ []) × (after ≡ [])
IsNext before (Some t) p after = before ≡ part p (view t.now) ∷ after

-- so a walk goes on; after an error it stands where it stood
abbrev pub NextAnswers : Walk → Walk → Result (Option (Bor Term)) NoMemory → Type 0
NextAnswers before after (Ok o) = IsNext before.rest o after.position after.rest
NextAnswers before after (Err e) = after ≡ before

-- codes, by which a program's type may have a walk as its value
abbrev pub coded_part : Coded Part
coded_part = code_by (Position × math.Term) (coded× (coded_list coded_ℕ) coded_term) (λ q. (q.position, q.term)) (λ p. record { position = p.0; term = p.1 }) (λ _. refl)

abbrev pub coded_walk : Coded Walk
coded_walk = code_by (Position × List Part) (coded× (coded_list coded_ℕ) (coded_list coded_part)) (λ w. (w.position, w.rest)) (λ p. record { position = p.0; rest = p.1 }) (λ _. refl)
