-- How long the choices for arguments are.
use Rattle.std.proofs.Common.{◌≡◌, ℕ, List, [], ◌∷◌, length, ap, arith}
use Rattle.std.proofs.Common.{length-append}
use Rattle.rewriting.specs.Terms as math
use Rattle.rewriting.specs.Variables.{variable_occurrences, variable_occurrences_of}
use Rattle.automata.specs.Runs.{Moves, ReachBy, ReachAllBy}

mutual
  pub choice_length : (M : Moves) (t : math.Term) (cs : List ℕ) (q : ℕ) → ReachBy M t cs q → length cs ≡ length (variable_occurrences t)
  choice_length M (math.var x) cs q h = ap length h
  choice_length M (math.app f ts) cs q (qs, has, r) = choice_lengths M ts cs qs r

  pub choice_lengths : (M : Moves) (ts : math.Terms) (cs qs : List ℕ) → ReachAllBy M ts cs qs → length cs ≡ length (variable_occurrences_of ts)
  choice_lengths M math.nil cs qs h = ap length h.0
  choice_lengths M (math.cons t ts) cs [] h = absurd h
  choice_lengths M (math.cons t ts) cs (q ∷ qs) (before, after, e, one, others) =
      let first = choice_length M t before q one in
      let rest = choice_lengths M ts after qs others in
      let whole = ap length e in
      omega (arith, length-append before after, length-append (variable_occurrences t) (variable_occurrences_of ts))
