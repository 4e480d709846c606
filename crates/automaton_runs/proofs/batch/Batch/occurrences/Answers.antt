use Rattle.std.proofs.Common.{◌≡◌, ℕ, [], length, get_or, length-append, subst, arith}
use Rattle.std.proofs.lemmas.Option.{slice_get-get_or}
use Rattle.automaton_runs.specs.Choices.{Batch, Holds, choice_of, occurrences_of}
use Rattle.rewriting.proofs.Members.{place_among}
use Rattle.automaton_runs.proofs.batch.Batch.occurrences.Goals as goal

pub returns-clause-wide : goal.returns-clause-wide
returns-clause-wide c =
    subst (λ (b : Batch). (k : ℕ) → Holds b k → length (choice_of b k) ≡ occurrences_of b) c.self.view_is
    (λ k holds.
    let front = c.self.inside.front.now in
    let tail = get_or c.self.inside.tails.now.lists k [] in
    let long = c.width.ensures.wide (get_or c.self.inside.tails.now.lists k []) (place_among c.self.inside.tails.now.lists k (get_or c.self.inside.tails.now.lists k [])
    (slice_get-get_or c.self.inside.tails.now.lists k [] holds)) in
    omega (arith, length-append c.self.inside.front.now (get_or c.self.inside.tails.now.lists k [])))
