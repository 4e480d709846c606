-- The same list by a queue.
use Rattle.std.specs.Prelude.{ℕ, zero, suc, nat_lt, if◌then◌else◌, List, [], ◌∷◌, ◌++◌, map, Option, None, Some, slice_get}
use Rattle.reach_lists.specs.declared.TheConstants.{MOST_LISTED}
use Rattle.rewriting.specs.Terms.{Term}
use Rattle.certificates.specs.Derivations.{no_steps}
use Rattle.reach_lists.specs.Solutions.{Reached}
use Rattle.reach_lists.specs.Lists.{takes}

-- a listed term with its distance from the start
pub record Queued : Type 0 where
  pub reached : Reached
  pub distance : ℕ

abbrev pub queued_terms : List Queued → List Reached
queued_terms q = map (λ (u : Queued). u.reached) q

abbrev pub at_distance : ℕ → Reached → Queued
at_distance e r = record { reached = r; distance = e }

-- the queue, and behind it those of the terms that it takes, at one distance
abbrev pub with_queued : ℕ → List Queued → Reached → List Queued
with_queued e q r = if takes (queued_terms q) r.term then (q ++ at_distance e r ∷ []) else q

abbrev pub with_all_queued : ℕ → List Queued → List Reached → List Queued
with_all_queued e q [] = q
with_all_queued e q (r ∷ rs) = with_all_queued e (with_queued e q r) rs

-- a term of distance below d is handled: its successors are put behind the queue, one farther
abbrev pub handled : (Reached → List Reached) → ℕ → List Queued → Option Queued → List Queued
handled next d q None = q
handled next d q (Some u) = if nat_lt u.distance d then with_all_queued (suc u.distance) q (next u.reached) else q

-- so many terms of the queue are handled, one after the other, from a place on
abbrev pub queue_from : (Reached → List Reached) → ℕ → ℕ → ℕ → List Queued → List Queued
queue_from next d at zero q = q
queue_from next d at (suc n) q = queue_from next d (suc at) n (handled next d q (slice_get q at))

-- the queue that starts with t, of which all terms are handled, since it has at most 2,000
abbrev pub queue : (Reached → List Reached) → ℕ → Term → List Queued
queue next d t = queue_from next d 0 MOST_LISTED (at_distance 0 (record { term = t; by = no_steps }) ∷ [])
