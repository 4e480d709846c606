-- What walks through items answer, by what they paid.
use Rattle.std.specs.Prelude.{ℕ, ◌≡◌, List, Result, Ok, Err}
use Rattle.cc_count.specs.Counts.{Counts, Spends}
use Rattle.cc_count.specs.declared.Sought.{Sought}
use Rattle.cc_count.specs.declared.Sought.TheVariants.{Found, Nothing, Spent}
use Rattle.first_found.specs.Items.{NoneGives, cost_of, IsFirst, IsStopped}
use Rattle.first_found.specs.Spaces.{Ending, found, nothing, spent}

-- what was sought, as what a search ends with
abbrev pub sought_ending : {T B : Type 0} → (T → B) → Sought T → Ending B
sought_ending view (Found x) = found (view x)
sought_ending view Nothing = nothing
sought_ending view Spent = spent

-- the first good thing, at the cost that was paid; that it lacks one, at the cost of the whole; or that the budget ended
abbrev pub EndsWith : {B : Type 0} → (B → ℕ → Type 0) → Type 0 → ℕ → (ℕ → Type 0) → Counts → Counts → Ending B → Type 0
EndsWith First Lacks whole Stops before after (found b) = (n : ℕ) × Spends before n after × First b n
EndsWith First Lacks whole Stops before after nothing = Spends before whole after × Lacks
EndsWith First Lacks whole Stops before after spent = (n : ℕ) × Spends before n after × (after.left ≡ 0) × Stops n

-- what the first item gives that gives anything; that none does; or that the budget ended
abbrev pub EndsSo : {A B : Type 0} → (A → ℕ) → (A → B → Type 0) → List A → Counts → Counts → Ending B → Type 0
EndsSo cost Gives items = EndsWith (IsFirst cost Gives items) (NoneGives Gives items) (cost_of cost items) (IsStopped cost Gives items)

-- the same of an answer; `view` says how it ends the walk
abbrev pub Walks : {R E A B : Type 0} → (R → Ending B) → (A → ℕ) → (A → B → Type 0) → List A → Counts → Counts → Result R E → Type 0
Walks view cost Gives items before after (Ok answer) = EndsSo cost Gives items before after (view answer)
Walks view cost Gives items before after (Err e) = (n : ℕ) × Spends before n after
