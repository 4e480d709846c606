-- The words of a command line, and what they ask for.
use Rattle.std.specs.Prelude.{◌≡◌, ◌⊎◌, ◌∷◌, ℕ, List, [], codes}
use Rattle.shown_systems.specs.declared.skeletons.SkeletonKind.{SkeletonKind}
use Rattle.shown_systems.specs.declared.skeletons.SkeletonKind.TheVariants.{Ortho, Quasi, Peak}
use Rattle.run_parts.specs.Words.{usual_budget, IsBudget}
use Rattle.lens_run.specs.declared.asked.Asked.{Asked}
use Rattle.lens_run.specs.declared.asked.Asked.TheVariants as asked

abbrev pub kind_word : SkeletonKind → List ℕ
kind_word Ortho = codes "ortho"
kind_word Quasi = codes "quasi"
kind_word Peak = codes "peak"

-- what words ask for: with FILE, with FILE and a kind of certificate, with FILE and CERT, with FILE and units
pub data Command : Type 0 where
  show : List ℕ → Command
  skeleton : List ℕ → SkeletonKind → Command
  tell : List ℕ → List ℕ → Command
  picture : List ℕ → List ℕ → Command
  ari : List ℕ → Command
  seek : List ℕ → ℕ → Command

abbrev pub command_view : Asked → Command
command_view (asked.Show file) = show file.now
command_view (asked.Skeleton file kind) = skeleton file.now kind
command_view (asked.Tell file cert) = tell file.now cert.now
command_view (asked.Picture file cert) = picture file.now cert.now
command_view (asked.Ari file) = ari file.now
command_view (asked.Seek file units) = seek file.now units

abbrev pub IsCommand : List (List ℕ) → Command → Type 0
IsCommand words (show file) = words ≡ codes "show" ∷ file ∷ []
IsCommand words (skeleton file kind) = words ≡ codes "show" ∷ file ∷ codes "--skeleton" ∷ kind_word kind ∷ []
IsCommand words (tell file cert) = words ≡ codes "tell" ∷ file ∷ cert ∷ []
IsCommand words (picture file cert) = words ≡ codes "tell" ∷ file ∷ cert ∷ codes "--svg" ∷ []
IsCommand words (ari file) = words ≡ codes "ari" ∷ file ∷ []
IsCommand words (seek file units) =
    ((words ≡ codes "seek" ∷ file ∷ []) × (units ≡ usual_budget))
    ⊎ ((word : List ℕ) × (words ≡ codes "seek" ∷ file ∷ codes "--budget" ∷ word ∷ []) × IsBudget word units)

-- the words are no command
abbrev pub IsNoCommand : List (List ℕ) → Type 0
IsNoCommand words = (command : Command) → IsCommand words command → ⊥
