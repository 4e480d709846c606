-- Words that are none of the commands.
use Rattle.std.proofs.Common.{◌≡◌, ◌∷◌, [], ℕ, List, Option, None, Some, codes, inl, inr}
use Rattle.std.specs.Prelude.{IfNone}
use Rattle.shown_systems.specs.declared.skeletons.SkeletonKind.{SkeletonKind}
use Rattle.lens_run.specs.Commands.{show, skeleton, tell, picture, ari, seek, IsCommand, IsNoCommand}

module _ (words : List (List ℕ)) (unshown : (file : List ℕ) → IsCommand words (show file) → ⊥) (untold : (file cert : List ℕ) → IsCommand words (tell file cert) → ⊥)
    (undrawn : (file cert : List ℕ) → IsCommand words (picture file cert) → ⊥) (unread : (file : List ℕ) → IsCommand words (ari file) → ⊥)
    (unsought : (file : List ℕ) (units : ℕ) → IsCommand words (seek file units) → ⊥) where
  none_of : ((file : List ℕ) (kind : SkeletonKind) → IsCommand words (skeleton file kind) → ⊥) → IsNoCommand words
  none_of bare (show file) h = unshown file h
  none_of bare (skeleton file kind) h = bare file kind h
  none_of bare (tell file cert) h = untold file cert h
  none_of bare (picture file cert) h = undrawn file cert h
  none_of bare (ari file) h = unread file h
  none_of bare (seek file units) h = unsought file units h

  pub no_command : {A : Type 0} (found : Option A) → IfNone found ((file : List ℕ) (kind : SkeletonKind) → IsCommand words (skeleton file kind) → ⊥) → IfNone found (IsNoCommand words)
  no_command None bare = none_of bare
  no_command (Some a) bare = tt

-- words that are no wider search
module _ (words : List (List ℕ)) (bare : (file : List ℕ) → words ≡ codes "seek" ∷ file ∷ [] → ⊥) where
  pub no_seek : ((file word : List ℕ) → words ≡ codes "seek" ∷ file ∷ codes "--budget" ∷ word ∷ [] → ⊥) → (file : List ℕ) (units : ℕ) → IsCommand words (seek file units) → ⊥
  no_seek none file units (inl (e, h)) = bare file e
  no_seek none file units (inr (word, e, h)) = none file word e
