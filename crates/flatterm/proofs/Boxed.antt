-- A cell in a box, and what a call of a box's function at it asks.
use Rattle.std.proofs.Common.{List, [], ◌∷◌, refl}
use seplogic.Ra.Ura.{Ura}
use base.Fraction.{full_share}
use base.Logic.{emp}
use base.Fml.{ftrue, flft}
use contract.Monad.{fact, fact_i}
use contract.BorrowLft.{◌⊑◌, ⊑_refl}
use mir.Syntax.{Dict, impl, tcons, tnil, dnil}
use mir.Raw.{raw as bare}
use denote.Exit.{no}
use denote.Param.{arg, layout}
use denote.Param.Laws.{arg_laws}
use types.Logic.{Logic}
use types.Kit.{Item, Goal, Step, step, ‵, raw, ◌⊛◌, ◌$◌, use0, join}
use denote.RattleType.{RattleType}
use denote.Steps.{nothing}
use Rattle.std.specs.contracts.alloc.Global as Heap
use Rattle.std.proofs.alloc.Global.TheLaws as heap
use Rattle.std.specs.contracts.boxed.Box as B-type
use Rattle.std.specs.contracts.impls.GlobalAllocator.TheImpl.{ghosts, dict}
use Rattle.std.proofs.BoxSteps.Form as box
use Rattle.flatterm.proofs.Destruct++none.drop.Symbol.{symbol as #none}
use Rattle.flatterm.proofs.Node.TheLaws as N-laws
use Rattle.flatterm.proofs.Memory.{N}

-- neither a cell nor a handle has anything to drop
abbrev pub none : RattleType → Dict
none R = impl (#none ∷ []) (tcons (layout R) tnil) dnil

-- a cell and a handle as a call passes them for type parameters
abbrev pub X : RattleType
X = arg (bare (layout N)) no N

abbrev pub Z : RattleType
Z = arg (bare (layout Heap.the_row)) no Heap.the_row

abbrev pub E : box.Bx
E = record {
  row = X;
  laws = arg_laws (bare (layout N)) no N N-laws.the_row_laws refl;
  al = record { row = Z; laws = arg_laws (bare (layout Heap.the_row)) no Heap.the_row heap.the_row_laws refl; g = ghosts; d = dict; drops = none Z };
}

-- a box as contracts here have it
abbrev pub Bo : RattleType
Bo = B-type.the_row N Heap.the_row ghosts

module _ {M : Type 1} {𝓤 : Ura M} {𝓛 : Logic 𝓤} {K : Type 0} {Γ : List (Item 𝓤)} {G : Goal 𝓤 𝓛.H} where
  -- the tokens of two lifetimes that never end
  pub tokens : K → Step K 𝓛 ((‵ (flft [] full_share) ⊛ ‵ (flft [] full_share) ⊛ ‵ ftrue) ∷ Γ) G Γ G
  tokens t = step (λ s. nothing t $ use0 𝓛 (‵ (flft [] full_share)) (𝓛.lfts.lft-nil full_share) $ join t $ use0 𝓛 (‵ (flft [] full_share)) (𝓛.lfts.lft-nil full_share) $ join t $ s)

  -- that both types outlive them, before what else is asked
  pub asks : K → {A : Item 𝓤} → Step K 𝓛 ((raw (fact 𝓤 ([] ⊑ N.lives)) ⊛ raw (fact 𝓤 ([] ⊑ Heap.the_row.lives)) ⊛ A) ∷ Γ) G (A ∷ Γ) G
  asks t = step (λ s. use0 𝓛 (raw (fact 𝓤 ([] ⊑ Heap.the_row.lives))) (fact_i 𝓤 ([] ⊑ Heap.the_row.lives) (emp 𝓤) (⊑_refl [])) $ join t $
      use0 𝓛 (raw (fact 𝓤 ([] ⊑ N.lives))) (fact_i 𝓤 ([] ⊑ N.lives) (emp 𝓤) (⊑_refl [])) $ join t $ s)
