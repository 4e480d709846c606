-- A `&` to the cells reaches each of them.
use mathlib.Core.Bool.{true}
use mathlib.Core.List.{List, [], ◌∷◌}
use seplogic.Ra.Ura.{Ura}
use base.Fraction.{full_share}
use base.Fml.{Lft, ftrue}
use types.Logic.{Logic}
use contract.BorrowLft.{⊑_static}
use denote.Sharing.{ShrLaws}
use denote.SharingLaws.{beside_shr_laws, nothing_shr_laws}
use denote.RawPtr.{Ptr, lies_at}
use denote.Shares.{Shares-less}
use denote.Memory.{lone}
use denote.Param.Shared.{copy_shared}
use denote.Struct.Field.{RawPtr-field}
use denote.Struct.Laws.{RawPtr-copy}
use denote.Struct.Lending.{lent_at, lent_at_shr_laws, Lends, Lends-lies, Lends-first, Lends-both, Lends-nothing, of_Lends}
use mir.Raw.{raw as bare}
use Rattle.std.specs.contracts.alloc.Global as Heap
use Rattle.std.specs.declared.alloc.Global.{Global}
use Rattle.std.specs.contracts.impls.GlobalAllocator.TheImpl.{ghosts}
use Rattle.std.proofs.alloc.Global.TheLaws as heap
use Rattle.flatterm.specs.declared.Body.{Body}
use Rattle.flatterm.specs.contracts.Node.{the_row as N}
use Rattle.flatterm.proofs.Node.TheLaws.{the_row_laws as L}
use Rattle.flatterm.specs.Cells.{Next, follow, node, lone_owns, chain, chain_lent}
use Rattle.flatterm.specs.contracts.Chain as C
use Rattle.flatterm.proofs.Chain.TheLaw.Statement.{statement}

chain_lent_laws : (p : Ptr) (cs : List (Ptr × Body)) (z : Next) → ShrLaws (chain_lent p cs z)
chain_lent_laws p [] z = nothing_shr_laws
chain_lent_laws p (c ∷ cs) z = beside_shr_laws _ _ (lent_at_shr_laws N L.shr_laws c.0 (node (follow cs z) p c.1)) (chain_lent_laws c.0 cs z)

module _ {M : Type 1} {𝓤 : Ura M} (𝓛 : Logic 𝓤) (l : Lft) (a : Global) (z : Next) where
  Lends-chain : (p : Ptr) (cs : List (Ptr × Body)) → Lends 𝓛 (chain a p cs z) (chain_lent p cs z) l
  Lends-chain p [] = Lends-nothing 𝓛 ftrue l
  Lends-chain p (c ∷ cs) = let n = node (follow cs z) p c.1 in
      Lends-both 𝓛 (lone_owns a c.0 n) (chain a c.0 cs z) (lent_at N c.0 n) (chain_lent c.0 cs z) l
      (Lends-first 𝓛 (lies_at N full_share c.0 n) (ghosts.dealloc_token a (bare (lone N.mir)) c.0) (lent_at N c.0 n) l
      (Lends-lies 𝓛 N l c.0 n (Shares-less 𝓛 N N.lives l (⊑_static l) (L.shares 𝓛) n))) (Lends-chain c.0 cs)

pub shares : statement
shares = of_Lends C.struct (C.the_codes Heap.the_row.coded) C.the_heap C.the_lent (λ d p. chain_lent_laws d.before d.items (d.after, true))
    (copy_shared RawPtr-field RawPtr-copy, (copy_shared RawPtr-field RawPtr-copy, (copy_shared RawPtr-field RawPtr-copy, (heap.the_field_shared, tt))))
    (λ M 𝓤 𝓛 d p. Lends-chain 𝓛 C.the_row.lives d.alloc (d.after, true) d.before d.items)
