-- Cells and chains are taken apart and put together.
use Rattle.std.proofs.Common.{◌≡◌, ℕ, List, [], ◌∷◌, ◌++◌, refl, sym, ap, subst}
use mathlib.Core.Bool.{true, false}
use seplogic.Ra.Ura.{Ura}
use base.Fraction.{full_share}
use base.Logic.{ent, sep, id⊢}
use base.Fml.{Fml, Lft, GName, Share, ftrue, fat, fobs, fauth, fbor, fobor, flft}
use base.Stored.{Gv}
use lib.Dec.{T}
use mir.Syntax.{ty_ptr}
use mir.Raw.{raw}
use denote.Opens.{Shut}
use denote.Copied.{plain_Copied}
use denote.Struct.Laws.{RawPtr-laws}
use Prim.Native.Nat.{◌+◌}
use mir.Val.{Val, WT, has_ty}
use types.Logic.{Logic, sem}
use types.Kit.{Item, Goal, Seq, Step, Soaks, step, ‵, some, ◌⊛◌, ◌$◌, ◌∵◌, !, qed, move, drop, use1, use2, split, fsplit, fjoin, rewrite, pick, feq_i, feq_l, done}
use types.SemTy.{Body as Borrowed}
use denote.Laws.{Is, shows}
use denote.RattleType.{RattleType}
use denote.Memory.{lone, part_at, cell_at, mem}
use Rattle.std.specs.contracts.impls.GlobalAllocator.TheImpl.{ghosts}
use denote.RawPtr.{Ptr, block_ptr, lies_at, in_a_block, RawPtr, ptr_val, coded_ptr, ptr_own, rawptr_pure}
use denote.Steps.{nothing, owned, opens, closes, peeks, facts, only, looks, shuts}
use denote.Struct.Laws.{makes, RawPtr-plain}
use denote.Struct.Struct.{Struct, Struct-Makes, Plains}
use denote.Struct.Owning.{shape}
use borrow.Table.OneValue.{part_in, part_out}
use Rattle.std.specs.declared.alloc.Global.{Global}
use Rattle.std.specs.contracts.alloc.Global as Heap
use Rattle.std.proofs.alloc.Global.TheLaws as heap
use Rattle.flatterm.specs.declared.Body.{Body}
use Rattle.flatterm.specs.declared.Node.{Node}
use Rattle.flatterm.specs.declared.Chain.{Chain}
use Rattle.std.specs.contracts.option.Option.{the_row as option_row}
use Rattle.flatterm.specs.contracts.Cell as Cell-type
use Rattle.flatterm.specs.contracts.Body as B-type
use Rattle.flatterm.specs.contracts.Node as N-type
use Rattle.flatterm.specs.contracts.Chain as C-type
use Rattle.flatterm.specs.declared.lone.LoneCell.{LoneCell}
use Rattle.flatterm.specs.contracts.lone.LoneCell as L-type
use Rattle.flatterm.proofs.Body.TheLaws as B-laws
use Rattle.flatterm.proofs.Node.TheLaws as N-laws
use Rattle.flatterm.proofs.Chain.TheLaws as C-laws
use Rattle.flatterm.proofs.lone.LoneCell.TheLaws as L-laws
use denote.Opens.{hide, unhide}
use denote.Memory.{hidden_shr}
use denote.Struct.Lending.{lent_at}
use base.Logic.{fst∗, snd∗, via}
use Rattle.flatterm.specs.Cells.{Next, follow, node, lone_owns, chain, chain_lent, last_from}

abbrev pub N : RattleType
N = N-type.the_row

abbrev pub Ch : RattleType
Ch = C-type.the_row

abbrev pub Lo : RattleType
Lo = L-type.the_row

-- the cell of a node
abbrev pub held : Node → ℕ → ℕ → Fml
held x b o = fat full_share (lone N.mir) b o (N-laws.lowered x)

abbrev pub Fits : Node → Type 0
Fits x = Is N x (N-laws.lowered x ∷ [])

abbrev pub BodyFits : Body → Type 0
BodyFits x = Is B-type.the_row x (B-laws.lowered x ∷ [])

pub body_fits : (x : Node) → Fits x → BodyFits x.body
body_fits x is = subst (λ (vs : List Val). Is B-type.the_row x.body vs) (B-laws.lowers.val_is x.body is.0.1.1.1.0 is.1.1.1.1.1.0) is.1.1.1.1.1.0

pub node_fits : (z : Next) (p : Ptr) (x : Body) → BodyFits x → Fits (node z p x)
node_fits z p x is = ((ptr_val z.0 ∷ [], (mir.Val.vbool z.1 ∷ [], (ptr_val p ∷ [], (B-laws.lowered x ∷ [], tt)))), (refl, (refl, (refl, (refl, (is, tt))))))

-- a cell still fits with another end
pub body_with : (e : Ptr) (x : Body) → BodyFits x → BodyFits (record { end = e; cell = x.cell })
body_with e x is = (
  (ptr_val e ∷ [], (B-laws.the_laws.1.0.low x.cell ∷ [], tt)),
  (refl, (refl, (subst (λ (vs : List Val). Is (option_row Cell-type.the_row) x.cell vs) (B-laws.the_laws.1.0.low-is x.cell is.0.1.0 is.1.1.1.0) is.1.1.1.0, tt))),
)

-- a cell still fits with other neighbours
pub refit : (z : Next) (p : Ptr) (w : Next) (q : Ptr) (x : Body) → Fits (node z p x) → Fits (node w q x)
refit z p w q x is = node_fits w q x (body_fits (node z p x) is)

module _ {M : Type 1} {𝓤 : Ura M} {𝓛 : Logic 𝓤} {K : Type 0} {Γ : List (Item 𝓤)} {G : Goal 𝓤 𝓛.H} where
  pub node_out : K → (x : Node) (b o : ℕ) → (Fits x → Seq K 𝓛 (‵ (held x b o) ∷ Γ) G) → Seq K 𝓛 (‵ (part_at N full_share x b o) ∷ Γ) G
  node_out t x b o k =
      use1 𝓛 (some (λ (v : Val). ‵ (fat full_share (lone N.mir) b o v) ⊛ ‵ (N.own_val x (v ∷ [])))) (part_out 𝓛 N refl full_share x b o) $ pick t (λ v. split t $ move t (1 ∷ []) $
      facts t N (Is N) (shows 𝓛 N) x (v ∷ []) (λ is. let e = N-laws.lowers.val_is x (v ∷ []) is in
      rewrite t 0 (λ (w : Val). ‵ (fat full_share (lone N.mir) b o w)) (ap only e) refl $ k (subst (λ (vs : List Val). Is N x vs) e is)))

  pub node_in : K → (x : Node) (b o : ℕ) → Fits x → Step K 𝓛 (‵ (part_at N full_share x b o) ∷ Γ) G (‵ (held x b o) ∷ Γ) G
  node_in t x b o is = step (λ s. owned t N (Is N) (makes N-type.the_type N-laws.the_plain 𝓛) x (N-laws.lowered x ∷ []) is $ move t (1 ∷ 0 ∷ []) $
      use2 𝓛 (‵ (part_at N full_share x b o)) (part_in 𝓛 N refl full_share x b o (N-laws.lowered x)) $ s)

-- ---- chains
pub follow_app : (xs ys : List (Ptr × Body)) (z : Next) → follow (xs ++ ys) z ≡ follow xs (follow ys z)
follow_app [] ys z = refl
follow_app (x ∷ xs) ys z = refl

module _ {M : Type 1} {𝓤 : Ura M} (𝓛 : Logic 𝓤) (a : Global) where
  pub chain_cut : (p : Ptr) (xs ys : List (Ptr × Body)) (z : Next) → ent 𝓤 (sem 𝓛 (chain a p (xs ++ ys) z)) (sep 𝓤 (sem 𝓛 (chain a p xs (follow ys z))) (sem 𝓛 (chain a (last_from p xs) ys z)))
  chain_cut p [] ys z = qed 𝓛 (‵ (chain a p ys z) ∷ []) ∵ nothing ! $ done !
  chain_cut p (x ∷ xs) ys z = qed 𝓛 (‵ (chain a p (x ∷ xs ++ ys) z) ∷ []) ∵ fsplit ! $ rewrite ! 0 (λ (n : Next). ‵ (lone_owns a x.0 (node n p x.1))) (follow_app xs ys z) refl $ move ! (1 ∷ []) $
      use1 𝓛 (‵ (chain a x.0 xs (follow ys z)) ⊛ ‵ (chain a (last_from x.0 xs) ys z)) (chain_cut x.0 xs ys z) $ split ! $ move ! (2 ∷ 0 ∷ []) $ fjoin ! $ done !

  pub chain_glue : (p : Ptr) (xs ys : List (Ptr × Body)) (z : Next) → ent 𝓤 (sep 𝓤 (sem 𝓛 (chain a p xs (follow ys z))) (sem 𝓛 (chain a (last_from p xs) ys z))) (sem 𝓛 (chain a p (xs ++ ys) z))
  chain_glue p [] ys z = qed 𝓛 (‵ ftrue ∷ ‵ (chain a p ys z) ∷ []) ∵ drop ! $ done !
  chain_glue p (x ∷ xs) ys z = qed 𝓛 (‵ (chain a p (x ∷ xs) (follow ys z)) ∷ ‵ (chain a (last_from x.0 xs) ys z) ∷ []) ∵ fsplit ! $
      rewrite ! 0 (λ (n : Next). ‵ (lone_owns a x.0 (node n p x.1))) (sym (follow_app xs ys z)) refl $ move ! (1 ∷ 2 ∷ []) $
      use2 𝓛 (‵ (chain a x.0 (xs ++ ys) z)) (chain_glue x.0 xs ys z) $ move ! (1 ∷ 0 ∷ []) $ fjoin ! $ done !

-- every handle is the same
pub same_heap : (a b : Global) → a ≡ b
same_heap a b = refl

abbrev pub Deed : Global → Ptr → Fml
Deed a = ghosts.dealloc_token a (raw (lone N.mir))

module _ {M : Type 1} {𝓤 : Ura M} {𝓛 : Logic 𝓤} {K : Type 0} {Γ : List (Item 𝓤)} {G : Goal 𝓤 𝓛.H} where
  pub lone_opens : K → (a : Global) (p : Ptr) (n : Node) → ((b o : ℕ) → p ≡ block_ptr b o → Fits n → Seq K 𝓛 (‵ (held n b o) ∷ ‵ (Deed a p) ∷ Γ) G) → Seq K 𝓛 (‵ (lone_owns a p n) ∷ Γ) G
  lone_opens t a p n k = fsplit t $ in_a_block t p (λ r. lies_at N full_share r n) (id⊢ 𝓤 _) (λ b o e. node_out t n b o (λ good. k b o e good))

  pub lone_closes : K → (a : Global) (p : Ptr) (n : Node) (b o : ℕ) → p ≡ block_ptr b o → Fits n → Step K 𝓛 (‵ (lone_owns a p n) ∷ Γ) G (‵ (held n b o) ∷ ‵ (Deed a p) ∷ Γ) G
  lone_closes t a p n b o e good = step (λ s. node_in t n b o good $ rewrite t 0 (λ (r : Ptr). ‵ (lies_at N full_share r n)) (sym e) refl $ fjoin t $ s)

  -- a first and a last cell, those between, and those behind
  pub enclosed_opens : K → (a : Global) (p : Ptr) (c : Ptr × Body) (inner : List (Ptr × Body)) (l : Ptr × Body) (ys : List (Ptr × Body)) (z : Next)
      → Step K 𝓛 (‵ (lone_owns a c.0 (node (follow inner (l.0, false)) p c.1)) ∷ ‵ (lone_owns a l.0 (node (follow ys z) (last_from c.0 inner) l.1))
      ∷ ‵ (chain a c.0 inner (l.0, false)) ∷ ‵ (chain a l.0 ys z) ∷ Γ) G
      (‵ (chain a p (c ∷ (inner ++ l ∷ ys)) z) ∷ Γ) G
  enclosed_opens t a p c inner l ys z = step (λ s. fsplit t $ rewrite t 0 (λ (n : Next). ‵ (lone_owns a c.0 (node n p c.1))) (follow_app inner (l ∷ ys) z) refl $ move t (1 ∷ []) $
      use1 𝓛 (‵ (chain a c.0 inner (l.0, false)) ⊛ ‵ (chain a (last_from c.0 inner) (l ∷ ys) z)) (chain_cut 𝓛 a c.0 inner (l ∷ ys) z) $ split t $ move t
      (1 ∷ []) $ fsplit t $ move t (3 ∷ 0 ∷ 2 ∷ 1 ∷ []) $ s)

  pub enclosed_closes : K → (a : Global) (p : Ptr) (c : Ptr × Body) (inner : List (Ptr × Body)) (l : Ptr × Body) (ys : List (Ptr × Body)) (z : Next)
      → Step K 𝓛 (‵ (chain a p (c ∷ (inner ++ l ∷ ys)) z) ∷ Γ) G
      (‵ (lone_owns a c.0 (node (follow inner (l.0, false)) p c.1)) ∷ ‵ (lone_owns a l.0 (node (follow ys z) (last_from c.0 inner) l.1))
      ∷ ‵ (chain a c.0 inner (l.0, false)) ∷ ‵ (chain a l.0 ys z) ∷ Γ) G
  enclosed_closes t a p c inner l ys z = step (λ s. move t (1 ∷ 3 ∷ []) $ fjoin t $ move t (2 ∷ 0 ∷ []) $
      use2 𝓛 (‵ (chain a c.0 (inner ++ l ∷ ys) z)) (chain_glue 𝓛 a c.0 inner (l ∷ ys) z) $ move t (1 ∷ 0 ∷ []) $
      rewrite t 0 (λ (n : Next). ‵ (lone_owns a c.0 (node n p c.1))) (sym (follow_app inner (l ∷ ys) z)) refl $ fjoin t $ s)

-- ---- the struct
abbrev pub HeapFits : Global → Type 0
HeapFits a = Is Heap.the_row a (heap.lowered a ∷ [])

abbrev pub Fields : RattleType
Fields = Struct (shape C-type.the_type)

plains : Plains (shape C-type.the_type).fields
plains = (RawPtr-plain, (RawPtr-plain, (RawPtr-plain, (heap.the_field_plain, tt))))

abbrev pub words : Chain → List Val
words d = C-laws.lowered d ∷ []

-- the struct's words, with p for `at`
abbrev pub words_at : Chain → Ptr → List Val
words_at d p = mir.Val.vstruct (mir.Val.vcons (ptr_val d.head) (mir.Val.vcons (ptr_val d.tail) (mir.Val.vcons (ptr_val p) (mir.Val.vcons (heap.lowered d.alloc) mir.Val.vnil)))) ∷ []

abbrev pub Owned : Chain → Fml
Owned d = chain d.alloc d.before d.items (d.after, true)

module _ {M : Type 1} {𝓤 : Ura M} {𝓛 : Logic 𝓤} {K : Type 0} {Γ : List (Item 𝓤)} {G : Goal 𝓤 𝓛.H} where
  -- [the cells; the struct's cell; its open borrow, in three]
  pub chain_opens : K → Soaks G → {κ : Lft} {q : Share} {γ : GName} (d : Chain) (rb ro : ℕ)
      → (HeapFits d.alloc → Seq K 𝓛 (‵ (Owned d) ∷ ‵ (cell_at full_share Ch.mir (words d) rb ro) ∷ ‵ (fobor κ q (Borrowed (mem Ch) rb ro γ)) ∷ ‵ (fobs γ (Ch.coded.code d))
      ∷ ‵ (fauth γ (Ch.coded.code d)) ∷ Γ) G)
      → Seq K 𝓛 (‵ (fobs γ (Ch.coded.code d)) ∷ ‵ (fbor κ (Borrowed (mem Ch) rb ro γ)) ∷ ‵ (flft κ q) ∷ Γ) G
  chain_opens t z d rb ro k = opens t z Ch {h = d} rb ro (λ us. move t (1 ∷ []) $ peeks t Ch (Is Ch) (shows 𝓛 Ch) d us (λ is. fsplit t $ drop t $ move t (0 ∷ []) $
      rewrite t 1 (λ (ws : List Val). ‵ (cell_at full_share Ch.mir ws rb ro)) (C-laws.lowers.val_is d us is) refl $
      k (subst (λ (vs : List Val). Is Heap.the_row d.alloc vs) (heap.lowers.val_is d.alloc is.0.0.1.1.1.0 is.0.1.1.1.1.1.0) is.0.1.1.1.1.1.0)))

  pub chain_closes : K → Soaks G → {κ : Lft} {q : Share} {u v : Gv} {γ : GName} (d : Chain) (rb ro : ℕ) → HeapFits d.alloc
      → Step K 𝓛 (‵ (fobs γ (Ch.coded.code d)) ∷ ‵ (fbor κ (Borrowed (mem Ch) rb ro γ)) ∷ ‵ (flft κ q) ∷ Γ) G
      (‵ (Owned d) ∷ ‵ (cell_at full_share Ch.mir (words d) rb ro) ∷ ‵ (fobor κ q (Borrowed (mem Ch) rb ro γ)) ∷ ‵ (fobs γ u) ∷ ‵ (fauth γ v) ∷ Γ) G
  chain_closes t z d rb ro fits = step (λ s.
      owned t Fields (Is Fields) (Struct-Makes 𝓛 (shape C-type.the_type) plains) (d.head, (d.tail, (d.at, (Heap.the_field.into d.alloc, tt)))) (words d)
      ((ptr_val d.head ∷ [], (ptr_val d.tail ∷ [], (ptr_val d.at ∷ [], (heap.lowered d.alloc ∷ [], tt)))), (refl, (refl, (refl, (refl, (fits, tt)))))) $
      fjoin t $ move t (1 ∷ 0 ∷ []) $ closes t z Ch d (words d) rb ro $ s)

module _ {M : Type 1} {𝓤 : Ura M} {𝓛 : Logic 𝓤} {K : Type 0} {Γ : List (Item 𝓤)} {G : Goal 𝓤 𝓛.H} where
  -- the struct by value
  pub chain_made : K → (d : Chain) → HeapFits d.alloc → Step K 𝓛 (‵ (Ch.own_val d (words d)) ∷ Γ) G (‵ (Owned d) ∷ Γ) G
  chain_made t d fits = step (λ s.
      owned t Fields (Is Fields) (Struct-Makes 𝓛 (shape C-type.the_type) plains) (d.head, (d.tail, (d.at, (Heap.the_field.into d.alloc, tt)))) (words d)
      ((ptr_val d.head ∷ [], (ptr_val d.tail ∷ [], (ptr_val d.at ∷ [], (heap.lowered d.alloc ∷ [], tt)))), (refl, (refl, (refl, (refl, (fits, tt)))))) $ fjoin t $ s)

-- ---- a cell that is in no chain
lone_plains : Plains (shape L-type.the_type).fields
lone_plains = (RawPtr-plain, (heap.the_field_plain, tt))

abbrev pub lone_words : LoneCell → List Val
lone_words l = L-laws.lowered l ∷ []

-- its words tell that its handle fits
pub lone_heap : (l : LoneCell) (vs : List Val) → Is Lo l vs → HeapFits l.alloc
lone_heap l vs is = subst (λ (us : List Val). Is Heap.the_row l.alloc us) (heap.lowers.val_is l.alloc is.0.0.1.0 is.0.1.1.1.0) is.0.1.1.1.0

module _ {M : Type 1} {𝓤 : Ura M} {𝓛 : Logic 𝓤} {K : Type 0} {Γ : List (Item 𝓤)} {G : Goal 𝓤 𝓛.H} where
  -- by value, from the cell at a known block and the right to free it
  pub lone_made : K → (a : Global) (p : Ptr) (n : Node) (b o : ℕ) → p ≡ block_ptr b o → Fits n → HeapFits a
      → Step K 𝓛 (‵ (Lo.own_val (record { at = block_ptr b o; alloc = a; value = n }) (lone_words (record { at = block_ptr b o; alloc = a; value = n }))) ∷ Γ) G
      (‵ (held n b o) ∷ ‵ (Deed a p) ∷ Γ) G
  lone_made t a p n b o e good fits = step (λ s. let l : LoneCell = record { at = block_ptr b o; alloc = a; value = n } in
      node_in t n b o good $ rewrite t 1 (λ r. ‵ (Deed a r)) e refl $ fjoin t $
      owned t (Struct (shape L-type.the_type)) (Is (Struct (shape L-type.the_type))) (Struct-Makes 𝓛 (shape L-type.the_type) lone_plains) (l.at, (Heap.the_field.into a, tt)) (lone_words l)
      ((ptr_val l.at ∷ [], (heap.lowered a ∷ [], tt)), (refl, (refl, (fits, tt)))) $ fjoin t $ s)

-- ---- behind a `&`
module _ {M : Type 1} {𝓤 : Ura M} (𝓛 : Logic 𝓤) (κ : Lft) where
  pub cell_seen : (p : Ptr) (xs : List (Ptr × Body)) (c : Ptr × Body) (ys : List (Ptr × Body)) (z : Next)
      → ent 𝓤 (sem 𝓛 (chain_lent p (xs ++ c ∷ ys) z κ)) (sem 𝓛 (lent_at N c.0 (node (follow ys z) (last_from p xs) c.1) κ))
  cell_seen p [] c ys z = fst∗ 𝓤 _ (sem 𝓛 (chain_lent c.0 ys z κ))
  cell_seen p (x ∷ xs) c ys z = via 𝓤 (sem 𝓛 (chain_lent x.0 (xs ++ c ∷ ys) z κ)) (snd∗ 𝓤 (sem 𝓛 (lent_at N x.0 (node (follow (xs ++ c ∷ ys) z) p x.1) κ)) _) (cell_seen x.0 xs c ys z)

-- the word of a pointer at b and o, of which a share is held
abbrev pub word : Share → ℕ → ℕ → Ptr → Fml
word part b o p = fat part ty_ptr b o (ptr_val p)

module _ {M : Type 1} {𝓤 : Ura M} {𝓛 : Logic 𝓤} {K : Type 0} {Γ : List (Item 𝓤)} {G : Goal 𝓤 𝓛.H} where
  -- the word of a pointer behind a `&`, taken
  pub word_taken : K → Soaks G → (b o : ℕ) (p : Ptr) {κ : Lft} {q : Share} → ((part : Share) → Seq K 𝓛 (‵ (word part b o p) ∷ Shut 𝓛 κ q (part_at RawPtr part p b o) ∷ Γ) G)
      → Seq K 𝓛 (‵ (hidden_shr RawPtr κ p b o) ∷ ‵ (flft κ q) ∷ Γ) G
  word_taken t z b o p go =
      let copied = plain_Copied 𝓛 Ptr coded_ptr (ty_ptr ∷ []) ptr_own rawptr_pure ptr_val RawPtr-laws.tells in
      looks t z RawPtr copied.opens p b o (λ part vs. move t (1 ∷ 0 ∷ 2 ∷ []) $ feq_l t (λ is. move t (2 ∷ []) $ drop t $ rewrite t 0 (λ ws. ‵ (cell_at part RawPtr.mir ws b o)) is refl $ go part))

  -- and given back
  pub word_given : K → Soaks G → (b o : ℕ) (p : Ptr) {κ : Lft} {q part : Share} → Step K 𝓛 (‵ (flft κ q) ∷ Γ) G (‵ (word part b o p) ∷ Shut 𝓛 κ q (part_at RawPtr part p b o) ∷ Γ) G
  word_given t z b o p {part = part} = step (λ on. let ws : List Val = ptr_val p ∷ [] in feq_i t (List Val) ws ws refl $ move t (1 ∷ 0 ∷ []) $ shuts t z RawPtr part p ws b o $ on)

  -- the struct behind a `&`: [`at`; the cells; ..]
  pub chain_Seen : K → {κ : Lft} (d : Chain) (b o : ℕ)
      → Step K 𝓛 (‵ (hidden_shr RawPtr κ d.at b (o + 16)) ∷ ‵ (chain_lent d.before d.items (d.after, true) κ) ∷ Γ) G (‵ (hidden_shr Ch κ d b o) ∷ Γ) G
  chain_Seen t d b o = step (λ s. unhide t $ fsplit t $ fsplit t $ move t (1 ∷ []) $ drop t $ fsplit t $ drop t $ fsplit t $ drop t $ fsplit t $ move t (1 ∷ []) $ drop t $ hide t $ s)

  -- the same: [`head`; ..]
  pub chain_Head : K → {κ : Lft} (d : Chain) (b o : ℕ) → Step K 𝓛 (‵ (hidden_shr RawPtr κ d.head b (o + 0)) ∷ Γ) G (‵ (hidden_shr Ch κ d b o) ∷ Γ) G
  chain_Head t d b o = step (λ s. unhide t $ fsplit t $ fsplit t $ move t (1 ∷ []) $ drop t $ fsplit t $ move t (1 ∷ []) $ drop t $ move t (1 ∷ []) $ drop t $ hide t $ s)

  -- a cell behind a `&` is opened, and shut
  pub cell_in : K → Soaks G → {κ : Lft} {q : Share} (n : Node) (b at : ℕ)
      → ((part : Share) → Fits n → Seq K 𝓛 (‵ (fat part (raw (lone N.mir)) b at (N-laws.lowered n)) ∷ Shut 𝓛 κ q (part_at N part n b at) ∷ Γ) G)
      → Seq K 𝓛 (‵ (hidden_shr N κ n b at) ∷ ‵ (flft κ q) ∷ Γ) G
  cell_in t z n b at k =
      looks t z N (N-laws.the_row_copy.copied M 𝓤 𝓛).opens n b at (λ part vs. move t (1 ∷ []) $ facts t N (Is N) (shows 𝓛 N) n vs (λ is. let e = N-laws.lowers.val_is n vs is in
      rewrite t 0 (λ (us : List Val). ‵ (cell_at part N.mir us b at)) e refl $ move t (2 ∷ []) $ drop t $ k part (subst (λ (us : List Val). Is N n us) e is)))

  pub cell_out : K → Soaks G → {κ : Lft} {q part : Share} (n : Node) (b at : ℕ) → Fits n
      → Step K 𝓛 (‵ (flft κ q) ∷ Γ) G (‵ (fat part (raw (lone N.mir)) b at (N-laws.lowered n)) ∷ Shut 𝓛 κ q (part_at N part n b at) ∷ Γ) G
  cell_out t z {part = part} n b at is = step (λ s.
      owned t N (Is N) (makes N-type.the_type N-laws.the_plain 𝓛) n (N-laws.lowered n ∷ []) is $ move t (1 ∷ 0 ∷ []) $ shuts t z N part n (N-laws.lowered n ∷ []) b at $ s)

pub node_good : {M : Type 1} {𝓤 : Ura M} (𝓛 : Logic 𝓤) (x : Node) → Fits x → T (has_ty (lone N.mir) (N-laws.lowered x)) × WT (N-laws.lowered x)
node_good 𝓛 x is = ((N-laws.the_row_laws.lawful 𝓛).typed x (N-laws.lowered x ∷ []) is).0
