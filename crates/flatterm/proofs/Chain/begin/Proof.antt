-- `begin` copies `head`.
use Rattle.flatterm.proofs.Steps.{List, feq_i}
use mir.Val.{Val}
use Rattle.std.proofs.RcSteps.{Ptr-Good}
use Prim.Native.Nat.{◌+◌}
use Rattle.flatterm.proofs.Steps.{[], ◌∷◌, refl, proved, ftrue, flft, tables, ‵, ◌⊛◌, ◌$◌, ◌∵◌, !, qed, done, move, keep, drop, split, join, fsplit, fjoin, suffices, frame, enter}
use Rattle.flatterm.proofs.Steps.{of_opd, load, look, stop, fld, returns, alloc_all, pass_all, free_all, look_at, through, sets, ptr_val, ShrRef, shr_vals, shr_Tells, named, plain}
use Rattle.flatterm.proofs.Steps.{nothing, Stays, walk_of, says, stay_dropped, Goes-dropped, ends_at}
use denote.Builtin.{RefOf}
use denote.Exit.{yes}
use Rattle.flatterm.proofs.Memory.{Ch, word_taken, word_given, chain_Head}
use Rattle.flatterm.specs.contracts.Chain.begin as f
use Rattle.flatterm.proofs.Chain.begin.Statement.{statement}
use Rattle.flatterm.proofs.Chain.begin.Code as code

abbrev stayed : Stays f.ended.signature.params f.ended.kept
stayed = (stay_dropped (RefOf (0 ∷ []) tt (plain (λ _. Ch)) (λ _. tt)) yes, tt)

pub begin_spec : {M : Type 1} → statement M
begin_spec 𝓤 𝓛 𝓜 𝓡 wired =
    let c = f.clauses 𝓛 𝓜.mem 𝓡.returns in let W = walk_of 𝓛 f.ended stayed c in let 𝓣 = tables 𝓤 𝓛.H 𝓜 𝓡 𝓡.env in
    proved 𝓛 f.ended stayed c 𝓜 𝓡 (Goes-dropped 𝓛 1 (RefOf (0 ∷ []) tt (plain (λ _. Ch)) (λ _. tt)) yes (λ κs x w. refl), tt)
    f.Key.name code.function (code.unfolded 𝓤 𝓛.H 𝓜 𝓡 wired)
    (λ κs. (shr_vals, tt)) (λ κs. (shr_Tells (named 0) κs.0 Ch, tt)) (λ κs qs bounds a _ are.
    let κ = κs.0 in let q = qs.0 in let r = a.0 in let rb = r.ref_ptr.0 in let ro = r.ref_ptr.1 in let d = r.now in
    let y : W.Ghost = ((κs, qs, bounds, a, (shr_vals r, tt)), tt) in
    qed 𝓛 (((‵ (flft κ q) ⊛ ‵ ftrue) ⊛ ‵ ((ShrRef (named 0) κ Ch).own_val r (shr_vals r)) ⊛ ‵ ftrue) ∷ ‵ ftrue ∷ []) ∵
    split ! $ split ! $ move ! (2 ∷ []) $ split ! $ keep ! (0 ∷ 2 ∷ []) $
    enter ! _ _ _ _ _ $ alloc_all ! (λ l. pass_all ! refl ((tt, tt), tt) $
    fsplit ! $ drop ! $ chain_Head ! d rb ro $ word_taken ! tt rb (ro + 0) d.head (λ s.
    sets ! (of_opd ! (load ! (through ! refl (fld ! refl (stop !))) (look ! 0 refl))) refl (Ptr-Good d.head) $ word_given ! tt rb (ro + 0) d.head $
    returns ! (look_at ! 0 refl) $ free_all ! refl $ keep ! (0 ∷ []) $
    feq_i ! (List Val) (ptr_val d.head ∷ []) (ptr_val d.head ∷ []) refl $
    suffices ! _ (ends_at 𝓛 f.ended stayed c y (ptr_val d.head) d.head (tt, tt) (tt, tt)) $ says ! d.first $
    nothing ! $ move ! (2 ∷ 0 ∷ []) $ join ! $ frame ! $ nothing ! $ nothing ! $ fjoin ! $ done !)))
