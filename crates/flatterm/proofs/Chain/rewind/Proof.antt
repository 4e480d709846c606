-- `rewind` copies a pointer.
use Rattle.flatterm.proofs.Steps.{[], ◌∷◌, refl, proved, ftrue, flft, vunit, tables, ‵, ◌⊛◌, ◌$◌, ◌∵◌, !, qed, done, move, keep, split, join, fsplit3, feq_i, suffices, frame}
use Rattle.flatterm.proofs.Steps.{group, enter, of_opd, unit_lit, load, stop, fld, assigns, returns, alloc_all, pass_all, free_all, look_at, get, through, sets, whole, sub}
use Rattle.flatterm.proofs.Steps.{look_in, store_in, MutRef, mut_vals, mut_Tells, named, plain, nothing, Stays, walk_of, says, stay_ref, Goes-ref, ends_at}
use Rattle.std.proofs.RcSteps.{Ptr-Good}
use Rattle.flatterm.specs.declared.Chain.{Chain}
use Rattle.flatterm.proofs.Memory.{Ch, chain_opens, chain_closes}
use Rattle.flatterm.specs.contracts.Chain.rewind as f
use Rattle.flatterm.proofs.Chain.rewind.Statement.{statement}
use Rattle.flatterm.proofs.Chain.rewind.Code as code

abbrev stayed : Stays f.ended.signature.params f.ended.kept
stayed = (stay_ref (0 ∷ []) tt (plain (λ _. Ch)), tt)

pub rewind_spec : {M : Type 1} → statement M
rewind_spec 𝓤 𝓛 𝓜 𝓡 wired =
    let c = f.clauses 𝓛 𝓜.mem 𝓡.returns in let W = walk_of 𝓛 f.ended stayed c in let 𝓣 = tables 𝓤 𝓛.H 𝓜 𝓡 𝓡.env in
    proved 𝓛 f.ended stayed c 𝓜 𝓡 (Goes-ref 𝓛 1 0 tt (plain (λ _. Ch)), tt)
    f.Key.name code.function (code.unfolded 𝓤 𝓛.H 𝓜 𝓡 wired)
    (λ κs. (mut_vals, tt)) (λ κs. (mut_Tells (named 0) κs.0 Ch, tt)) (λ κs qs bounds a _ are.
    let κ = κs.0 in let q = qs.0 in let r = a.0 in let rb = r.ref_ptr.0 in let ro = r.ref_ptr.1 in let d = r.now in
    let y : W.Ghost = ((κs, qs, bounds, a, (mut_vals r, tt)), tt) in
    let new : Chain = record {
      head = d.head;
      tail = d.tail;
      at = d.head;
      alloc = d.alloc;
      items = d.items;
      place = 0;
      before = d.before;
      after = d.after;
      here = d.first;
      first = d.first;
      ending = d.ending;
    } in
    qed 𝓛 (((‵ (flft κ q) ⊛ ‵ ftrue) ⊛ ‵ ((MutRef (named 0) κ Ch).own_val r (mut_vals r)) ⊛ ‵ ftrue) ∷ ‵ ftrue ∷ []) ∵
    split ! $ split ! $ move ! (2 ∷ []) $ split ! $ keep ! (0 ∷ 2 ∷ []) $
    enter ! _ _ _ _ _ $ alloc_all ! (λ l. pass_all ! refl ((tt, tt), tt) $
    fsplit3 ! $ move ! (1 ∷ 2 ∷ 3 ∷ []) $ chain_opens ! tt d rb ro (λ fits.
    sets ! (of_opd ! (load ! (through ! refl (fld ! refl (stop !))) (look_in ! 1 (sub ! 0 refl (whole !))))) refl (Ptr-Good d.head) $
    assigns ! (of_opd ! (get ! refl)) (through ! refl (fld ! refl (stop !))) (store_in ! 1 (sub ! 2 refl (whole !)) (Ptr-Good d.head)) $
    sets ! (of_opd ! (unit_lit !)) refl (tt, tt) $
    chain_closes ! tt new rb ro fits $
    returns ! (look_at ! 0 refl) $ free_all ! refl $ move ! (3 ∷ []) $
    suffices ! _ (ends_at 𝓛 f.ended stayed c y vunit tt (new, tt) (tt, tt)) $ says ! (refl, refl) $
    group ! 3 $ nothing ! $ move ! (1 ∷ 0 ∷ []) $ join ! $ nothing ! $ move ! (2 ∷ 0 ∷ []) $ join ! $ frame ! $ frame ! $
    feq_i ! _ (vunit ∷ []) _ refl $ done !)))
