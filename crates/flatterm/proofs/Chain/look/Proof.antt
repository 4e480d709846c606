-- `look` copies the cell at an address.
use mathlib.Core.Bool.{true}
use Rattle.flatterm.proofs.Steps.{ℕ, List, fact, raw, heard, Ptr}
use Rattle.flatterm.specs.Cells.{IsAt}
use mir.Val.{Val}
use Rattle.std.proofs.RcSteps.{Ptr-Good}
use denote.RawPtr.{RawPtr, rawptr_Tells_one}
use types.Kit.{split3}
use Rattle.cc_count.specs.contracts.proof_count.ProofCount.{the_row as Ct}
use lib.ListN.{length}
use Rattle.flatterm.proofs.Steps.{[], ◌∷◌, refl, sym, ap, subst, ◌∙◌, proved, after, ftrue, flft, fst∗, never, tables, ‵, ◌⊛◌, at_ret, ◌$◌, ◌∵◌, !, qed, done, move, keep, drop}
use Rattle.flatterm.proofs.Steps.{use1, split, join, fsplit, fjoin, rewrite, suffices, frame, enter, of_opd, load, look_raw, stop, first, blocks, exec, returns, alloc_all}
use Rattle.flatterm.proofs.Steps.{pass_all, free_all, look_at, get, through, sets, sets_last, env, Is, ptr_val, in_a_block, ShrRef, shr_vals, shr_Tells, shared_of, lent_at, hide}
use Rattle.flatterm.proofs.Steps.{named, plain, nothing, owned, Stays, walk_of, says, stay_dropped, Goes-dropped, ends_at}
use denote.Builtin.{RefOf}
use denote.Exit.{yes}
use types.Logic.{sem}
use Rattle.flatterm.specs.declared.Node.{Node}
use Rattle.flatterm.specs.Cells.{Next, follow, node, chain_lent, last_from}
use Rattle.flatterm.proofs.Memory.{N, Ch, cell_seen, chain_Seen, cell_in, cell_out, node_good}
use types.ByLocal.{is}
use denote.Struct.Laws.{makes}
use Rattle.flatterm.specs.contracts.Node as N-type
use Rattle.flatterm.proofs.Node.TheLaws as N-laws
use Rattle.flatterm.specs.Cells.{IsNodeAt}
use Rattle.flatterm.proofs.Places.{cut_at, node_is}
use Rattle.flatterm.specs.contracts.Chain.look as f
use Rattle.flatterm.proofs.Chain.look.Statement.{statement}
use Rattle.flatterm.proofs.Chain.look.Code as code

abbrev ptr_vals : Ptr → List Val
ptr_vals p = ptr_val p ∷ []

abbrev stayed : Stays f.ended.signature.params f.ended.kept
stayed = (stay_dropped (RefOf (0 ∷ []) tt (plain (λ _. Ch)) (λ _. tt)) yes, (stay_dropped (plain (λ _. RawPtr)) yes, (stay_dropped (RefOf (1 ∷ []) tt (plain (λ _. Ct)) (λ _. tt)) yes, tt)))

pub look_spec : {M : Type 1} → statement M
look_spec 𝓤 𝓛 𝓜 𝓡 wired =
    let c = f.clauses 𝓛 𝓜.mem 𝓡.returns in let W = walk_of 𝓛 f.ended stayed c in let 𝓣 = tables 𝓤 𝓛.H 𝓜 𝓡 𝓡.env in
    proved 𝓛 f.ended stayed c 𝓜 𝓡 (
      Goes-dropped 𝓛 2 (RefOf (0 ∷ []) tt (plain (λ _. Ch)) (λ _. tt)) yes (λ κs x w. refl),
      (Goes-dropped 𝓛 2 (plain (λ _. RawPtr)) yes (λ κs x w. refl), (Goes-dropped 𝓛 2 (RefOf (1 ∷ []) tt (plain (λ _. Ct)) (λ _. tt)) yes (λ κs x w. refl), tt)),
    )
    f.Key.name code.function (code.unfolded 𝓤 𝓛.H 𝓜 𝓡 wired)
    (λ κs. (shr_vals, (ptr_vals, (shr_vals, tt)))) (λ κs. (shr_Tells (named 0) κs.0 Ch, (rawptr_Tells_one, (shr_Tells (named 1) κs.1.0 Ct, tt)))) (λ κs qs bounds a _ are.
    let κ = κs.0 in let q = qs.0 in let μ = κs.1.0 in let share = qs.1.0 in let r = a.0 in let rb = r.ref_ptr.0 in let ro = r.ref_ptr.1 in let d = r.now in
    let at : Ptr = a.1.0 in let i : ℕ = a.1.1.0.now.number in
    let y : W.Ghost = ((κs, qs, bounds, a, (shr_vals r, (ptr_vals at, (shr_vals a.1.1.0, tt)))), tt) in
    qed 𝓛 (((‵ (flft κ q) ⊛ ‵ (flft μ share) ⊛ ‵ ftrue) ⊛ ‵ ((ShrRef (named 0) κ Ch).own_val r (shr_vals r)) ⊛ ‵ (RawPtr.own_val at (ptr_vals at)) ⊛ ‵
    ((ShrRef (named 1) μ Ct).own_val a.1.1.0 (shr_vals a.1.1.0)) ⊛ ‵ ftrue) ∷ raw (fact 𝓤 (IsAt d.items i at)) ∷ []) ∵
    move ! (1 ∷ []) $ heard ! _ (λ told_at.
    let k = cut_at d.items i at told_at in
    let z : Next = (d.after, true) in
    let n : Node = node (follow k.ys z) (last_from d.before k.xs) k.cell.1 in
    let told : IsNodeAt d.before d.items z i n = subst (λ j. IsNodeAt d.before d.items z j n) k.long
    (subst (λ cs. IsNodeAt d.before cs z (length k.xs) n) (sym k.whole) (node_is d.before k.xs k.cell k.ys z)) in
    split ! $ split3 ! $ move ! (3 ∷ []) $ split3 ! $ keep ! (0 ∷ 3 ∷ 4 ∷ []) $
    enter ! _ _ _ _ _ $ alloc_all ! (λ l. pass_all ! refl ((tt, tt), (Ptr-Good at, ((tt, tt), tt))) $
    fsplit ! $ drop ! $ chain_Seen ! d rb ro $ drop ! $
    rewrite ! 0 (λ cs. ‵ (chain_lent d.before cs z κ)) k.whole refl $ use1 𝓛 (‵ (lent_at N k.cell.0 n κ)) (cell_seen 𝓛 κ d.before k.xs k.cell k.ys z) $
    in_a_block ! k.cell.0 (λ p. lent_at N p n κ) (fst∗ 𝓤 (never 𝓤) (sem 𝓛 (shared_of N n 0 0 κ))) (λ b o e. fsplit ! $ drop ! $ hide ! $
    cell_in ! tt n b o (λ part good.
    sets ! (is ! (of_opd ! (get ! refl)) (ap ptr_val (sym k.at ∙ e))) refl (tt, tt) $
    first ! $ blocks ! $ sets_last ! (of_opd ! (load ! (through ! refl (stop !)) (look_raw ! 0 refl))) refl (node_good 𝓛 n good) $
    exec ! 𝓣.C 𝓣.Λ (env code.Mir.locals l) (after 2 (code.function).body) (at_ret _ (W.post y)) $
    sets ! (of_opd ! (get ! refl)) refl (node_good 𝓛 n good) $ cell_out ! tt n b o good $
    returns ! (look_at ! 0 refl) $ free_all ! refl $ keep ! (0 ∷ 1 ∷ []) $
    owned ! N (Is N) (makes N-type.the_type N-laws.the_plain 𝓛) n (N-laws.lowered n ∷ []) good $
    suffices ! _ (ends_at 𝓛 f.ended stayed c y (N-laws.lowered n) n (tt, (tt, (tt, tt))) (tt, (tt, (tt, tt)))) $ says ! told $
    nothing ! $ move ! (3 ∷ 0 ∷ []) $ join ! $ move ! (2 ∷ 0 ∷ []) $ join ! $ frame ! $ nothing ! $ nothing ! $ fjoin ! $ nothing ! $ fjoin ! $ nothing ! $ fjoin ! $ done !)))))
