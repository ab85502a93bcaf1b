-- `replace` hands its place to `spot`, and what that gives to `put`.
use mathlib.Core.List.{List, [], ◌∷◌, ◌++◌}
use mathlib.Core.Path.{◌≡◌, refl, sym, ap, subst}
use mir.MapTy.{inst_fn}
use mir.Syntax.{a_type, dcons, dnil}
use mir.Val.{Val}
use base.Fml.{ftrue, flft}
use base.Logic.{SProp, emp, id⊢}
use contract.BorrowLft.{◌⊑◌}
use contract.Monad.{fact, fact_i}
use contract.Running.{tables}
use denote.Exit.{yes, no, left, see}
use denote.Laws.{Typed, shows}
use denote.Param.{param, bounded}
use denote.Param.Laws.{param_laws}
use denote.Ref.{MutBor}
use denote.Signature.{plain, named_lft}
use denote.Steps.{nothing, heard, peeks, only}
use denote.Triple.Call.{calls_at}
use denote.Triple.Clauses.{lasts, Lasts}
use denote.Triple.Spec.{triple_of}
use denote.Triple.Table.{framed}
use denote.Triple.Walked.{Stay, Stays, stay_dropped, Goes-dropped, walk_of}
use prog.Wp.{WpFn}
use types.ByLocal.{alloc_all, pass_all, free_all, look_at, get, sets, lands_as}
use types.Kit.{‵, raw, ◌⊛◌, some, later, prop, ◌$◌, ◌∵◌, !, qed, by, move, drop, use0, use1, use2, split, fsplit, join, fjoin, pick, await, rewrite, regoal}
use types.Run.{enter, of_opd, no_more, and_then, returns}
use Rattle.std.proofs.alloc.AllocFailed.TheLaws.{the_row_laws as failed_laws}
use Rattle.std.proofs.option.Option.TheLaws.{the_row_laws as option_laws}
use Rattle.std.proofs.raw_atomic.Walks.{proved_at, leaves}
use Rattle.std.proofs.result.Result.TheLaws.{the_row_laws as result_laws}
use Rattle.std.specs.Prelude.{IfOk, IfErr, IsOk, OnOk, OnErr, IsSome, false}
use Rattle.std.specs.contracts.alloc.AllocFailed.{the_row as AllocFailed}
use Rattle.std.specs.contracts.option.Option.{the_row as Option}
use Rattle.std.specs.contracts.result.Result.{the_row as Result}
use Rattle.specs_layouts.specs.Masked.{Masked}
use Rattle.specs_storage.proofs.PlaceLemmas.{one_of, left_behind, comes_back, left_is, at_place}
use Rattle.specs_storage.proofs.entry.Spot.TheLaws.{the_row_laws as spot_laws, lowered, lowers}
use Rattle.specs_storage.proofs.entry.Spot.put.Met.{met as put_met}
use Rattle.specs_storage.proofs.entry.StorageEntry.TheLaws.{the_row_laws as entry_laws, the_told as entry_told}
use Rattle.specs_storage.proofs.entry.StorageEntry.replace.Code as code
use Rattle.specs_storage.proofs.entry.StorageEntry.replace.Statement.{statement}
use Rattle.specs_storage.proofs.entry.StorageEntry.spot.Met.{met as spot_met}
use Rattle.specs_storage.specs.EntryLends.{store_of, id_of, IsSettled, IsLeft}
use Rattle.specs_storage.specs.Left.{left_of}
use Rattle.specs_storage.specs.contracts.entry.Spot.{the_row as Spot}
use Rattle.specs_storage.specs.contracts.entry.Spot.put as put
use Rattle.specs_storage.specs.contracts.entry.StorageEntry.{the_row as Entry}
use Rattle.specs_storage.specs.contracts.entry.StorageEntry.replace as f
use Rattle.specs_storage.specs.contracts.entry.StorageEntry.replace.Key
use Rattle.specs_storage.specs.contracts.entry.StorageEntry.spot as spot

pub replace_spec : {M : Type 1} → statement M
replace_spec 𝓤 𝓛 𝓜 𝓡 wired T' S' LT LS gC dC gU dU gD dD drT drS mC mU mD mT mS =
    let T = param 0 T' in let S = param 1 S' in
    let ended = f.ended T' S' gC dC gU dU gD dD drT drS in
    let c = f.clauses T' S' gC dC gU dU gD dD drT drS 𝓛 𝓜.mem 𝓡.returns in
    let g = f.T-Storage-UnprotectedStorage-whole T' S' gC dC gU dU gD dD drT drS in
    let args = bounded (a_type ∷ a_type ∷ []) (T', (S', tt)) (dcons dC (dcons dU (dcons dD (dcons drT (dcons drS dnil))))) in
    let fn = inst_fn args code.function in
    let 𝓣 = tables 𝓤 𝓛.H 𝓜 𝓡 𝓡.env in
    let back : Stay (plain {n = 3} (λ κs. Entry (named_lft 3 0 tt κs) T S gU gD)) yes = record { fit = λ κs x w. Unit {0}; has = λ κs x w vs. left ((Entry (named_lft 3 0 tt κs) T S gU gD).exit yes) x w } in
    let stayed : Stays ended.signature.params ended.kept = (back, (stay_dropped _ no, tt)) in
    proved_at 𝓛 ended stayed c 𝓜 𝓡 ((λ κs x w vs _. 𝓛.laws.⇛_intro _), (Goes-dropped 𝓛 3 (plain (λ _. T)) no (λ κs x w. refl), tt))
    (Key.name args) fn (code.unfolded 𝓤 𝓛.H 𝓜 𝓡 wired (T', (S', tt)) dC dU dD drT drS) (λ z are.
    let κs = z.0.0 in let qs = z.0.1 in let bounds = z.0.2 in let a = z.0.3 in let vss = z.0.4 in
    let Post : Val → SProp 𝓤 = (walk_of 𝓛 ended stayed c).post z in
    let loan = named_lft 3 0 tt κs in let LT' = param_laws 0 T' LT in let LS' = param_laws 1 S' LS in
    let E = Entry loan T S gU gD in let Q = Spot loan T S gU gD in
    let Toks = ‵ (flft κs.0 qs.0) ⊛ (‵ (flft κs.1.0 qs.1.0) ⊛ (‵ (flft κs.1.1.0 qs.1.1.0) ⊛ ‵ ftrue)) in
    let place = (entry_told loan T S gU gD LT' LS').val a.0 in
    let told : vss.0 ≡ (place ∷ []) = (entry_told loan T S gU gD LT' LS').tells a.0 vss.0 are.0 in
    let typed = subst (Typed E.mir) told (((entry_laws loan T S gU gD LT' LS').lawful 𝓛).typed a.0 vss.0 are.0) in
    let one = one_of vss.1.0 (LT'.single a.1.0 vss.1.0 are.1.0) in
    let part_typed = subst (Typed T.mir) one.1 ((LT'.lawful 𝓛).typed a.1.0 vss.1.0 are.1.0) in
    qed 𝓛 ((Toks ⊛ (‵ (E.own_val a.0 vss.0) ⊛ (‵ (T.own_val a.1.0 vss.1.0) ⊛ ‵ ftrue))) ∷ raw (fact 𝓤 (κs.1.0 ⊑ T'.lives)) ∷ raw (fact 𝓤 (κs.1.1.0 ⊑ S'.lives)) ∷ ‵ ftrue ∷ []) ∵
    move ! (1 ∷ []) $ heard ! _ (λ lives. move ! (1 ∷ []) $ heard ! _ (λ also_lives. split ! $ move ! (1 ∷ []) $ split ! $
    rewrite ! 0 (λ (us : List Val). ‵ (E.own_val a.0 us)) told refl $ move ! (1 ∷ []) $ split ! $
    rewrite ! 0 (λ (us : List Val). ‵ (T.own_val a.1.0 us)) one.1 refl $
    -- [the part; nothing; the place; the tokens; nothing]
    regoal ! (λ (us : List Val). prop (WpFn 𝓤 𝓛.H 𝓣.C 𝓣.Λ fn us Post)) (λ i. told i ++ (one.1 i ++ [])) refl $
    enter ! _ _ _ _ _ $ alloc_all ! (λ l. pass_all ! refl (typed.0, (part_typed.0, tt)) $
    sets ! (of_opd ! (get ! refl)) refl typed.0 $
    move ! (2 ∷ 1 ∷ []) $ join ! $ move ! (2 ∷ 0 ∷ []) $ join ! $ move ! (2 ∷ []) $
    use0 𝓛 (raw (fact 𝓤 (κs.1.1.0 ⊑ S'.lives))) (fact_i 𝓤 _ (emp 𝓤) also_lives) $ join ! $
    use0 𝓛 (raw (fact 𝓤 (κs.1.0 ⊑ T'.lives))) (fact_i 𝓤 _ (emp 𝓤) lives) $ join ! $
    let G = triple_of 𝓛 (spot.signature T' S' gC dC gU dU gD dD drT drS) (spot.spec T' S' gC dC gU dU gD dD drT drS 𝓛 𝓜.mem 𝓡.returns) in
    let x : G.Ghost = ((κs, qs, bounds, (a.0, tt), (place ∷ [], tt)), tt) in
    move ! (1 ∷ 0 ∷ []) $ use2 𝓛 (raw (G.pre x)) (id⊢ 𝓤 _) $
    calls_at ! (framed 𝓤 𝓛.H 𝓜 𝓣) G (spot_met 𝓤 𝓛 𝓜 𝓡 (code.calls-specs_storage::entry::StorageEntry::spot 𝓡.env wired) T' S' LT LS gC dC gU dU gD dD drT drS mC mU mD mT mS) x
    (and_then ! (get ! refl) (no_more !)) (λ v.
    use1 𝓛 (later (some (λ (spot' : Q.Denot). (Toks ⊛ ‵ (Q.own_val spot' (v ∷ []))) ⊛
    some (λ (ends : Lasts (spot.ended T' S' gC dC gU dU gD dD drT drS) κs (a.0, tt)). ‵ (lasts (spot.ended T' S' gC dC gU dU gD dD drT drS) κs (a.0, tt) ends)
    ⊛ (raw (fact 𝓤 (spot'.store ≡ store_of a.0)) ⊛ raw (fact 𝓤 (spot'.id ≡ id_of a.0))))))) (id⊢ 𝓤 _) $
    await ! tt $ pick ! (λ spot'. split ! $ split ! $ move ! (1 ∷ []) $ peeks ! Q _ (shows 𝓛 Q) spot' (v ∷ []) (λ is.
    let seen : (v ∷ []) ≡ (lowered loan T S gU gD LT' LS' spot' ∷ []) = (lowers loan T S gU gD LT' LS').val_is spot' (v ∷ []) is in
    let spot_typed = subst (Typed Q.mir) seen (((spot_laws loan T S gU gD LT' LS').lawful 𝓛).typed spot' (v ∷ []) is) in
    rewrite ! 0 (λ (us : List Val). ‵ (Q.own_val spot' us)) seen refl $
    move ! (2 ∷ []) $ pick ! (λ ends. split ! $ drop ! $ split ! $ heard ! _ (λ stored. heard ! _ (λ indexed.
    lands_as ! (ap only seen) refl spot_typed.0 $ sets ! (of_opd ! (get ! refl)) refl spot_typed.0 $ sets ! (of_opd ! (get ! refl)) refl part_typed.0 $
    -- [the spot; the tokens; the part]
    nothing ! $ move ! (3 ∷ 0 ∷ []) $ join ! $ move ! (1 ∷ 0 ∷ []) $ join ! $ move ! (1 ∷ 0 ∷ []) $ join ! $ nothing ! $
    use0 𝓛 (raw (fact 𝓤 (κs.1.1.0 ⊑ S'.lives))) (fact_i 𝓤 _ (emp 𝓤) also_lives) $ join ! $
    use0 𝓛 (raw (fact 𝓤 (κs.1.0 ⊑ T'.lives))) (fact_i 𝓤 _ (emp 𝓤) lives) $ join ! $
    let H = triple_of 𝓛 (put.signature T' S' gC dC gU dU gD dD drT drS) (put.spec T' S' gC dC gU dU gD dD drT drS 𝓛 𝓜.mem 𝓡.returns) in
    let y : H.Ghost = ((κs, qs, bounds, (spot', (a.1.0, tt)), (lowered loan T S gU gD LT' LS' spot' ∷ [], (one.0 ∷ [], tt))), tt) in
    move ! (1 ∷ 0 ∷ []) $ use2 𝓛 (raw (H.pre y)) (id⊢ 𝓤 _) $
    calls_at ! (framed 𝓤 𝓛.H 𝓜 𝓣) H (put_met 𝓤 𝓛 𝓜 𝓡 (code.calls-specs_storage::entry::Spot::put 𝓡.env wired) T' S' LT LS gC dC gU dU gD dD drT drS mC mU mD mT mS) y
    (and_then ! (get ! refl) (and_then ! (get ! refl) (no_more !))) (λ u.
    let R = Result (Option T) (AllocFailed T) in let there = y.0.3 in
    let Put = put.ended T' S' gC dC gU dU gD dD drT drS in
    use1 𝓛 (later (some (λ (r : R.Denot). (Toks ⊛ ‵ (R.own_val r (u ∷ []))) ⊛ some (λ (ends : Lasts Put κs there). ‵ (lasts Put κs there ends)
    ⊛ (raw (fact 𝓤 (IfOk r (λ old. old ≡ g.part_at spot'.store.now.inner spot'.id))) ⊛ (raw (fact 𝓤 (OnOk r (IsSettled g spot'.store.now spot'.id a.1.0 ends.0.0)))
    ⊛ (raw (fact 𝓤 (OnErr r (IsLeft g spot'.store.now ends.0.0))) ⊛ (raw (fact 𝓤 (IfErr r (λ refused. refused.value ≡ a.1.0)))
    ⊛ raw (fact 𝓤 (IsSome (g.part_at spot'.store.now.inner spot'.id) → g.emits spot'.store.now.inner ≡ false → IsOk r)))))))))) (id⊢ 𝓤 _) $
    await ! tt $ pick ! (λ r. split ! $ split ! $ move ! (1 ∷ []) $ peeks ! R _ (shows 𝓛 R) r (u ∷ []) (λ its.
    let fits = ((result_laws (Option T) (AllocFailed T) (option_laws T LT') (failed_laws T LT')).lawful 𝓛).typed r (u ∷ []) its in
    lands_as ! refl refl fits.0 $ returns ! (look_at ! 0 refl) $ free_all ! refl $
    -- [the answer; the tokens; what is known of it]
    move ! (2 ∷ []) $ pick ! (λ ends. split ! $ move ! (1 ∷ []) $ split ! $ heard ! _ (λ valued. split ! $ heard ! _ (λ settled. split ! $ heard ! _ (λ kept. split ! $ heard ! _ (λ handed. heard ! _ (λ succeeds.
    fsplit ! $ move ! (1 ∷ []) $ drop ! $
    use1 𝓛 (‵ (left (E.exit yes) a.0 (left_behind loan T S gU gD a.0 ends.0.0))) (comes_back loan T S gU gD 𝓛 a.0 spot' ends.0 stored) $
    -- [what is left behind the place; the answer; the tokens]
    let same = ap (λ (m : MutBor (Masked S.Denot)). m.now) stored in let last = left_is loan T S gU gD a.0 ends.0.0 in
    let after = (left_of (see (E.exit yes) a.0 (left_behind loan T S gU gD a.0 ends.0.0))).now in
    use0 𝓛 (raw (fact 𝓤 (IsSome (g.part_at (store_of a.0).now.inner (id_of a.0)) → g.emits (store_of a.0).now.inner ≡ false → IsOk r)))
    (fact_i 𝓤 _ (emp 𝓤) (at_place S (λ m i. IsSome (g.part_at m.inner i) → g.emits m.inner ≡ false → IsOk r) same indexed succeeds)) $
    use0 𝓛 (raw (fact 𝓤 (IfErr r (λ refused. refused.value ≡ a.1.0)))) (fact_i 𝓤 _ (emp 𝓤) handed) $ join ! $
    use0 𝓛 (raw (fact 𝓤 (OnErr r (IsLeft g (store_of a.0).now after))))
    (fact_i 𝓤 _ (emp 𝓤) (at_place S (λ m i. OnErr r (IsLeft g m after)) same indexed (subst (λ n. OnErr r (IsLeft g spot'.store.now n)) (sym last) kept))) $ join ! $
    use0 𝓛 (raw (fact 𝓤 (OnOk r (IsSettled g (store_of a.0).now (id_of a.0) a.1.0 after))))
    (fact_i 𝓤 _ (emp 𝓤) (at_place S (λ m i. OnOk r (IsSettled g m i a.1.0 after)) same indexed (subst (λ n. OnOk r (IsSettled g spot'.store.now spot'.id a.1.0 n)) (sym last) settled))) $ join ! $
    use0 𝓛 (raw (fact 𝓤 (IfOk r (λ old. old ≡ g.part_at (store_of a.0).now.inner (id_of a.0))))) (fact_i 𝓤 _ (emp 𝓤) (at_place S (λ m i. IfOk r (λ old. old ≡ g.part_at m.inner i)) same indexed valued)) $ join ! $
    -- [what is ensured; what is left behind the place; the answer; the tokens]
    nothing ! $ nothing ! $ fjoin ! $ move ! (2 ∷ 0 ∷ []) $ fjoin ! $ move ! (3 ∷ 0 ∷ 2 ∷ 1 ∷ []) $
    by ! (leaves 𝓛 ended stayed c z u r (left_behind loan T S gU gD a.0 ends.0.0, (tt, tt)) (tt, (tt, tt))))))))))))))))))))))
