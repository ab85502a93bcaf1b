-- `entry` hands its loan to the question, and the question to `open`, whose answer it returns.
use mathlib.Core.Path.{◌≡◌, refl, ap, subst, ◌∙◌}
use mathlib.Core.List.{List, [], ◌∷◌}
use mir.Syntax.{named, a_type, dcons, dnil}
use mir.Val.{Val}
use mir.MapTy.{inst_fn}
use base.Logic.{emp, id⊢}
use base.Fml.{ftrue, flft}
use contract.BorrowLft.{◌⊑◌}
use contract.Lifetimes.{Lfts}
use contract.Monad.{fact, fact_i}
use contract.Running.{tables}
use denote.Exit.{yes, no}
use denote.Laws.{Typed, shows}
use denote.Param.{param, bounded}
use denote.Param.Laws.{param_laws}
use denote.RattleType.{RattleType}
use denote.Ref.{MutRef, mut_vals, mut_Tells}
use denote.Signature.{plain, named_lft}
use denote.Steps.{nothing, heard, peeks, only}
use denote.Triple.Call.{calls_at}
use denote.Triple.Clauses.{lasts}
use denote.Triple.Entry.{on_entry}
use denote.Triple.Spec.{triple_of}
use denote.Triple.Table.{framed}
use denote.Triple.Walked.{Stays, stay_dropped, Goes-dropped, Goes-spent_ref}
use types.ByLocal.{alloc_all, pass_all, free_all, look_at, get, through, sets, lands_as}
use types.Kit.{‵, raw, ◌⊛◌, some, later, ◌$◌, ◌∵◌, !, qed, by, move, drop, use0, use1, use2, split, join, fjoin, pick, await, rewrite}
use types.Run.{enter, of_opd, addr, stop, no_more, and_then, returns}
use Rattle.std.proofs.lemmas.Result.{IfOk-weaker, IfErr-weaker}
use Rattle.std.proofs.raw_atomic.Walks.{proved, leaves}
use Rattle.std.proofs.result.Result.TheLaws.{the_row_laws as result_laws}
use Rattle.std.specs.Prelude.{◌↔◌, IsTrue, IfOk, IfErr, IsOk, unwrap_or}
use Rattle.std.specs.contracts.result.Result.{the_row as Result}
use Rattle.specs_entity.proofs.errors.WrongGeneration.TheLaws.{the_row_laws as refusal_laws}
use Rattle.specs_entity.proofs.ids.Entity.TheLaws.{the_told as entity_told, the_row_laws as entity_laws}
use Rattle.specs_entity.specs.Births.{IsAlive, persistent_at}
use Rattle.specs_entity.specs.Life.{first_life}
use Rattle.specs_entity.specs.contracts.errors.WrongGeneration.{the_row as Refusal}
use Rattle.specs_entity.specs.contracts.ids.Entity.{the_row as Entity}
use Rattle.specs_storage.proofs.OpenLemmas.{lent_on}
use Rattle.specs_storage.proofs.entry.EntryOf.TheLaws.{the_row_laws as question_laws, lowered, lowers}
use Rattle.specs_storage.proofs.entry.StorageEntry.TheLaws.{the_row_laws as entry_laws}
use Rattle.specs_storage.proofs.entry.EntryOf.open.Met.{met as open_met}
use Rattle.specs_storage.proofs.entry.open.Storage+T+mut+MaskedStorage+T.entry_of.Met.{met as ask_met}
use Rattle.specs_storage.proofs.entry.open.Storage+T+mut+MaskedStorage+T.entry.Code as code
use Rattle.specs_storage.proofs.entry.open.Storage+T+mut+MaskedStorage+T.entry.Statement.{statement}
use Rattle.specs_storage.specs.EntryLends.{lends_open, lends_entry, store_of, id_of}
use Rattle.specs_layouts.specs.MaskedLends.{masked_row}
use Rattle.specs_storage.specs.StorageLends.{lends_store}
use Rattle.specs_storage.specs.contracts.entry.EntryOf.{the_row as Question}
use Rattle.specs_storage.specs.contracts.entry.EntryOf.open as opened
use Rattle.specs_storage.specs.contracts.entry.StorageEntry.{the_row as Entry}
use Rattle.specs_storage.specs.contracts.entry.open.Storage+T+mut+MaskedStorage+T.entry as f
use Rattle.specs_storage.specs.contracts.entry.open.Storage+T+mut+MaskedStorage+T.entry.Key
use Rattle.specs_storage.specs.contracts.entry.open.Storage+T+mut+MaskedStorage+T.entry_of as asked
use Rattle.specs_storage.specs.contracts.storage.Storage.{the_row as Lender}

pub entry_spec : {M : Type 1} → statement M
entry_spec 𝓤 𝓛 𝓜 𝓡 wired T' S' LT LS gC dC gU dU gD dD drT drS mC mU mD mT mS =
    let T = param 0 T' in let S = param 1 S' in
    let ended = f.ended T' S' gC dC gU dU gD dD drT drS in
    let c = f.clauses T' S' gC dC gU dU gD dD drT drS 𝓛 𝓜.mem 𝓡.returns in
    let g = f.T-Storage-UnprotectedStorage-whole T' S' gC dC gU dU gD dD drT drS in
    let args = bounded (a_type ∷ a_type ∷ []) (T', (S', tt)) (dcons dC (dcons dU (dcons dD (dcons drT (dcons drS dnil))))) in
    let stayed : Stays ended.signature.params ended.kept = (stay_dropped _ no, (stay_dropped _ yes, tt)) in
    let entity_vals = λ (e : Entity.Denot). entity_told.val e ∷ [] in
    let Whole : Lfts 4 → RattleType = λ κs. Lender (named_lft 4 1 tt κs) T (MutRef (named 1) κs.1.0 (masked_row T S g)) in
    proved 𝓛 ended stayed c 𝓜 𝓡 (Goes-spent_ref 𝓛 4 (0 ∷ []) tt (plain Whole), (Goes-dropped 𝓛 4 (plain (λ _. Entity)) yes (λ κs x w. refl), tt))
    (Key.name args) (inst_fn args code.function) (code.unfolded 𝓤 𝓛.H 𝓜 𝓡 wired (T', (S', tt)) dC dU dD drT drS)
    (λ κs. (mut_vals, (entity_vals, tt))) (λ κs. (mut_Tells (named 0) κs.0 (Whole κs), (entity_told.tells, tt))) (λ κs qs bounds a _ are.
    let G = triple_of 𝓛 (asked.signature T' S' gC dC gU dU gD dD drT drS) (asked.spec T' S' gC dC gU dU gD dD drT drS 𝓛 𝓜.mem 𝓡.returns) in
    let z : G.Ghost = ((κs, qs, bounds, a, (mut_vals a.0, (entity_vals a.1.0, tt))), tt) in
    qed 𝓛 (raw (on_entry 𝓛 ended.signature κs qs a z.0.4) ∷ raw (fact 𝓤 (κs.1.1.0 ⊑ T'.lives)) ∷ raw (fact 𝓤 (κs.1.1.1.0 ⊑ S'.lives)) ∷ ‵ ftrue ∷ []) ∵
    move ! (1 ∷ []) $ heard ! _ (λ lives. move ! (1 ∷ []) $ heard ! _ (λ also_lives. move ! (1 ∷ []) $
    use0 𝓛 (raw (fact 𝓤 (κs.1.1.1.0 ⊑ S'.lives))) (fact_i 𝓤 _ (emp 𝓤) also_lives) $ join ! $
    use0 𝓛 (raw (fact 𝓤 (κs.1.1.0 ⊑ T'.lives))) (fact_i 𝓤 _ (emp 𝓤) lives) $ join ! $
    move ! (1 ∷ 0 ∷ []) $ use2 𝓛 (raw (G.pre z)) (id⊢ 𝓤 _) $
    enter ! _ _ _ _ _ $ alloc_all ! (λ l. pass_all ! refl ((tt, tt), ((((entity_laws.lawful 𝓛).typed a.1.0 (entity_vals a.1.0) are.1.0).0), tt)) $
    sets ! (addr ! (through ! refl (stop !))) refl (tt, tt) $
    calls_at ! (framed 𝓤 𝓛.H 𝓜 (tables 𝓤 𝓛.H 𝓜 𝓡 𝓡.env)) G
    (ask_met 𝓤 𝓛 𝓜 𝓡 (code.calls-specs_storage::entry::open::Storage+T+mut+MaskedStorage+T::entry_of 𝓡.env wired) T' S' LT LS gC dC gU dU gD dD drT drS mC mU mD mT mS) z
    (and_then ! (get ! refl) (and_then ! (get ! refl) (no_more !))) (λ v.
    let loan = named_lft 4 0 tt κs in let LT' = param_laws 0 T' LT in let LS' = param_laws 1 S' LS in
    let Q = Question loan T S gU gD in
    use1 𝓛 (later (some (λ (question : Q.Denot). ((‵ (flft κs.0 qs.0) ⊛ (‵ (flft κs.1.0 qs.1.0) ⊛ (‵ (flft κs.1.1.0 qs.1.1.0) ⊛ (‵ (flft κs.1.1.1.0 qs.1.1.1.0) ⊛ ‵ ftrue)))) ⊛ ‵ (Q.own_val question (v ∷ []))) ⊛
    some (λ (ends : Unit {0} × (Unit {0} × Unit {0})). ‵ (lasts (asked.ended T' S' gC dC gU dU gD dD drT drS) κs a ends) ⊛ (‵ (lends_store T S g a.0 question.store)
    ⊛ (raw (fact 𝓤 (question.store.now ≡ a.0.now.store.now)) ⊛ (raw (fact 𝓤 (question.entity ≡ a.1.0)) ⊛ (raw (fact 𝓤 (IsTrue question.is_alive ↔ IsAlive a.0.now.entities.now a.1.0))
    ⊛ raw (fact 𝓤 (question.last ≡ unwrap_or (persistent_at a.0.now.entities.now a.1.0.id) first_life)))))))))) (id⊢ 𝓤 _) $
    await ! tt $ pick ! (λ question. split ! $ split ! $ move ! (1 ∷ []) $ peeks ! Q _ (shows 𝓛 Q) question (v ∷ []) (λ is.
    let told : (v ∷ []) ≡ (lowered loan T S gU gD LT' LS' question ∷ []) = (lowers loan T S gU gD LT' LS').val_is question (v ∷ []) is in
    let typed = subst (Typed Q.mir) told (((question_laws loan T S gU gD LT' LS').lawful 𝓛).typed question (v ∷ []) is) in
    rewrite ! 0 (λ (us : List Val). ‵ (Q.own_val question us)) told refl $
    lands_as ! (ap only told) refl typed.0 $ sets ! (of_opd ! (get ! refl)) refl typed.0 $
    move ! (2 ∷ []) $ pick ! (λ ends.
    -- [what is known of the question; the question; the tokens]
    let H = triple_of 𝓛 (opened.signature T' S' gC dC gU dU gD dD drT drS) (opened.spec T' S' gC dC gU dU gD dD drT drS 𝓛 𝓜.mem 𝓡.returns) in
    let y : H.Ghost = (((κs.0, (κs.1.1.0, (κs.1.1.1.0, tt))), (qs.0, (qs.1.1.0, (qs.1.1.1.0, tt))), (bounds.1.0, tt), (question, tt), (lowered loan T S gU gD LT' LS' question ∷ [], tt)), tt) in
    move ! (2 ∷ []) $ split ! $ move ! (1 ∷ []) $ split ! $ move ! (2 ∷ 1 ∷ []) $ join ! $
    -- [the tokens for `open`; that of the storage's lifetime; what is known of the question; the question]
    nothing ! $ move ! (4 ∷ 0 ∷ []) $ join ! $ move ! (1 ∷ 0 ∷ []) $ join ! $ nothing ! $
    use0 𝓛 (raw (fact 𝓤 (κs.1.1.1.0 ⊑ S'.lives))) (fact_i 𝓤 _ (emp 𝓤) also_lives) $ join ! $
    use0 𝓛 (raw (fact 𝓤 (κs.1.1.0 ⊑ T'.lives))) (fact_i 𝓤 _ (emp 𝓤) lives) $ join ! $
    move ! (1 ∷ 0 ∷ []) $ use2 𝓛 (raw (H.pre y)) (id⊢ 𝓤 _) $
    calls_at ! (framed 𝓤 𝓛.H 𝓜 (tables 𝓤 𝓛.H 𝓜 𝓡 𝓡.env)) H
    (open_met 𝓤 𝓛 𝓜 𝓡 (code.calls-specs_storage::entry::EntryOf::open 𝓡.env wired) T' S' LT LS gC dC gU dU gD dD drT drS mC mU mD mT mS) y
    (and_then ! (get ! refl) (no_more !)) (λ u.
    let R = Result (Entry loan T S gU gD) Refusal in
    use1 𝓛 (later (some (λ (r : R.Denot). ((‵ (flft κs.0 qs.0) ⊛ (‵ (flft κs.1.1.0 qs.1.1.0) ⊛ (‵ (flft κs.1.1.1.0 qs.1.1.1.0) ⊛ ‵ ftrue))) ⊛ ‵ (R.own_val r (u ∷ []))) ⊛
    some (λ (left : (Unit {0} × Unit {0}) × Unit {0}). ‵ (lasts (opened.ended T' S' gC dC gU dU gD dD drT drS) y.0.0 y.0.3 left) ⊛ (‵ (lends_open T S g question.store r)
    ⊛ (raw (fact 𝓤 (IfOk r (λ entry. (store_of entry).ghost_name ≡ question.store.ghost_name))) ⊛ (raw (fact 𝓤 (IfOk r (λ entry. (store_of entry).now ≡ question.store.now)))
    ⊛ (raw (fact 𝓤 (IfOk r (λ entry. id_of entry ≡ question.entity.id))) ⊛ (raw (fact 𝓤 (IsOk r ↔ IsTrue question.is_alive))
    ⊛ raw (fact 𝓤 (IfErr r (λ refusal. (refusal.entity ≡ question.entity) × (refusal.actual_gen ≡ question.last))))))))))))) (id⊢ 𝓤 _) $
    await ! tt $ pick ! (λ r. split ! $ split ! $ move ! (1 ∷ []) $ peeks ! R _ (shows 𝓛 R) r (u ∷ []) (λ its.
    let fits = ((result_laws (Entry loan T S gU gD) Refusal (entry_laws loan T S gU gD LT' LS') refusal_laws).lawful 𝓛).typed r (u ∷ []) its in
    lands_as ! refl refl fits.0 $ returns ! (look_at ! 0 refl) $ free_all ! refl $
    -- [the answer; the tokens; what is known of it; the token of the storage's lifetime; what is known of the question]
    move ! (2 ∷ []) $ pick ! (λ left. split ! $ drop ! $ split ! $ move ! (1 ∷ []) $ split ! $ drop ! $
    split ! $ heard ! _ (λ valued. split ! $ heard ! _ (λ indexed. split ! $ heard ! _ (λ answered. heard ! _ (λ refused.
    move ! (4 ∷ []) $ split ! $ drop ! $ split ! $ move ! (1 ∷ []) $
    split ! $ heard ! _ (λ stored. split ! $ heard ! _ (λ same_entity. split ! $ heard ! _ (λ alive. heard ! _ (λ last.
    use2 𝓛 (‵ (lends_entry T S g a.0 r)) (lent_on 𝓛 T S g a.0 question.store r stored) $
    -- [what becomes of the storage; the answer; the tokens; that of the storage's lifetime]
    move ! (2 ∷ []) $ split ! $ move ! (4 ∷ 1 ∷ []) $ join ! $ move ! (1 ∷ 0 ∷ []) $ join ! $
    -- [the tokens; what becomes of the storage; the answer]
    use0 𝓛 (raw (fact 𝓤 (IfErr r (λ refusal. (refusal.entity ≡ a.1.0) × (refusal.actual_gen ≡ unwrap_or (persistent_at a.0.now.entities.now a.1.0.id) first_life)))))
    (fact_i 𝓤 _ (emp 𝓤) (IfErr-weaker r _ _ (λ _ known. (known.0 ∙ same_entity, known.1 ∙ last)) refused)) $
    use0 𝓛 (raw (fact 𝓤 (IsOk r ↔ IsAlive a.0.now.entities.now a.1.0))) (fact_i 𝓤 _ (emp 𝓤) ((λ ok. alive.0 (answered.0 ok)), (λ lives. answered.1 (alive.1 lives)))) $ join ! $
    use0 𝓛 (raw (fact 𝓤 (IfOk r (λ entry. id_of entry ≡ a.1.0.id)))) (fact_i 𝓤 _ (emp 𝓤) (IfOk-weaker r _ _ (λ _ known. known ∙ ap (λ (e : Entity.Denot). e.id) same_entity) indexed)) $ join ! $
    use0 𝓛 (raw (fact 𝓤 (IfOk r (λ entry. (store_of entry).now ≡ a.0.now.store.now)))) (fact_i 𝓤 _ (emp 𝓤) (IfOk-weaker r _ _ (λ _ known. known ∙ stored) valued)) $ join ! $
    move ! (2 ∷ 0 ∷ []) $ join ! $
    -- [what is ensured; the tokens; the answer]
    nothing ! $ nothing ! $ fjoin ! $ nothing ! $ fjoin ! $ move ! (2 ∷ 0 ∷ 3 ∷ 1 ∷ []) $
    by ! (leaves 𝓛 ended stayed c (z.0, tt) u r (tt, (tt, tt)) (tt, (tt, tt)))))))))))))))))))))))
