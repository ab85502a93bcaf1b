-- Facts on the builder of stages: seats are made, stay seats as systems are added, and a run of the stages.
use Rattle.std.proofs.Common.{◌≡◌, ℕ, ◌<◌, ◌+◌, ◌-◌, Bool, true, false, zero, suc, List, [], ◌∷◌, ◌++◌, length, get_or, take, refl, ap, sym, ◌∙◌, subst, arith, Option, Some, None}
use Rattle.std.specs.Prelude.{◌==◌, if◌then◌else◌, slice_get}
use Rattle.std.specs.List.{All}
use Rattle.std.specs.Option.{MatchOption, option_map_or}
use Rattle.std.specs.FinMap.{get, insert}
use Rattle.std.proofs.lemmas.List.{take_more}
use Rattle.std.proofs.lemmas.List.Elements.{All-append, All-cons, All-set}
use Rattle.shred_world.specs.declared.resource_id.ResourceId.{ResourceId}
use Rattle.shred_world.specs.ResourceIds.{same_id}
use Rattle.shred_world.specs.Worlds.{Slots}
use Rattle.shred_world.specs.Bundles.{is_listed}
use Rattle.shred_world.proofs.CallerLemmas.{same_id-is}
use Rattle.shred_plan.specs.declared.stage.Way.{Way}
use Rattle.shred_plan.specs.declared.stage.Way.TheVariants.{Alone, Behind}
use Rattle.shred_plan.specs.Plan.{Placing, Stage, Planning, admitted, placed, taken, rest_after, systems_of}
use Rattle.shred_stages.specs.declared.turn.Staged.{Staged}
use Rattle.shred_stages.specs.Moves.{IsSeat}
use Rattle.shred_stages.specs.Seats.{IsSeated, AreSeated, StageIsSeated, StagesAreSeated}
use Rattle.shred_stages.proofs.MoveLemmas.{choose, keep, listed-more}
use Rattle.shred_stages.proofs.ViewLemmas.{insert-here, insert-other}

module _ {V : Type 0} where
  -- one more slot
  seat-next : (done : List ResourceId) (id : ResourceId) (seat after : Slots V) → IsSeat done seat
      → MatchOption (get seat id) (after ≡ insert seat id None) (λ _. after ≡ seat) → IsSeat (done ++ id ∷ []) after
  seat-next done id seat after seated made q = by (same_id q id) refl
    where
      at : (slot : Option (Option V)) (l : Bool) → get seat id ≡ slot → slot ≡ (if l then Some None else None) → MatchOption slot (after ≡ insert seat id None) (λ _. after ≡ seat) → get after id ≡ Some None
      at None l is e m = ap (λ w. get w id) m ∙ insert-here seat id None
      at (Some x) true is e m = ap (λ w. get w id) m ∙ is ∙ e
      at (Some x) false is e m = cc

      other : (slot : Option (Option V)) → same_id q id ≡ false → MatchOption slot (after ≡ insert seat id None) (λ _. after ≡ seat) → get after q ≡ get seat q
      other None is m = ap (λ w. get w q) m ∙ insert-other seat id q None is
      other (Some x) is m = ap (λ w. get w q) m

      by : (s : Bool) → same_id q id ≡ s → get after q ≡ (if is_listed (done ++ id ∷ []) q then Some None else None)
      by true is =
          let P : ResourceId → Type 0 = λ r. get after r ≡ Some None in
          subst P (sym (same_id-is q id is)) (at (get seat id) (is_listed done id) refl (seated id) made)
          ∙ choose {A = Option (Option V)} (is_listed done q) (same_id q id) None (Some None) is
          ∙ ap (λ b. if b then Some None else None) (sym (listed-more done id q))
      by false is =
          other (get seat id) is made ∙ seated q ∙ keep {A = Option (Option V)} (is_listed done q) (same_id q id) None (Some None) is
          ∙ ap (λ b. if b then Some None else None) (sym (listed-more done id q))

  pub seat-loop : (ids : List ResourceId) (k : ℕ) (id : ResourceId) (seat after : Slots V) → k < length ids → id ≡ get_or ids k id → IsSeat (take k ids) seat
      → MatchOption (get seat id) (after ≡ insert seat id None) (λ _. after ≡ seat) → IsSeat (take (k + 1) ids) after
  seat-loop ids k id seat after h read seated made =
      let more : take k ids ++ id ∷ [] ≡ take (k + 1) ids = ap (λ r. take k ids ++ r ∷ []) read ∙ sym (take_more ids k id h) in
      let P : List ResourceId → Type 0 = λ list. IsSeat list after in
      subst P more (seat-next (take k ids) id seat after seated made)

all-uncons : {A : Type 0} (P : A → Type 0) (x : A) (xs : List A) → All P (x ∷ xs) → P x × All P xs
all-uncons P x xs all = (all 0 x (omega arith), λ k d h. all (suc k) d (omega arith))

all-map : {A : Type 0} (P Q : A → Type 0) (xs : List A) → ((x : A) → P x → Q x) → All P xs → All Q xs
all-map P Q xs f all k d h = f _ (all k d h)

module _ {V S : Type 0} where
  -- systems that are added leave the others where they are
  more-at : (P : Staged V S → Type 0) (staged more : List (Staged V S)) (n : ℕ) → MatchOption (slice_get staged n) ⊥ P → MatchOption (slice_get (staged ++ more) n) ⊥ P
  more-at P [] more n there = absurd there
  more-at P (s ∷ staged) more zero there = there
  more-at P (s ∷ staged) more (suc n) there = more-at P staged more n there

  last-at : (P : Staged V S → Type 0) (staged : List (Staged V S)) (y : Staged V S) → P y → MatchOption (slice_get (staged ++ y ∷ []) (length staged)) ⊥ P
  last-at P [] y there = there
  last-at P (s ∷ staged) y there = last-at P staged y there

  more-seated : (staged more : List (Staged V S)) (stages : List (Stage ResourceId)) → StagesAreSeated stages staged → StagesAreSeated stages (staged ++ more)
  more-seated staged more stages seated =
      all-map _ _ stages (λ stage. all-map _ _ stage (λ group. all-map _ _ group (λ one there. more-at (λ s. IsSeat one.writes s.seat) staged more one.number there))) seated

  taken-seated : (staged : List (Staged V S)) (one : Placing ResourceId) (stage : Stage ResourceId) (way : Way) → IsSeated staged one → StageIsSeated stage staged → StageIsSeated (taken one stage way) staged
  taken-seated staged one stage Alone there seated =
      All-append (λ group. AreSeated group staged) stage ((one ∷ []) ∷ []) seated (All-cons (λ group. AreSeated group staged) (one ∷ []) [] (All-cons (IsSeated staged) one [] there (λ k d h. absurd (omega arith))) (λ k d h. absurd (omega arith)))
  taken-seated staged one stage (Behind i) there seated =
      All-set (λ group. AreSeated group staged) stage i (get_or stage i [] ++ one ∷ [])
      (All-append (IsSeated staged) (get_or stage i []) (one ∷ []) (at stage i seated) (All-cons (IsSeated staged) one [] there (λ k d h. absurd (omega arith)))) seated
    where
      at : (stage : Stage ResourceId) (i : ℕ) → StageIsSeated stage staged → AreSeated (get_or stage i []) staged
      at [] i seated = λ k d h. absurd (omega arith)
      at (group ∷ stage) zero seated = (all-uncons (λ g. AreSeated g staged) group stage seated).0
      at (group ∷ stage) (suc i) seated = at stage i ((all-uncons (λ g. AreSeated g staged) group stage seated).1)

  placed-seated : (same : ResourceId → ResourceId → Bool) (staged : List (Staged V S)) (one : Placing ResourceId) (stages : List (Stage ResourceId)) (closed : ℕ) (rest : List ℕ) → IsSeated staged one
      → StagesAreSeated stages staged → StagesAreSeated (placed same closed one rest stages) staged
  placed-seated same staged one [] closed rest there seated =
      All-cons (λ stage. StageIsSeated stage staged) ((one ∷ []) ∷ []) []
      (All-cons (λ group. AreSeated group staged) (one ∷ []) [] (All-cons (IsSeated staged) one [] there (λ k d h. absurd (omega arith))) (λ k d h. absurd (omega arith))) (λ k d h. absurd (omega arith))
  placed-seated same staged one (stage ∷ later) closed rest there seated =
      let parts = all-uncons (λ s. StageIsSeated s staged) stage later seated in
      by (if closed == 0 then admitted same one rest stage else None) parts.0 parts.1
      (placed-seated same staged one later (closed - 1) (rest_after rest (systems_of stage)) there parts.1)
    where
      by : (way : Option Way) → StageIsSeated stage staged → StagesAreSeated later staged → StagesAreSeated (placed same (closed - 1) one (rest_after rest (systems_of stage)) later) staged
          → StagesAreSeated (option_map_or (λ w. taken one stage w ∷ later) way (stage ∷ placed same (closed - 1) one (rest_after rest (systems_of stage)) later)) staged
      by (Some way) first others passed = All-cons (λ s. StageIsSeated s staged) (taken one stage way) later (taken-seated staged one stage way there first) others
      by None first others passed = All-cons (λ s. StageIsSeated s staged) stage _ first passed

  pub added-seated : (same : ResourceId → ResourceId → Bool) (staged : List (Staged V S)) (y : Staged V S) (one : Placing ResourceId) (stages : List (Stage ResourceId)) (closed : ℕ)
      → one.number ≡ length staged → IsSeat one.writes y.seat → StagesAreSeated stages staged → StagesAreSeated (placed same closed one one.after stages) (staged ++ y ∷ [])
  added-seated same staged y one stages closed number seat seated =
      let P : ℕ → Type 0 = λ n. MatchOption (slice_get (staged ++ y ∷ []) n) ⊥ (λ s. IsSeat one.writes s.seat) in
      placed-seated same (staged ++ y ∷ []) one stages closed one.after (subst P (sym number) (last-at (λ s. IsSeat one.writes s.seat) staged y seat)) (more-seated staged (y ∷ []) stages seated)

  -- the same of what a call leaves
  pub staged-seated : (same : ResourceId → ResourceId → Bool) (staged room after : List (Staged V S)) (y : Staged V S) (one : Placing ResourceId) (planning left : Planning ResourceId)
      → one.number ≡ length staged → IsSeat one.writes y.seat → StagesAreSeated planning.stages staged → room ≡ staged → after ≡ room ++ y ∷ []
      → left ≡ record { first = planning.first; stages = placed same planning.first one one.after planning.stages } → StagesAreSeated left.stages after
  staged-seated same staged room after y one planning left number seat seated rooms afters lefts =
      let P : List (Staged V S) → Type 0 = λ list. StagesAreSeated left.stages list in
      let Q : Planning ResourceId → Type 0 = λ p. StagesAreSeated p.stages (staged ++ y ∷ []) in
      subst P (sym (afters ∙ ap (λ list. list ++ y ∷ []) rooms)) (subst Q (sym lefts) (added-seated same staged y one planning.stages planning.first number seat seated))
