-- What the words have, by what the callers list.
use Rattle.std.proofs.Common.{◌≡◌, ◌⊎◌, ℕ, suc, ◌*◌, ◌<◌, Bool, true, false, if◌then◌else◌, List, [], ◌∷◌, ◌++◌, refl, ap, ◌∙◌, subst, arith, inl, inr, ⊎_elim, ne_eqb, append-nil}
use Rattle.std.proofs.lemmas.List.Elements.{All-contains}
use Rattle.std.specs.List.{Contains}
use native.Mathlib.Decide.{ℕ_discrete}
use mathlib.Core.Option.{some}
use lib.ListN.{get_elem?}
use Rattle.hibitset.specs.declared.atomic_core.Caller.{Caller}
use Rattle.hibitset.specs.declared.atomic_core.Run.{Run}
use Rattle.hibitset.specs.AtomicCore.{Sizes, bit, one_if, HasAllBits, new_report, new_reports, in_flight, calls_of, total, HasWriter}
use Rattle.hibitset.specs.AtomicRuns.{IsSoundRun, IsAtRest, IsListed, AreMembers}
use Rattle.hibitset.proofs.AtomicWordLemmas.{bit-lt}

-- where a sum isn't zero, an item has a share in it
pub total-some : {Item : Type 0} (count : Item → ℕ) (items : List Item) → 0 < total count items → (place : ℕ) × (item : Item) × (get_elem? items place ≡ some item) × (0 < count item)
total-some count [] more = absurd (omega arith)
total-some {Item} count (first ∷ items) more = by (ℕ_discrete (count first) 0) (total-some count items)
  where
    by : Dec (count first ≡ 0) → (0 < total count items → (place : ℕ) × (item : Item) × (get_elem? items place ≡ some item) × (0 < count item))
        → (place : ℕ) × (item : Item) × (get_elem? (first ∷ items) place ≡ some item) × (0 < count item)
    by (yes none) rest = let found = rest (omega arith) in (suc found.0, found.1, found.2, found.3)
    by (no some_count) rest = (0, first, refl, omega arith)

-- an index that calls report new is that of one of them
pub reported-listed : (index : ℕ) (calls : List (ℕ × Bool)) → 0 < new_reports index calls → (found : Bool) × Contains calls (index, found)
reported-listed index [] more = absurd (omega arith)
reported-listed index (call ∷ calls) more = by (ℕ_discrete call.0 index) (reported-listed index calls)
  where
    by : Dec (call.0 ≡ index) → (0 < new_reports index calls → (found : Bool) × Contains calls (index, found)) → (found : Bool) × Contains (call ∷ calls) (index, found)
    by (yes same) rest = (call.1, (0, omega arith, λ j. (same j, call.1)))
    by (no differ) rest =
        let none : new_report index call ≡ 0 = ap (λ (here : Bool). if here then (if call.1 then 0 else 1) else 0) (ne_eqb call.0 index differ) in
        let found = rest (omega arith) in
        (found.0, (suc found.1.0, (let below = found.1.1 in omega arith), found.1.2))

-- an idle caller's calls are its ended ones
pub calls-idle : (caller : Caller) → caller.stage ≡ 0 → calls_of caller ≡ caller.calls
calls-idle caller idle = ap (λ stage. caller.calls ++ in_flight stage (caller.index, caller.found)) idle ∙ append-nil caller.calls

module _ (sizes : Sizes) (old : ℕ → Bool) (run : Run) (sound : IsSoundRun sizes old run) where
  -- an index that is set is an old member, or a caller reports it new
  pub set-reported : (index : ℕ) → index < 64 * sizes.first → bit run.words index ≡ 1
      → (old index ≡ true) ⊎ ((who : ℕ) × (caller : Caller) × (get_elem? run.callers who ≡ some caller) × (0 < new_reports index (calls_of caller)))
  set-reported index within on = by (old index) refl
    where
      by : (was : Bool) → old index ≡ was → (old index ≡ true) ⊎ ((who : ℕ) × (caller : Caller) × (get_elem? run.callers who ≡ some caller) × (0 < new_reports index (calls_of caller)))
      by true is = inl is
      by false is = let none : one_if (old index) ≡ 0 = ap one_if is in let counted = sound.counts index within in inr (total-some (λ caller. new_reports index (calls_of caller)) run.callers (omega arith))

  -- an old member is set
  pub old-set : (index : ℕ) → index < 64 * sizes.first → old index ≡ true → bit run.words index ≡ 1
  old-set index within is = let one : one_if (old index) ≡ 1 = ap one_if is in let counted = sound.counts index within in let two = bit-lt run.words index in omega arith

  -- a listed index is set
  pub listed-set : (index : ℕ) → IsListed run.callers index → bit run.words index ≡ 1
  listed-set index listed = (All-contains (λ call. HasAllBits sizes run.words call.0) listed.1.calls (index, listed.3.0) (sound.each listed.0 listed.1 listed.2).ended listed.3.1).1 0 (omega arith)

  pub at-rest : IsAtRest run.callers → AreMembers sizes old run
  at-rest rest = record {
    members = λ index within. (
      (λ on. ⊎_elim inl (λ (new : (who : ℕ) × (caller : Caller) × (get_elem? run.callers who ≡ some caller) × (0 < new_reports index (calls_of caller))).
          inr (new.0, new.1, new.2, reported-listed index new.1.calls (subst (λ calls. 0 < new_reports index calls) (calls-idle new.1 (rest new.0 new.1 new.2)) new.3))) (set-reported index within on)),
      (λ known. ⊎_elim (old-set index within) (listed-set index) known),
    );
    exact = record {
      over = λ layer number low within on. ⊎_elim (λ summed. summed) (λ (writer : HasWriter run.callers layer number). absurd (let idle = rest writer.0 writer.1 writer.2 in let flies = writer.3 in omega arith)) (sound.over layer number low within on);
      under = sound.under;
      wide = sound.wide;
    };
  }
