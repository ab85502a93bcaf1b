-- The laws of trees, of systems and of two trees together: what a run may change, and what it may depend on.
use Rattle.std.specs.Prelude.{◌≡◌, Bool, true, false, ◌||◌, ◌++◌, Option, None, Some, List, [], refl, if◌then◌else◌}
use Rattle.std.proofs.Common.{ap, sym, ◌∙◌, subst}
use Rattle.std.proofs.Math.Path.{fun_ext}
use Rattle.std.proofs.lemmas.Bool.{false≢true}
use Rattle.std.proofs.lemmas.List.Folds.{list_any-append}
use Rattle.shred_world.specs.declared.resource_id.ResourceId.{ResourceId}
use Rattle.shred_world.specs.ResourceIds.{same_id}
use Rattle.shred_world.specs.Bundles.{Slot, absent, out, shared, owned, Holding, readable, takable, is_listed, unlisted-append}
use Rattle.shred_stages.specs.declared.stop.Stop.{Stop}
use Rattle.shred_stages.specs.Views.{IsLeft, Leaves, merged, cut, owned_of, shared_of}
use Rattle.shred_stages.specs.Runs.{Step}
use Rattle.shred_stages.proofs.CallerLemmas.{leaves-itself, leaves-leaves, leaves-to, step-leaves}
use Rattle.shred.specs.Trees.{Halves, both_lists, Agree, carried, Within, SeqRuns, ParRuns, StaysWithin, SeesWhatItDeclares}

-- ids of one of two lists
pub listed-left : (xs ys : List ResourceId) (id : ResourceId) → is_listed xs id ≡ true → is_listed (xs ++ ys) id ≡ true
listed-left xs ys id e = list_any-append (same_id id) xs ys ∙ ap (λ b. b || is_listed ys id) e

pub listed-right : (xs ys : List ResourceId) (id : ResourceId) → is_listed ys id ≡ true → is_listed (xs ++ ys) id ≡ true
listed-right xs ys id e = list_any-append (same_id id) xs ys ∙ ap (λ b. is_listed xs id || b) e ∙ by (is_listed xs id)
  where
    by : (b : Bool) → (b || true) ≡ true
    by true = refl
    by false = refl

module _ {V : Type 0} where
  -- what can be seen of a slot, once what a run left there is carried over
  seen-carried : {A : Type 0} (see : Slot V → A) (before after other : Slot V) → IsLeft before after → see other ≡ see before
      → see (merged after other) ≡ see after
  seen-carried see absent after other left e = let P : Slot V → Type 0 = λ x. see (merged x other) ≡ see x in subst P (sym left) e
  seen-carried see out after other left e = let P : Slot V → Type 0 = λ x. see (merged x other) ≡ see x in subst P (sym left) e
  seen-carried see (shared v) after other left e = let P : Slot V → Type 0 = λ x. see (merged x other) ≡ see x in subst P (sym left) e
  seen-carried see (owned v) after other left e = let P : Slot V → Type 0 = λ x. see (merged x other) ≡ see x in subst P (sym left.1) refl

  seen-after : {A : Type 0} (see : Slot V → A) (written : Bool) (before after other : Slot V) → IsLeft before after → (written ≡ false → after ≡ before) → see other ≡ see before
      → see (if written then merged after other else other) ≡ see after
  seen-after see true before after other left stays e = seen-carried see before after other left e
  seen-after see false before after other left stays e = e ∙ ap see (sym (stays refl))

  -- a value that comes back to where it is
  merged-same : (before other : Slot V) → takable other ≡ takable before → merged before other ≡ other
  merged-same absent other e = refl
  merged-same out other e = refl
  merged-same (shared v) other e = refl
  merged-same (owned v) absent e = cc
  merged-same (owned v) out e = cc
  merged-same (owned v) (shared u) e = cc
  merged-same (owned v) (owned u) e = cc

  merged-again : (first second other : Slot V) → IsLeft first second → merged second (merged first other) ≡ merged second other
  merged-again absent second other left = refl
  merged-again out second other left = refl
  merged-again (shared v) second other left = refl
  merged-again (owned v) second other left = let P : Slot V → Type 0 = λ x. merged x (owned v) ≡ merged x other in subst P (sym left.1) refl

  both-slot : (l r : Bool) (first second other : Slot V) → IsLeft first second → (r ≡ false → second ≡ first)
      → (if (l || r) then merged second other else other) ≡ (if r then merged second (if l then merged first other else other) else (if l then merged first other else other))
  both-slot true true first second other left stays = sym (merged-again first second other left)
  both-slot true false first second other left stays = ap (λ x. merged x other) (stays refl)
  both-slot false true first second other left stays = refl
  both-slot false false first second other left stays = refl

  first-slot : (l r : Bool) (before after other : Slot V) → (l ≡ false → after ≡ before) → (r ≡ true → takable other ≡ takable before)
      → (if (l || r) then merged after other else other) ≡ (if l then merged after other else other)
  first-slot true r before after other stays agrees = refl
  first-slot false true before after other stays agrees = ap (λ x. merged x other) (stays refl) ∙ merged-same before other (agrees refl)
  first-slot false false before after other stays agrees = refl

  module _ (reads writes reads2 writes2 : List ResourceId) (w other : Holding V) (agree : Agree (reads ++ reads2) (writes ++ writes2) w other) where
    -- what two declare, the first declares
    agree-first : Agree reads writes w other
    agree-first = record {
      read = λ id listed. agree.read id (listed-left reads reads2 id listed);
      written = λ id listed. agree.written id (listed-left writes writes2 id listed);
    }

    module _ (between : Holding V) (head : Within writes w between) where
      -- once the first has run, the second sees the same over both states
      agree-second : Agree reads2 writes2 between (carried writes between other)
      agree-second = record {
        read = λ id listed. seen-after readable (is_listed writes id) (w id) (between id) (other id) (head.leaves id) (head.others id) (agree.read id (listed-right reads reads2 id listed));
        written = λ id listed. seen-after takable (is_listed writes id) (w id) (between id) (other id) (head.leaves id) (head.others id) (agree.written id (listed-right writes writes2 id listed));
      }

      -- what both left is what the second left over what the first left
      carried-both : (last : Holding V) → Within writes2 between last → carried writes2 last (carried writes between other) ≡ carried (writes ++ writes2) last other
      carried-both last tail = fun_ext (λ id.
          sym (ap (λ b. if b then merged (last id) (other id) else other id) (list_any-append (same_id id) writes writes2)
          ∙ both-slot (is_listed writes id) (is_listed writes2 id) (between id) (last id) (other id) (tail.leaves id) (tail.others id)))

      -- where the second doesn't run, it is what the first left
      carried-first : (last : Holding V) → last ≡ between → carried (writes ++ writes2) last other ≡ carried writes between other
      carried-first last e = ap (λ (left : Holding V). carried (writes ++ writes2) left other) e ∙ fun_ext (λ id.
          ap (λ b. if b then merged (between id) (other id) else other id) (list_any-append (same_id id) writes writes2)
          ∙ first-slot (is_listed writes id) (is_listed writes2 id) (w id) (between id) (other id) (head.others id) (λ listed. agree.written id (listed-right writes writes2 id listed)))

  within-both : (writes writes2 : List ResourceId) (w between last : Holding V) → Within writes w between → Within writes2 between last → Within (writes ++ writes2) w last
  within-both writes writes2 w between last head tail = record {
    leaves = leaves-leaves w between last head.leaves tail.leaves;
    others = λ id unlisted. let apart = unlisted-append writes writes2 id unlisted in tail.others id apart.1 ∙ head.others id apart.0;
  }

  within-first : (writes writes2 : List ResourceId) (w between last : Holding V) → Within writes w between → last ≡ between → Within (writes ++ writes2) w last
  within-first writes writes2 w between last head e = record {
    leaves = leaves-to w between last head.leaves e;
    others = λ id unlisted. ap (λ (left : Holding V). left id) e ∙ head.others id (unlisted-append writes writes2 id unlisted).0;
  }

-- two trees, whose runs keep the laws
module _ {V H T : Type 0} (head_meets : H → Holding V → Option Stop → H → Holding V → Type 0) (tail_meets : T → Holding V → Option Stop → T → Holding V → Type 0)
    (head_writes : H → List ResourceId) (tail_writes : T → List ResourceId)
    (head_within : StaysWithin head_meets head_writes) (tail_within : StaysWithin tail_meets tail_writes) where
  pub seq-within : StaysWithin (SeqRuns head_meets tail_meets) (both_lists head_writes tail_writes)
  seq-within before w refused after w_after (between, None, head, tail) =
      within-both (head_writes before.head) (tail_writes before.tail) w between w_after (head_within before.head w None after.head between head) (tail_within before.tail between refused after.tail w_after tail)
  seq-within before w refused after w_after (between, Some why, head, (_, _, same)) =
      within-first (head_writes before.head) (tail_writes before.tail) w between w_after (head_within before.head w (Some why) after.head between head) same

  pub par-within : StaysWithin (ParRuns head_meets tail_meets) (both_lists head_writes tail_writes)
  par-within before w refused after w_after (between, first, later, head, tail, _) =
      within-both (head_writes before.head) (tail_writes before.tail) w between w_after (head_within before.head w first after.head between head) (tail_within before.tail between later after.tail w_after tail)

  module _ (head_reads : H → List ResourceId) (tail_reads : T → List ResourceId)
      (head_sees : SeesWhatItDeclares head_meets head_reads head_writes) (tail_sees : SeesWhatItDeclares tail_meets tail_reads tail_writes) where
    -- both ran: so they do over another state
    both-see : (before after : Halves H T) (first later : Option Stop) (w between w_after other : Holding V)
        → head_meets before.head w first after.head between → tail_meets before.tail between later after.tail w_after
        → Agree (head_reads before.head ++ tail_reads before.tail) (head_writes before.head ++ tail_writes before.tail) w other
        → head_meets before.head other first after.head (carried (head_writes before.head) between other)
        × tail_meets before.tail (carried (head_writes before.head) between other) later after.tail (carried (head_writes before.head ++ tail_writes before.tail) w_after other)
    both-see before after first later w between w_after other head tail agree =
        let hr = head_reads before.head in
        let hw = head_writes before.head in
        let tr = tail_reads before.tail in
        let tw = tail_writes before.tail in
        let kept : Within hw w between = head_within before.head w first after.head between head in
        let P : Holding V → Type 0 = λ left. tail_meets before.tail (carried hw between other) later after.tail left in (
          head_sees before.head w first after.head between other head (agree-first hr hw tr tw w other agree),
          subst P (carried-both hr hw tr tw w other agree between kept w_after (tail_within before.tail between later after.tail w_after tail))
              (tail_sees before.tail between later after.tail w_after (carried hw between other) tail (agree-second hr hw tr tw w other agree between kept)),
        )

    pub par-sees : SeesWhatItDeclares (ParRuns head_meets tail_meets) (both_lists head_reads tail_reads) (both_lists head_writes tail_writes)
    par-sees before w refused after w_after other (between, first, later, head, tail, told) agree =
        let both = both-see before after first later w between w_after other head tail agree in
        (carried (head_writes before.head) between other, first, later, both.0, both.1, told)

    pub seq-sees : SeesWhatItDeclares (SeqRuns head_meets tail_meets) (both_lists head_reads tail_reads) (both_lists head_writes tail_writes)
    seq-sees before w refused after w_after other (between, None, head, tail) agree =
        let both = both-see before after None refused w between w_after other head tail agree in
        (carried (head_writes before.head) between other, None, both.0, both.1)
    seq-sees before w refused after w_after other (between, Some why, head, (told, same, last)) agree =
        let hr = head_reads before.head in
        let hw = head_writes before.head in
        let tr = tail_reads before.tail in
        let tw = tail_writes before.tail in
        let kept : Within hw w between = head_within before.head w (Some why) after.head between head in (
          carried hw between other,
          Some why,
          head_sees before.head w (Some why) after.head between other head (agree-first hr hw tr tw w other agree),
          (told, same, carried-first hr hw tr tw w other agree between kept w_after last),
        )

module _ {V : Type 0} where
  -- what is read alone comes back as it is
  pub read-stays : (l : Bool) (seen : Option V) (after slot : Slot V) → IsLeft (if l then shared_of seen else absent) after → merged after slot ≡ slot
  read-stays true None after slot left = let P : Slot V → Type 0 = λ x. merged x slot ≡ slot in subst P (sym left) refl
  read-stays true (Some v) after slot left = let P : Slot V → Type 0 = λ x. merged x slot ≡ slot in subst P (sym left) refl
  read-stays false seen after slot left = let P : Slot V → Type 0 = λ x. merged x slot ≡ slot in subst P (sym left) refl

  cut-slot : (l r : Bool) (slot other : Slot V) → (l ≡ true → takable other ≡ takable slot) → (r ≡ true → readable other ≡ readable slot)
      → (if l then owned_of (takable other) else (if r then shared_of (readable other) else absent)) ≡ (if l then owned_of (takable slot) else (if r then shared_of (readable slot) else absent))
  cut-slot true r slot other taken read = ap owned_of (taken refl)
  cut-slot false true slot other taken read = ap shared_of (read refl)
  cut-slot false false slot other taken read = refl

  -- over states that agree, the same is lent
  pub agree-cut : (reads writes : List ResourceId) (w other : Holding V) → Agree reads writes w other → cut reads writes other ≡ cut reads writes w
  agree-cut reads writes w other agree = fun_ext (λ id. cut-slot (is_listed writes id) (is_listed reads id) (w id) (other id) (agree.written id) (agree.read id))

  merged-taken : (after before other : Slot V) → takable other ≡ takable before → merged (merged after before) other ≡ merged after other
  merged-taken absent before other e = merged-same before other e
  merged-taken out before other e = merged-same before other e
  merged-taken (shared v) before other e = merged-same before other e
  merged-taken (owned v) before other e = refl

  back-slot : (l r : Bool) (before after other last : Slot V) → (l ≡ true → takable other ≡ takable before) → last ≡ merged after before
      → IsLeft (if l then owned_of (takable before) else (if r then shared_of (readable before) else absent)) after → (if l then merged last other else other) ≡ merged after other
  back-slot true r before after other last agrees e left = ap (λ x. merged x other) e ∙ merged-taken after before other (agrees refl)
  back-slot false r before after other last agrees e left = sym (read-stays r (readable before) after other left)

-- what does nothing keeps the laws
module _ {V X : Type 0} where
  pub idle-within : StaysWithin (λ (before : X) (w : Holding V) refused after w_after. (refused ≡ None) × (w_after ≡ w)) (λ _. [])
  idle-within before w refused after w_after (told, last) = record {
    leaves = leaves-to w w w_after (leaves-itself w) last;
    others = λ id unlisted. ap (λ (left : Holding V). left id) last;
  }

  pub idle-sees : SeesWhatItDeclares (λ (before : X) (w : Holding V) refused after w_after. (refused ≡ None) × (w_after ≡ w)) (λ _. []) (λ _. [])
  idle-sees before w refused after w_after other (told, last) agree = (told, refl)

-- a system alone keeps the laws
module _ {V S : Type 0} (meets : S → Holding V → Option Stop → S → Holding V → Type 0) (reads writes : S → List ResourceId) where
  unwritten : (l r : Bool) (before after last : Slot V) → last ≡ merged after before → l ≡ false
      → IsLeft (if l then owned_of (takable before) else (if r then shared_of (readable before) else absent)) after → last ≡ before
  unwritten true r before after last e stays left = absurd (false≢true (sym stays))
  unwritten false r before after last e stays left = e ∙ read-stays r (readable before) after before left

  pub leaf-within : StaysWithin (λ system. Step meets (reads system) (writes system) system) writes
  leaf-within before w refused after w_after step = record {
    leaves = step-leaves meets (reads before) (writes before) before w refused after w_after step;
    others = λ id unlisted. unwritten (is_listed (writes before) id) (is_listed (reads before) id) (w id) (step.after id) (w_after id) (step.comes_back id) unlisted (step.leaves id);
  }

  pub leaf-sees : SeesWhatItDeclares (λ system. Step meets (reads system) (writes system) system) reads writes
  leaf-sees before w refused after w_after other step agree =
      let same : cut (reads before) (writes before) w ≡ cut (reads before) (writes before) other = sym (agree-cut (reads before) (writes before) w other agree) in
      let P : Holding V → Type 0 = λ seen. meets before seen refused after step.after in
      let Q : Holding V → Type 0 = λ seen. Leaves seen step.after in
      record {
        after = step.after;
        runs = subst P same step.runs;
        leaves = subst Q same step.leaves;
        comes_back = λ id. back-slot (is_listed (writes before) id) (is_listed (reads before) id) (w id) (step.after id) (other id) (w_after id) (agree.written id) (step.comes_back id) (step.leaves id);
      }
