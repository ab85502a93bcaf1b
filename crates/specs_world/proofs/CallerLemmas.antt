-- What callers of worlds need: the lemmas on what stands in one after a call, and that a queue whose first job is known gives that job.
pub use Rattle.specs_world.proofs.DroppingLemmas.{get-insert_other}
pub use Rattle.specs_world.proofs.WorldLemmas.{Stands, stands-held, stands-is, held-stands, became, became-apart}
pub use Rattle.specs_world.proofs.WorldLemmas.{put-by-builder, put-parts, dropped-each}
pub use Rattle.specs_world.proofs.WorldLemmas.{IsRegistered, registered-anew, registered-again, begun-births, begun-table, begun-others}
pub use Rattle.specs_world.proofs.WorldLemmas.{deleted-parts, deleted-others, none-to-run}
pub use Rattle.specs_world.proofs.StockedLemmas.{parts-rest, parts-told, begun, begun-without, IsKept, registered, registered-first, born, born-rests, put, put-rests, builds}
pub use Rattle.specs_world.proofs.StockedLemmas.{DropsKind, kills, killed, merges, settles, none-gone, none-deleted, seen-parts}
pub use Rattle.specs_world.proofs.JoinedLemmas.{joined-below, joined-edits, joined-known}
use Rattle.std.proofs.Common.{◌≡◌, ℕ, zero, suc, arith, Option, Some, None, List, [], ◌∷◌, ◌⊎◌, inl, inr, Result, Ok, Err, refl, sym, ap, subst, ◌∙◌}
use Rattle.std.specs.Prelude.{unwrap_or}
use Rattle.std.specs.FinMap as map
use Rattle.shred_world.specs.ResourceIds.{id_of}
use Rattle.shred_world.specs.Worlds.{Slots, resource_at}
use Rattle.specs_entity.specs.declared.errors.Error.{Error}
use Rattle.specs_entity.specs.declared.errors.Error.TheVariants as variant
use Rattle.specs_world.specs.Resources.{Place}
use Rattle.specs_world.specs.declared.maintained.Maintained.{Maintained}
use Rattle.specs_world.specs.Queues.{waiting, NoneWaits, NoneBelow, TakesNext, RunsNext, JobsRun, MayBeLeft, counted, none_ran}

-- a job that was counted and hasn't failed wasn't refused
not-refused : (refused : Option Error) (counts : Maintained) → counts ≡ counted refused none_ran → counts.failed ≡ 0 → refused ≡ None
not-refused None counts is none = refl
not-refused (Some error) counts is none = let e = sym none ∙ ap (λ c. c.failed) is in absurd (let n : 0 ≡ 1 = e in omega (arith, n))

module _ {V J S : Type 0} (runs : J → Option Error → Slots V → Slots V → Type 0) (at : Place V (List J)) (shared : Place V S) (before : Slots V) (job : J) (rest : List J)
    (there : resource_at at.part before (id_of at.id.kind 0) ≡ Some (job ∷ rest)) where
  -- jobs wait under the number 0
  some-wait : waiting at before 0 ≡ [] → ⊥
  some-wait none = let e : job ∷ rest ≡ [] = sym (ap (λ o. unwrap_or o []) there) ∙ none in cc

  -- the job was taken out of the queue, and run
  pub record RanFirst (refused : Option Error) (after : Slots V) : Type 0 where
    pub taken : Slots V
    pub takes : taken ≡ map.insert before (id_of at.id.kind 0) (Some (at.wrapped rest))
    pub ran : runs job refused taken after

  first-under : (number : ℕ) → NoneBelow at before number → number ≡ 0
  first-under zero least = refl
  first-under (suc number) least = absurd (some-wait (least 0 (omega arith)))

  -- the first job under the number 0 is the one that runs next
  pub ran-first : (refused : Option Error) (after : Slots V) → RunsNext runs at shared refused before after → RanFirst refused after
  ran-first refused after next = by next.takes
    where
      by : TakesNext at shared next.job before next.taken → RanFirst refused after
      by (inl first) =
          let zeroth = first-under first.number first.least in
          let queued = ap (λ number. resource_at at.part before (id_of at.id.kind number)) (sym zeroth) ∙ first.takes.queued in
          let same : job ∷ rest ≡ next.job ∷ first.takes.rest = let e = sym there ∙ queued in cc in
          record {
            taken = next.taken;
            takes =
                first.takes.taken ∙ ap (λ number. map.insert before (id_of at.id.kind number) (Some (at.wrapped first.takes.rest))) zeroth
                ∙ ap (λ jobs. map.insert before (id_of at.id.kind 0) (Some (at.wrapped jobs))) (let e : first.takes.rest ≡ rest = cc in e);
            ran = subst (λ j. runs j refused next.taken after) (let e : next.job ≡ job = cc in e) next.ran;
          }
      by (inr none) = absurd (some-wait (none.0 0 (omega arith)))

  -- where one job may run, that one ran, and all is counted
  pub record RanOne (counts : Maintained) (after : Slots V) : Type 0 where
    pub refused : Option Error
    pub first : RanFirst refused after
    pub counts_are : counts ≡ counted refused none_ran

  pub ran-one : (counts : Maintained) (after : Slots V) → JobsRun runs at shared 1 none_ran before (Ok counts) after → RanOne counts after
  ran-one counts after (inl over) = absurd (some-wait (over.1 0 (omega arith)))
  ran-one counts after (inr (inl memory)) = let e = memory.0 in cc
  ran-one counts after (inr (inr (refused, ran, other, next, end))) = by end.1
    where
      answer : Result Maintained Error
      answer = Ok counts

      by : ((answer ≡ Ok (counted refused none_ran)) × NoneWaits at ran) ⊎ ((answer ≡ Err variant.Limit) × MayBeLeft at shared ran) → RanOne counts after
      by (inl ok) = record { refused = refused; first = subst (RanFirst refused) (sym end.0) (ran-first refused ran next); counts_are = let e = ok.0 in cc }
      by (inr left) = let e = left.0 in cc

  -- where none has failed that one wasn't refused
  pub ran-unrefused : (counts : Maintained) (after : Slots V) → RanOne counts after → counts.failed ≡ 0 → RanFirst None after
  ran-unrefused counts after one none = subst (λ refused. RanFirst refused after) (not-refused one.refused counts one.counts_are none) one.first

-- one job is counted
pub one-counted : (refused : Option Error) (counts : Maintained) → counts ≡ counted refused none_ran → counts.jobs ≡ 1
one-counted None counts is = ap (λ c. c.jobs) is
one-counted (Some error) counts is = ap (λ c. c.jobs) is
