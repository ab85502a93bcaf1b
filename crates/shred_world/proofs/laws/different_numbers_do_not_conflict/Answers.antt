use Rattle.std.proofs.Common.{◌≡◌, [], ◌∷◌, refl}
use Rattle.std.proofs.lemmas.List.Elements.{All-cons, All-nil}
use Rattle.shred_world.specs.declared.resource_id.ResourceId.{ResourceId}
use Rattle.shred_world.proofs.ConflictLemmas.{under-share_none, under-do_not_conflict}
use Rattle.shred_world.proofs.laws.different_numbers_do_not_conflict.Goals as goal

pub returns-clause-accessors : goal.returns-clause-accessors
returns-clause-accessors g c = λ one other dynamic elsewhere differ reads writes other_reads other_writes.
    under-do_not_conflict dynamic elsewhere _ _ _ _ differ reads writes other_reads other_writes

pub returns-clause-both_write : goal.returns-clause-both_write
returns-clause-both_write g c = λ written other differ.
    under-share_none written.dynamic other.dynamic (written ∷ []) (other ∷ []) differ
    (All-cons (λ (i : ResourceId). i.dynamic ≡ written.dynamic) written [] refl (All-nil _)) (All-cons (λ (i : ResourceId). i.dynamic ≡ other.dynamic) other [] refl (All-nil _))

pub returns-clause-one_reads : goal.returns-clause-one_reads
returns-clause-one_reads g c = λ written read differ.
    under-share_none written.dynamic read.dynamic (written ∷ []) (read ∷ []) differ
    (All-cons (λ (i : ResourceId). i.dynamic ≡ written.dynamic) written [] refl (All-nil _)) (All-cons (λ (i : ResourceId). i.dynamic ≡ read.dynamic) read [] refl (All-nil _))

pub returns-clause-lists : goal.returns-clause-lists
returns-clause-lists g c = λ ids others dynamic elsewhere. under-share_none dynamic elsewhere ids others
