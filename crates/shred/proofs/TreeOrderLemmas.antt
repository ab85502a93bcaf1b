-- The order of the two halves of a `Par`.
use Rattle.std.proofs.Common.{◌≡◌, Bool, true, false, List, refl, ap, sym, ◌∙◌, subst, Option, Some, None}
use Rattle.std.specs.Prelude.{if◌then◌else◌}
use Rattle.std.specs.Option.{option_or}
use Rattle.std.proofs.Math.Path.{fun_ext}
use Rattle.shred_world.specs.declared.resource_id.ResourceId.{ResourceId}
use Rattle.shred_world.specs.Bundles.{Slot, Holding, readable, takable, is_listed}
use Rattle.shred_stages.specs.declared.stop.Stop.{Stop}
use Rattle.shred_stages.specs.Views.{IsLeft, merged}
use Rattle.shred.specs.Trees.{Halves, carried, Within, conflict, SeqRuns, ParRuns, TurnedRuns, StaysWithin, SeesWhatItDeclares}
use Rattle.shred.proofs.HalfLemmas.{reads-unwritten, writes-unwritten, read-unwritten, written-unwritten, left-merged}

module _ {V H T : Type 0} (head_meets : H → Holding V → Option Stop → H → Holding V → Type 0) (tail_meets : T → Holding V → Option Stop → T → Holding V → Type 0) where
  -- neither refused
  pub par-to-seq : (tree : Halves H T) (w : Holding V) (after : Halves H T) (w_after : Holding V) → ParRuns head_meets tail_meets tree w None after w_after → SeqRuns head_meets tail_meets tree w None after w_after
  par-to-seq tree w after w_after (between, None, None, head, tail, told) = (between, None, head, tail)
  par-to-seq tree w after w_after (between, None, Some why, head, tail, told) = cc
  par-to-seq tree w after w_after (between, Some why, later, head, tail, told) = cc

  pub seq-to-par : (tree : Halves H T) (w : Holding V) (after : Halves H T) (w_after : Holding V) → SeqRuns head_meets tail_meets tree w None after w_after → ParRuns head_meets tail_meets tree w None after w_after
  seq-to-par tree w after w_after (between, None, head, tail) = (between, None, None, head, tail, refl)
  seq-to-par tree w after w_after (between, Some why, head, (told, _, _)) = cc

  module _ (head_reads head_writes : H → List ResourceId) (tail_reads tail_writes : T → List ResourceId)
      (head_within : StaysWithin head_meets head_writes) (tail_within : StaysWithin tail_meets tail_writes)
      (head_sees : SeesWhatItDeclares head_meets head_reads head_writes) (tail_sees : SeesWhatItDeclares tail_meets tail_reads tail_writes)
      (tree : Halves H T) (apart : conflict (head_reads tree.head) (head_writes tree.head) (tail_reads tree.tail) (tail_writes tree.tail) ≡ false)
      (w between last : Holding V) (first later : Option Stop) (head2 : H) (tail2 : T)
      (head : head_meets tree.head w first head2 between) (tail : tail_meets tree.tail between later tail2 last) where
    abbrev pub hr : List ResourceId
    hr = head_reads tree.head

    abbrev pub hw : List ResourceId
    hw = head_writes tree.head

    abbrev pub tr : List ResourceId
    tr = tail_reads tree.tail

    abbrev pub tw : List ResourceId
    tw = tail_writes tree.tail

    head-kept : Within hw w between
    head-kept = head_within tree.head w first head2 between head

    tail-kept : Within tw between last
    tail-kept = tail_within tree.tail between later tail2 last tail

    -- what the tail leaves where it runs first
    abbrev pub turned : Holding V
    turned = carried tw last w

    tail-first : tail_meets tree.tail w later tail2 turned
    tail-first = tail_sees tree.tail between later tail2 last w tail (record {
      read = λ id listed. ap readable (sym (head-kept.others id (read-unwritten hr hw tr tw apart id listed)));
      written = λ id listed. ap takable (sym (head-kept.others id (written-unwritten hr hw tr tw apart id listed)));
    })

    turned-other : (id : ResourceId) → is_listed tw id ≡ false → turned id ≡ w id
    turned-other id e = ap (λ b. if b then merged (last id) (w id) else w id) e

    turned-slot : (id : ResourceId) (l : Bool) → is_listed tw id ≡ l → is_listed hw id ≡ false → turned id ≡ last id
    turned-slot id true e unwritten =
        let P : Slot V → Type 0 = λ slot. IsLeft slot (last id) in
        ap (λ b. if b then merged (last id) (w id) else w id) e ∙ left-merged (w id) (last id) (subst P (head-kept.others id unwritten) (tail-kept.leaves id))
    turned-slot id false e unwritten = turned-other id e ∙ sym (head-kept.others id unwritten) ∙ sym (tail-kept.others id e)

    last-slot : (id : ResourceId) (l : Bool) → is_listed hw id ≡ l → (if l then merged (between id) (turned id) else turned id) ≡ last id
    last-slot id true e =
        let unwritten = writes-unwritten hr hw tr tw apart id e in
        ap (λ slot. merged (between id) slot) (turned-other id unwritten) ∙ left-merged (w id) (between id) (head-kept.leaves id) ∙ sym (tail-kept.others id unwritten)
    last-slot id false e = turned-slot id (is_listed tw id) refl e

    pub head-last : head_meets tree.head turned first head2 last
    head-last =
        let P : Holding V → Type 0 = λ left. head_meets tree.head turned first head2 left in
        subst P (fun_ext (λ id. last-slot id (is_listed hw id) refl))
        (head_sees tree.head w first head2 between turned head (record {
          read = λ id listed. ap readable (turned-other id (reads-unwritten hr hw tr tw apart id listed));
          written = λ id listed. ap takable (turned-other id (writes-unwritten hr hw tr tw apart id listed));
        }))

    pub turned-runs : TurnedRuns head_meets tail_meets tree w (option_or first later) (record { head = head2; tail = tail2 }) last
    turned-runs = (turned, first, later, tail-first, head-last, refl)
