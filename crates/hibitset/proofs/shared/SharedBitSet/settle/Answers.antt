use Rattle.std.proofs.Common.{◌≡◌, ℕ, ◌+◌, ◌/◌, ◌%◌, ◌<◌, ◌==◌, Bool, false, List, get_or, arith, sym, ap, ◌∙◌, eq-eqb, ne_eqb}
use Rattle.std.proofs.lemmas.Bool.{true≢false, false_from_ne_true}
use Rattle.std.specs.Slots.{slots_items}
use Rattle.hibitset_sets.specs.BitSet.{SetWithRoom, has_member}
use Rattle.hibitset_sets.specs.Bits.{has_bit}
use Rattle.hibitset.specs.declared.shared_rule.SeatView.{SeatView}
use Rattle.hibitset.specs.SharedRule.{Settles}
use Rattle.hibitset.proofs.SharedLemmas.{closed-settles, get_elem-get_or, old-has_bit, empty-block, settled-set}
use Rattle.hibitset.proofs.BlockLemmas.{chosen, other, in_blocks-next, in_blocks-before, in_blocks-end}
use Rattle.hibitset.proofs.shared.SharedBitSet.settle.Goals.{then-word-ne0, else-word-ne0}
use Rattle.hibitset.proofs.shared.SharedBitSet.settle.Goals as goal

pub loop-block-preserved : goal.loop-block-preserved
loop-block-preserved c =
    let view : SeatView = c.args.seat.seat.me.0 in
    let words : List ℕ = slots_items c.close_with-closed.result.words in
    let bits : ℕ → ℕ = λ number. get_or words number 0 in
    let old : ℕ → Bool = has_member c.args.self.bits in
    let block : ℕ = c.loop-block.block in
    let counted = c.args.seat.counted in
    let few = c.args.seat.few in
    let test = c.if-seat-lt-ALL_PARTS.false in
    let known : Settles view words = closed-settles c.args.self.table.shared.key words _ c.args.seat.seat.id view c.close_with-closed.ensures.values.2 (omega (arith, counted, few, test)) c.args.seat.idle in
    let old_is : (index : ℕ) → has_member c.args.self.bits index ≡ has_member view.old index = λ index. c.args.self.same index ∙ ap (λ (set : SetWithRoom). has_member set index) (sym c.requires.2) in
    let word : get_or words (262144 + block) 0 ≡ c.word.result = get_elem-get_or words (262144 + block) c.word.result c.word.ensures in
    let within : block < 4096 = c.loop-block-test.true in
    let was = c.loop-block.invariant.members in
    let roomy = c.loop-block.invariant.room in
    elim c.if-word-ne0.branch [
      | then-word-ne0 w ↦
          let put = w.put_block.ensures.members in
          let room = w.put_block.ensures.room in
          let same_room = ap (λ (set : SetWithRoom). set.room) w.bits-is in
          record {
            members = in_blocks-next bits old block (has_member c.loop-block.bits) (has_member c.if-word-ne0.bits) was
                (λ index same. ap (λ (set : SetWithRoom). has_member set index) w.bits-is ∙ (put index ∙ chosen (index / 4096 == block) _ _ (eq-eqb (index / 4096) block same)))
                (λ index differ. ap (λ (set : SetWithRoom). has_member set index) w.bits-is ∙ (put index ∙ other (index / 4096 == block) _ _ (ne_eqb (index / 4096) block differ)));
            room = omega (arith, roomy, room, same_room);
          }
      | else-word-ne0 w ↦
          let zero : c.word.result ≡ 0 = let off = w.if-word-ne0.false in omega arith in
          let same_room = ap (λ (set : SetWithRoom). set.room) w.bits-is in
          record {
            members = in_blocks-next bits old block (has_member c.loop-block.bits) (has_member c.if-word-ne0.bits) was
                (λ index same.
                let low : index < 16777216 = omega (arith, same, within) in
                let empty : has_bit (bits (index / 64)) (index % 64) ≡ false = empty-block view words known block index within (word ∙ zero) same in
                let out : old index ≡ false = false_from_ne_true (old index) (λ is. absurd (true≢false (sym (old-has_bit view words known index low (sym (old_is index) ∙ is)) ∙ empty))) in
                ap (λ (set : SetWithRoom). has_member set index) w.bits-is ∙ (was index ∙ (in_blocks-before bits old block index same ∙ (out ∙ sym empty))))
                (λ index differ. ap (λ (set : SetWithRoom). has_member set index) w.bits-is);
            room = omega (arith, roomy, same_room);
          }
    ]

pub returns-clause-ok : goal.returns-clause-ok
returns-clause-ok c =
    let view : SeatView = c.args.seat.seat.me.0 in
    let words : List ℕ = slots_items c.close_with-closed.result.words in
    let counted = c.args.seat.counted in
    let few = c.args.seat.few in
    let test = c.if-seat-lt-ALL_PARTS.false in
    let known : Settles view words = closed-settles c.args.self.table.shared.key words _ c.args.seat.seat.id view c.close_with-closed.ensures.values.2 (omega (arith, counted, few, test)) c.args.seat.idle in
    let ended = c.loop-block-test.false in
    let stopped = c.loop-block.auto.block-end in
    settled-set view words known c.loop-block.bits (λ index low. c.loop-block.invariant.members index ∙ in_blocks-end (λ number. get_or words number 0) (has_member c.args.self.bits) c.loop-block.block index (omega (arith, ended, stopped)) low)
