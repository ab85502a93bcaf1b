use Rattle.std.proofs.Common.{◌≡◌, ◌≢◌, ℕ, ◌+◌, ◌*◌, ◌<◌, ◌==◌, ◌||◌, eqb, None, refl, sym, ap, ◌∙◌, subst, arith, ne_eqb}
use Rattle.std.proofs.lemmas.Nat.Bits.{shr_and_one}
use Rattle.std.specs.Int.{bit_at}
use Rattle.std.specs.FinSet as set
use Rattle.hibitset_sets.proofs.CallerLemmas.{contains-with}
use Rattle.hibitset.proofs.RowLemmas.{has_bit-bit_at}
use Rattle.specs_entity.specs.Life.{LifeAt}
use Rattle.specs_entity.specs.Births.{Births, IsAlive, living, entity_at, deleted}
use Rattle.specs_entity.specs.Accepting.{IsSameBut}
use Rattle.specs_entity.proofs.BirthLemmas.{on-ok}
use Rattle.specs_entity.proofs.AcceptLemmas.{accepted-adds, accepted-skips, alive-entity, living-same}
use Rattle.specs_entity.proofs.entities_res.EntitiesRes.accept_word.Goals.{then-word-bit-eq1, else-word-bit-eq1}
use Rattle.specs_entity.proofs.entities_res.EntitiesRes.accept_word.Goals as goal

pub loop-bit-preserved : goal.loop-bit-preserved
loop-bit-preserved c =
    let old : Births = c.args.self.now in
    let now : Births = c.loop-bit.self in
    let bit : ℕ = c.loop-bit.bit in
    let word : ℕ = c.args.word in
    let place : ℕ = c.args.place in
    let id : ℕ = place * 64 + bit in
    let was = c.loop-bit.invariant.deletions in
    let same = c.loop-bit.invariant.same in
    let low : bit < 64 = c.loop-bit-test.true in
    let shown = shr_and_one word bit in
    elim c.if-word-bit-eq1.branch [
      | then-word-bit-eq1 w ↦
          let test = w.if-word-bit-eq1.true in
          let on : bit_at word bit ≡ 1 = omega (arith, shown, test) in
          let entity : LifeAt = w.entity-entity.result in
          let is : entity ≡ entity_at now id = w.entity-entity.ensures in
          let lives : living now id ≡ None → ⊥ = λ none_there. c.requires.alive bit low on (sym (living-same old now same id) ∙ none_there) in
          let alive : IsAlive now entity = subst (IsAlive now) (sym is) (alive-entity now id lives) in
          let done : w.delete.new.self ≡ deleted now entity.id = on-ok w.delete.result w.delete.ensures.ok (w.delete.ensures.succeeds.1 alive) in
          let after : c.if-word-bit-eq1.self ≡ deleted now id = w.self-is ∙ (done ∙ ap (λ (e : LifeAt). deleted now e.id) is) in
          record {
            same = subst (IsSameBut old) (sym after) record { persistent = same.persistent; fresh = same.fresh; cache = same.cache; indices = same.indices; generations = same.generations };
            deletions = λ index. ap (λ (b : Births). set.contains b.deletions index) after ∙ (contains-with now.deletions id index ∙ (ap (λ t. (index == id) || t) (was index) ∙ accepted-adds word place bit id old low (has_bit-bit_at word bit ∙ ap (λ b. eqb b 1) on) refl index));
          }
      | else-word-bit-eq1 w ↦
          let test = w.if-word-bit-eq1.false in
          let off : bit_at word bit ≢ 1 = (λ e. test (shown ∙ e)) in
          record {
            same = subst (IsSameBut old) (sym w.self-is) same;
            deletions = λ index. ap (λ (b : Births). set.contains b.deletions index) w.self-is ∙ (was index ∙ accepted-skips word place bit old (has_bit-bit_at word bit ∙ ne_eqb (bit_at word bit) 1 off) index);
          }
    ]
