use Rattle.std.proofs.Common.{arith, ◌≡◌, ◌⊎◌, ℕ, ◌+◌, ◌*◌, ◌/◌, ◌%◌, ◌<◌, ◌==◌, ◌&&◌, ◌||◌, nat_lt, eqb, true, List, map, length, get_or, refl, inl, inr, ⊎_elim, sym, ap, subst, ◌∙◌}
use Rattle.std.specs.Slots.{slots_items}
use Rattle.std.specs.FinSet as set
use Rattle.hibitset_sets.specs.Bits.{has_bit}
use Rattle.hibitset.specs.AtomicCore.{word_count}
use Rattle.hibitset.proofs.RowLemmas.{has_bit-bit_at}
use Rattle.hibitset.proofs.SharedLemmas.{get_elem-get_or}
use Rattle.specs_entity.specs.Births.{Births, CanCreate, all_created, newborns, living}
use Rattle.specs_entity.specs.Layout.{AreMade}
use Rattle.specs_entity.specs.Accepting.{IsSameBut}
use Rattle.specs_entity.specs.declared.phase_rule.PhaseKey.{PhaseKey}
use Rattle.specs_entity.specs.declared.phase_rule.EntityView.{EntityView}
use Rattle.specs_entity.specs.SharedPhase.{SharedPhase}
use Rattle.specs_entity.specs.PhaseCore.{called, once_below, IsReserved}
use Rattle.specs_entity.specs.PhaseViews.{setting_of, all_accepted}
use Rattle.specs_entity.specs.SharedSeats.{AreSettled}
use Rattle.specs_entity.proofs.PhaseReserveLemmas.{newborns-length}
use Rattle.specs_entity.proofs.PhaseAliveLemmas.{known-given}
use Rattle.specs_entity.proofs.PhaseCloseLemmas.{IsClosed, closed-is, deletions-created}
use Rattle.specs_entity.proofs.AcceptLemmas.{accepted-whole, living-same, same-but-through, word-next, no-bits, all-words, accepted-list, births-equal}
use Rattle.specs_entity.proofs.shared_entities.SharedEntities.settle.Goals.{then-word-ne0, else-word-ne0}
use Rattle.specs_entity.proofs.shared_entities.SharedEntities.settle.Goals as goal

pub keep_births-requires-clause-few : goal.keep_births-requires-clause-few
keep_births-requires-clause-few c =
    let key : PhaseKey = c.self.inside.table.shared.key in
    let before : Births = key.before in
    let view : EntityView = c.args.seat.seat.me.0 in
    let words : List ℕ = slots_items c.close_with-closed.result.words in
    let counted = c.args.seat.counted in
    let few = c.args.seat.few in
    let test = c.if-seat-lt-ALL_PARTS.false in
    let known : IsClosed key view words = closed-is key c.self.invariant.kept c.self.invariant.can words _ c.args.seat.seat.id view c.close_with-closed.ensures.values.2 (omega (arith, counted, few, test)) c.args.seat.killed in
    let claimed : get_or words 0 0 ≡ c.word-claimed.result = get_elem-get_or words 0 c.word-claimed.result c.word-claimed.ensures in
    let long : length c.self.inside.reserve.items ≡ key.reserve = ap length c.self.invariant.reserve ∙ newborns-length key.reserve before in
    let most = known.most in
    omega (arith, claimed, long, most)

pub keep_births-requires-clause-some : goal.keep_births-requires-clause-some
keep_births-requires-clause-some c =
    let key : PhaseKey = c.self.inside.table.shared.key in
    let before : Births = key.before in
    let view : EntityView = c.args.seat.seat.me.0 in
    let words : List ℕ = slots_items c.close_with-closed.result.words in
    let counted = c.args.seat.counted in
    let few = c.args.seat.few in
    let test = c.if-seat-lt-ALL_PARTS.false in
    let known : IsClosed key view words = closed-is key c.self.invariant.kept c.self.invariant.can words _ c.args.seat.seat.id view c.close_with-closed.ensures.values.2 (omega (arith, counted, few, test)) c.args.seat.killed in
    let claimed : get_or words 0 0 ≡ c.word-claimed.result = get_elem-get_or words 0 c.word-claimed.result c.word-claimed.ensures in
    let long : length c.self.inside.reserve.items ≡ key.reserve = ap length c.self.invariant.reserve ∙ newborns-length key.reserve before in
    let made : AreMade before c.self.inside.reserve.items c.self.inside.entities = record {
      kept = c.self.invariant.kept;
      can = subst (λ n. CanCreate n before) (sym long) c.self.invariant.can;
      run = c.self.invariant.entities ∙ ap (λ n. all_created n before) (sym long);
      made = c.self.invariant.reserve ∙ ap (λ n. newborns n before) (sym long);
    } in
    (before, made)

pub accept_word-requires-clause-alive : goal.accept_word-requires-clause-alive
accept_word-requires-clause-alive c = λ bit low on none_there.
    let key : PhaseKey = c.self.inside.table.shared.key in
    let before : Births = key.before in
    let view : EntityView = c.args.seat.seat.me.0 in
    let words : List ℕ = slots_items c.close_with-closed.result.words in
    let counted = c.args.seat.counted in
    let few = c.args.seat.few in
    let test = c.if-seat-lt-ALL_PARTS.false in
    let known : IsClosed key view words = closed-is key c.self.invariant.kept c.self.invariant.can words _ c.args.seat.seat.id view c.close_with-closed.ensures.values.2 (omega (arith, counted, few, test)) c.args.seat.killed in
    let claimed : get_or words 0 0 ≡ c.word-claimed.result = get_elem-get_or words 0 c.word-claimed.result c.word-claimed.ensures in
    let long : length c.self.inside.reserve.items ≡ key.reserve = ap length c.self.invariant.reserve ∙ newborns-length key.reserve before in
    let made : AreMade before c.self.inside.reserve.items c.self.inside.entities = record {
      kept = c.self.invariant.kept;
      can = subst (λ n. CanCreate n before) (sym long) c.self.invariant.can;
      run = c.self.invariant.entities ∙ ap (λ n. all_created n before) (sym long);
      made = c.self.invariant.reserve ∙ ap (λ n. newborns n before) (sym long);
    } in
    let opened : c.keep_births.new.self ≡ all_created c.word-claimed.result before = c.keep_births.ensures before made in
    let first = c.self.invariant.first in
    let second = c.self.invariant.second in
    let third = c.self.invariant.third in
    let start : ℕ = 2 + c.self.inside.first + c.self.inside.second + c.self.inside.third in
    let starts : start ≡ 1 + word_count (setting_of key).sizes = omega (arith, first, second, third) in
    let place : ℕ = c.loop-place.place in
    let index : ℕ = place * 64 + bit in
    let within : index < 64 * (setting_of key).sizes.first = let inside = c.loop-place-test.true in omega (arith, inside, first, low) in
    let word : get_or words (start + place) 0 ≡ c.word-word.result = get_elem-get_or words (start + place) c.word-word.result c.word-word.ensures in
    let at : 1 + word_count (setting_of key).sizes + index / 64 ≡ start + place = omega (arith, starts, low) in
    let rest : index % 64 ≡ bit = omega (arith, low) in
    let set_bit : has_bit (get_or words (1 + word_count (setting_of key).sizes + index / 64) 0) (index % 64) ≡ true =
    (λ j. has_bit ((ap (λ n. get_or words n 0) at ∙ word) j) (rest j)) ∙ (has_bit-bit_at c.word-word.result bit ∙ ap (λ value. eqb value 1) on) in
    known.lives index within set_bit (ap (λ n. living (all_created n before) index) claimed ∙ (ap (λ b. living b index) (sym opened) ∙ (sym (living-same c.keep_births.new.self c.loop-place.entities c.loop-place.invariant.same index) ∙ none_there)))

pub loop-place-preserved : goal.loop-place-preserved
loop-place-preserved c =
    let key : PhaseKey = c.self.inside.table.shared.key in
    let before : Births = key.before in
    let view : EntityView = c.args.seat.seat.me.0 in
    let words : List ℕ = slots_items c.close_with-closed.result.words in
    let counted = c.args.seat.counted in
    let few = c.args.seat.few in
    let test = c.if-seat-lt-ALL_PARTS.false in
    let known : IsClosed key view words = closed-is key c.self.invariant.kept c.self.invariant.can words _ c.args.seat.seat.id view c.close_with-closed.ensures.values.2 (omega (arith, counted, few, test)) c.args.seat.killed in
    let claimed : get_or words 0 0 ≡ c.word-claimed.result = get_elem-get_or words 0 c.word-claimed.result c.word-claimed.ensures in
    let long : length c.self.inside.reserve.items ≡ key.reserve = ap length c.self.invariant.reserve ∙ newborns-length key.reserve before in
    let start : ℕ = 2 + c.self.inside.first + c.self.inside.second + c.self.inside.third in
    let place : ℕ = c.loop-place.place in
    let bits : ℕ → ℕ = λ number. get_or words (start + number) 0 in
    let word : bits place ≡ c.word-word.result = get_elem-get_or words (start + place) c.word-word.result c.word-word.ensures in
    let was = c.loop-place.invariant.deletions in
    let old : Births = c.keep_births.new.self in
    elim c.if-word-ne0.branch [
      | then-word-ne0 w ↦
          let put = w.accept_word.ensures.deletions in
          record {
            same = same-but-through old c.loop-place.entities c.if-word-ne0.entities c.loop-place.invariant.same (subst (IsSameBut c.loop-place.entities) (sym w.entities-is) w.accept_word.ensures.same);
            deletions = λ index. ap (λ (b : Births). set.contains b.deletions index) w.entities-is ∙ (put index ∙ (accepted-whole c.word-word.result place c.loop-place.entities index
                ∙ (ap (λ t. ((index / 64 == place) && has_bit c.word-word.result (index % 64)) || t) (was index) ∙ word-next bits place c.word-word.result (set.contains old.deletions index) index word)));
          }
      | else-word-ne0 w ↦
          let zero : c.word-word.result ≡ 0 = let off = w.if-word-ne0.false in omega arith in
          record {
            same = same-but-through old c.loop-place.entities c.if-word-ne0.entities c.loop-place.invariant.same (subst (IsSameBut c.loop-place.entities) (sym w.entities-is) record { persistent = refl; fresh = refl; cache = refl; indices = refl; generations = refl });
            deletions = λ index. ap (λ (b : Births). set.contains b.deletions index) w.entities-is ∙ (was index ∙ (no-bits c.word-word.result place index _ zero ∙ word-next bits place c.word-word.result (set.contains old.deletions index) index word));
          }
    ]

pub returns-clause-ok : goal.returns-clause-ok
returns-clause-ok c =
    let key : PhaseKey = c.self.inside.table.shared.key in
    let before : Births = key.before in
    let view : EntityView = c.args.seat.seat.me.0 in
    let words : List ℕ = slots_items c.close_with-closed.result.words in
    let counted = c.args.seat.counted in
    let few = c.args.seat.few in
    let test = c.if-seat-lt-ALL_PARTS.false in
    let known : IsClosed key view words = closed-is key c.self.invariant.kept c.self.invariant.can words _ c.args.seat.seat.id view c.close_with-closed.ensures.values.2 (omega (arith, counted, few, test)) c.args.seat.killed in
    let claimed : get_or words 0 0 ≡ c.word-claimed.result = get_elem-get_or words 0 c.word-claimed.result c.word-claimed.ensures in
    let long : length c.self.inside.reserve.items ≡ key.reserve = ap length c.self.invariant.reserve ∙ newborns-length key.reserve before in
    let made : AreMade before c.self.inside.reserve.items c.self.inside.entities = record {
      kept = c.self.invariant.kept;
      can = subst (λ n. CanCreate n before) (sym long) c.self.invariant.can;
      run = c.self.invariant.entities ∙ ap (λ n. all_created n before) (sym long);
      made = c.self.invariant.reserve ∙ ap (λ n. newborns n before) (sym long);
    } in
    let opened : c.keep_births.new.self ≡ all_created c.word-claimed.result before = c.keep_births.ensures before made in
    let first = c.self.invariant.first in
    let second = c.self.invariant.second in
    let third = c.self.invariant.third in
    let start : ℕ = 2 + c.self.inside.first + c.self.inside.second + c.self.inside.third in
    let starts : start ≡ 1 + word_count (setting_of key).sizes = omega (arith, first, second, third) in
    let now : Births = c.loop-place.entities in
    let calls : List ℕ = map called view.kill.calls in
    let opening : Births = all_created c.word-claimed.result before in
    let same : IsSameBut opening now = subst (λ b. IsSameBut b now) opened c.loop-place.invariant.same in
    let listed = accepted-list opening calls in
    let ended = c.loop-place-test.false in
    let stopped = c.loop-place.auto.place-end in
    let end : c.loop-place.place ≡ (setting_of key).sizes.first = omega (arith, ended, stopped, first) in
    let bits : ℕ → ℕ = λ number. get_or words (start + number) 0 in
    let at : (number : ℕ) → start + number ≡ 1 + word_count (setting_of key).sizes + number = λ number. omega (arith, starts) in
    let old : (index : ℕ) → set.contains opening.deletions index ≡ set.contains before.deletions index = λ index. ap (λ members. set.contains members index) (deletions-created c.word-claimed.result before) in
    let words_are = all-words (setting_of key).sizes.first bits calls (λ index. set.contains opening.deletions index)
    (λ index within on. ⊎_elim inl (λ was. inr (old index ∙ was)) (known.killed index within (ap (λ n. has_bit (get_or words n 0) (index % 64)) (sym (at (index / 64))) ∙ on)))
    (λ index is. let there = known.deleted index is in (there.0, ap (λ n. has_bit (get_or words n 0) (index % 64)) (at (index / 64)) ∙ there.1)) in
    let result : AreSettled key view now = record {
      claimed = c.word-claimed.result;
      most = let most = known.most in omega (arith, claimed, most);
      births = λ place. known.births place ∙ ap (once_below place) claimed;
      known = λ entity knows. known-given key c.self.invariant.kept entity view (c.requires.key ∙ ap (λ (s : SharedPhase). s.key) (sym c.self.view_is)) c.self.invariant.can c.word-claimed.result (let most = known.most in omega (arith, claimed, most))
          (λ index within seen. subst (λ n. (set.contains before.fresh index ≡ true) ⊎ IsReserved (setting_of key) n index) claimed (known.raised index within seen)) knows;
      entities = births-equal opening now (all_accepted opening calls) same listed.0
          (λ index. c.loop-place.invariant.deletions index ∙ (ap (λ (b : Births). (nat_lt (index / 64) c.loop-place.place && has_bit (bits (index / 64)) (index % 64)) || set.contains b.deletions index) opened
          ∙ (ap (λ n. (nat_lt (index / 64) n && has_bit (bits (index / 64)) (index % 64)) || set.contains opening.deletions index) end ∙ (words_are index ∙ sym (listed.1 index)))));
    } in
    subst (λ (s : SharedPhase). AreSettled s.key view now) c.self.view_is result
