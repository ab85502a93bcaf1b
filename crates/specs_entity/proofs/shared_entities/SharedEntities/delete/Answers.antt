use Rattle.std.proofs.Common.{rules, arith, refl, ap, sym, subst, ◌∙◌, ◌≡◌, ◌⊎◌, ℕ, ◌+◌, ◌-◌, ◌*◌, ◌/◌, ◌%◌, ◌<◌, true}
use Rattle.hibitset.specs.Cut.{number_in}
use Rattle.hibitset.specs.AtomicCore.{address, word_count, begun, risen, ended}
use Rattle.specs_entity.specs.Life.{LifeAt}
use Rattle.specs_entity.specs.declared.phase_rule.PhaseKey.{PhaseKey}
use Rattle.specs_entity.specs.declared.phase_rule.EntityView.{EntityView}
use Rattle.specs_entity.specs.declared.shared_entities.EntitySeat.{EntitySeat}
use Rattle.specs_entity.specs.SharedPhase.{SharedPhase}
use Rattle.specs_entity.specs.PhaseViews.{setting_of, with_kill, after_delete, Finds, HasSeen}
use Rattle.specs_entity.specs.PhaseRule.{width}
use Rattle.specs_entity.proofs.PhaseReserveLemmas.{reach-fits}
use Rattle.specs_entity.proofs.PhaseAliveLemmas.{finds-within, finds-lived}
use Rattle.specs_entity.proofs.PhaseTableLemmas.{kill-allowed, bury-allowed, bury_end-allowed}
use Rattle.specs_entity.proofs.shared_entities.SharedEntities.delete.Goals as goal

pub fetch_or-requires : goal.fetch_or-requires
fetch_or-requires c =
    let key : PhaseKey = c.self.inside.table.shared.key in
    let kept = c.self.invariant.kept in
    let entity : LifeAt = c.args.entity in
    let seat : EntitySeat = c.is_alive.new.seat in
    let view : EntityView = seat.seat.me.0 in
    let same : view.key ≡ key = c.is_alive.ensures.seat.key ∙ sym (ap (λ (s : SharedPhase). s.key) c.self.view_is) in
    let id : ℕ = c.entity.inside.id in
    let is_id : id ≡ entity.id = ap (λ (e : LifeAt). e.id) c.entity.view_is in
    let alive : c.is_alive.result ≡ true = search rules in
    let finds : Finds view entity = c.is_alive.ensures.finds alive in
    let low : entity.id < 64 * (setting_of key).sizes.first = finds-within key kept entity view same finds in
    let words = c.self.invariant.words in
    let first = c.self.invariant.first in
    let second = c.self.invariant.second in
    let third = c.self.invariant.third in
    let width_is : width view ≡ word_count (setting_of key).sizes = ap (λ (k : PhaseKey). word_count (setting_of k).sizes) same in
    let some_part : 0 < view.parts = c.is_alive.ensures.seat.parts in
    let idle : view.kill.stage ≡ 0 = seat.killed in
    let index : ℕ = (2 + c.self.inside.first + c.self.inside.second + c.self.inside.third + id / 64 - 1 - width view) * 64 + id % 64 in
    let there : index ≡ id = omega (arith, width_is, first, second, third) in (
      search rules,
      omega (arith, words, low, is_id, first, second, third),
      kill-allowed key (reach-fits key kept) c.self.invariant.can _ _ seat.seat.me (id / 64) _ id _ (omega arith) some_part (omega arith) (omega (arith, first, second, third)) (omega (arith, low, is_id)) idle (omega (arith, low, is_id))
          (subst (λ i. ((setting_of key).lives i ≡ true) ⊎ HasSeen view i) (sym is_id) (finds-lived key kept entity view same finds)),
    )

pub fetch_or-requires-2 : goal.fetch_or-requires-2
fetch_or-requires-2 c =
    let key : PhaseKey = c.self.inside.table.shared.key in
    let kept = c.self.invariant.kept in
    let entity : LifeAt = c.args.entity in
    let seat : EntitySeat = c.is_alive.new.seat in
    let view : EntityView = seat.seat.me.0 in
    let same : view.key ≡ key = c.is_alive.ensures.seat.key ∙ sym (ap (λ (s : SharedPhase). s.key) c.self.view_is) in
    let id : ℕ = c.entity.inside.id in
    let is_id : id ≡ entity.id = ap (λ (e : LifeAt). e.id) c.entity.view_is in
    let alive : c.is_alive.result ≡ true = search rules in
    let finds : Finds view entity = c.is_alive.ensures.finds alive in
    let low : entity.id < 64 * (setting_of key).sizes.first = finds-within key kept entity view same finds in
    let words = c.self.invariant.words in
    let first = c.self.invariant.first in
    let second = c.self.invariant.second in
    let third = c.self.invariant.third in
    let width_is : width view ≡ word_count (setting_of key).sizes = ap (λ (k : PhaseKey). word_count (setting_of k).sizes) same in
    let some_part : 0 < view.parts = c.is_alive.ensures.seat.parts in
    let idle : view.kill.stage ≡ 0 = seat.killed in
    let index : ℕ = (2 + c.self.inside.first + c.self.inside.second + c.self.inside.third + id / 64 - 1 - width view) * 64 + id % 64 in
    let there : index ≡ id = omega (arith, width_is, first, second, third) in
    let mine = c.fetch_or.new.seat.me in
    let start : EntityView = with_kill view (begun view.kill index c.fetch_or.result) in
    let now : mine.0 ≡ start = c.fetch_or.ensures.2.1 (id % 64) (omega arith) refl in
    let parts : mine.0.parts ≡ view.parts = ap (λ (v : EntityView). v.parts) now in
    let at : mine.0.kill.index ≡ id = ap (λ (v : EntityView). v.kill.index) now ∙ there in (
      search rules,
      omega (arith, words, low, is_id, first, second, third),
      bury-allowed key (reach-fits key kept) c.self.invariant.can _ _ mine ((setting_of key).sizes.first + id / 64 / 64) _ (address (setting_of key).sizes 1 (number_in 1 mine.0.kill.index)) _ (omega arith) (omega (arith, parts, some_part)) (omega (arith, at)) (omega (arith, first, second, third)) (omega (arith, low, is_id, at)) 0
          (ap (λ (v : EntityView). v.kill.stage) now) (omega arith) refl,
    )

pub fetch_or-requires-3 : goal.fetch_or-requires-3
fetch_or-requires-3 c =
    let key : PhaseKey = c.self.inside.table.shared.key in
    let kept = c.self.invariant.kept in
    let entity : LifeAt = c.args.entity in
    let seat : EntitySeat = c.is_alive.new.seat in
    let view : EntityView = seat.seat.me.0 in
    let same : view.key ≡ key = c.is_alive.ensures.seat.key ∙ sym (ap (λ (s : SharedPhase). s.key) c.self.view_is) in
    let id : ℕ = c.entity.inside.id in
    let is_id : id ≡ entity.id = ap (λ (e : LifeAt). e.id) c.entity.view_is in
    let alive : c.is_alive.result ≡ true = search rules in
    let finds : Finds view entity = c.is_alive.ensures.finds alive in
    let low : entity.id < 64 * (setting_of key).sizes.first = finds-within key kept entity view same finds in
    let words = c.self.invariant.words in
    let first = c.self.invariant.first in
    let second = c.self.invariant.second in
    let third = c.self.invariant.third in
    let width_is : width view ≡ word_count (setting_of key).sizes = ap (λ (k : PhaseKey). word_count (setting_of k).sizes) same in
    let some_part : 0 < view.parts = c.is_alive.ensures.seat.parts in
    let idle : view.kill.stage ≡ 0 = seat.killed in
    let index : ℕ = (2 + c.self.inside.first + c.self.inside.second + c.self.inside.third + id / 64 - 1 - width view) * 64 + id % 64 in
    let there : index ≡ id = omega (arith, width_is, first, second, third) in
    let mine = c.fetch_or-2.new.seat.me in
    let start : EntityView = with_kill view (begun view.kill index c.fetch_or.result) in
    let now : mine.0 ≡ with_kill start (risen start.kill) = c.fetch_or-2.ensures.2.1 ∙ ap (λ (v : EntityView). with_kill v (risen v.kill)) (c.fetch_or.ensures.2.1 (id % 64) (omega arith) refl) in
    let parts : mine.0.parts ≡ view.parts = ap (λ (v : EntityView). v.parts) now in
    let at : mine.0.kill.index ≡ id = ap (λ (v : EntityView). v.kill.index) now ∙ there in (
      search rules,
      omega (arith, words, low, is_id, first, second, third),
      bury-allowed key (reach-fits key kept) c.self.invariant.can _ _ mine ((setting_of key).sizes.first + (setting_of key).sizes.second + id / 64 / 64 / 64) _ (address (setting_of key).sizes 2 (number_in 2 mine.0.kill.index)) _ (omega arith) (omega (arith, parts, some_part)) (omega (arith, at)) (omega (arith, first, second, third)) (omega (arith, low, is_id, at)) 1
          (ap (λ (v : EntityView). v.kill.stage) now) (omega arith) refl,
    )

pub fetch_or-requires-4 : goal.fetch_or-requires-4
fetch_or-requires-4 c =
    let key : PhaseKey = c.self.inside.table.shared.key in
    let kept = c.self.invariant.kept in
    let entity : LifeAt = c.args.entity in
    let seat : EntitySeat = c.is_alive.new.seat in
    let view : EntityView = seat.seat.me.0 in
    let same : view.key ≡ key = c.is_alive.ensures.seat.key ∙ sym (ap (λ (s : SharedPhase). s.key) c.self.view_is) in
    let id : ℕ = c.entity.inside.id in
    let is_id : id ≡ entity.id = ap (λ (e : LifeAt). e.id) c.entity.view_is in
    let alive : c.is_alive.result ≡ true = search rules in
    let finds : Finds view entity = c.is_alive.ensures.finds alive in
    let low : entity.id < 64 * (setting_of key).sizes.first = finds-within key kept entity view same finds in
    let words = c.self.invariant.words in
    let first = c.self.invariant.first in
    let second = c.self.invariant.second in
    let third = c.self.invariant.third in
    let width_is : width view ≡ word_count (setting_of key).sizes = ap (λ (k : PhaseKey). word_count (setting_of k).sizes) same in
    let some_part : 0 < view.parts = c.is_alive.ensures.seat.parts in
    let idle : view.kill.stage ≡ 0 = seat.killed in
    let index : ℕ = (2 + c.self.inside.first + c.self.inside.second + c.self.inside.third + id / 64 - 1 - width view) * 64 + id % 64 in
    let there : index ≡ id = omega (arith, width_is, first, second, third) in
    let mine = c.fetch_or-3.new.seat.me in
    let start : EntityView = with_kill view (begun view.kill index c.fetch_or.result) in
    let now : mine.0 ≡ with_kill start (risen (risen start.kill)) = c.fetch_or-3.ensures.2.1 ∙ ap (λ (v : EntityView). with_kill v (risen v.kill)) (c.fetch_or-2.ensures.2.1 ∙ ap (λ (v : EntityView). with_kill v (risen v.kill)) (c.fetch_or.ensures.2.1 (id % 64) (omega arith) refl)) in
    let parts : mine.0.parts ≡ view.parts = ap (λ (v : EntityView). v.parts) now in
    let at : mine.0.kill.index ≡ id = ap (λ (v : EntityView). v.kill.index) now ∙ there in (
      search rules,
      omega (arith, words, low, is_id, first, second, third),
      bury_end-allowed key (reach-fits key kept) c.self.invariant.can _ _ mine ((setting_of key).sizes.first + (setting_of key).sizes.second + (setting_of key).sizes.third) _ (address (setting_of key).sizes 3 (number_in 3 mine.0.kill.index)) _ (omega arith) (omega (arith, parts, some_part)) (omega (arith, at, low, is_id)) (omega (arith, first, second, third)) (omega (arith, low, is_id, at))
          (ap (λ (v : EntityView). v.kill.stage) now) refl,
    )

pub returns-clause-ok : goal.returns-clause-ok
returns-clause-ok c =
    let key : PhaseKey = c.self.inside.table.shared.key in
    let kept = c.self.invariant.kept in
    let entity : LifeAt = c.args.entity in
    let seat : EntitySeat = c.is_alive.new.seat in
    let view : EntityView = seat.seat.me.0 in
    let same : view.key ≡ key = c.is_alive.ensures.seat.key ∙ sym (ap (λ (s : SharedPhase). s.key) c.self.view_is) in
    let id : ℕ = c.entity.inside.id in
    let is_id : id ≡ entity.id = ap (λ (e : LifeAt). e.id) c.entity.view_is in
    let alive : c.is_alive.result ≡ true = search rules in
    let finds : Finds view entity = c.is_alive.ensures.finds alive in
    let low : entity.id < 64 * (setting_of key).sizes.first = finds-within key kept entity view same finds in
    let words = c.self.invariant.words in
    let first = c.self.invariant.first in
    let second = c.self.invariant.second in
    let third = c.self.invariant.third in
    let width_is : width view ≡ word_count (setting_of key).sizes = ap (λ (k : PhaseKey). word_count (setting_of k).sizes) same in
    let some_part : 0 < view.parts = c.is_alive.ensures.seat.parts in
    let idle : view.kill.stage ≡ 0 = seat.killed in
    let index : ℕ = (2 + c.self.inside.first + c.self.inside.second + c.self.inside.third + id / 64 - 1 - width view) * 64 + id % 64 in
    let there : index ≡ id = omega (arith, width_is, first, second, third) in
    let now : c.fetch_or-4.new.seat.me.0 ≡ after_delete view entity.id c.fetch_or.result = c.fetch_or-4.ensures.2.1 ∙ ap (λ (v : EntityView). with_kill v (ended v.kill)) (c.fetch_or-3.ensures.2.1 ∙ ap (λ (v : EntityView). with_kill v (risen v.kill)) (c.fetch_or-2.ensures.2.1 ∙ ap (λ (v : EntityView). with_kill v (risen v.kill)) (c.fetch_or.ensures.2.1 (id % 64) (omega arith) refl))) ∙ ap (λ i. after_delete view i c.fetch_or.result) (there ∙ is_id) in
    record { between = view; word = c.fetch_or.result; looks = c.is_alive.ensures.looks; view = now }

pub returns-clause-finds : goal.returns-clause-finds
returns-clause-finds c =
    let key : PhaseKey = c.self.inside.table.shared.key in
    let kept = c.self.invariant.kept in
    let entity : LifeAt = c.args.entity in
    let seat : EntitySeat = c.is_alive.new.seat in
    let view : EntityView = seat.seat.me.0 in
    let same : view.key ≡ key = c.is_alive.ensures.seat.key ∙ sym (ap (λ (s : SharedPhase). s.key) c.self.view_is) in
    let id : ℕ = c.entity.inside.id in
    let is_id : id ≡ entity.id = ap (λ (e : LifeAt). e.id) c.entity.view_is in
    let alive : c.is_alive.result ≡ true = search rules in
    let finds : Finds view entity = c.is_alive.ensures.finds alive in
    let low : entity.id < 64 * (setting_of key).sizes.first = finds-within key kept entity view same finds in
    let words = c.self.invariant.words in
    let first = c.self.invariant.first in
    let second = c.self.invariant.second in
    let third = c.self.invariant.third in
    let width_is : width view ≡ word_count (setting_of key).sizes = ap (λ (k : PhaseKey). word_count (setting_of k).sizes) same in
    let some_part : 0 < view.parts = c.is_alive.ensures.seat.parts in
    let idle : view.kill.stage ≡ 0 = seat.killed in
    let index : ℕ = (2 + c.self.inside.first + c.self.inside.second + c.self.inside.third + id / 64 - 1 - width view) * 64 + id % 64 in
    let there : index ≡ id = omega (arith, width_is, first, second, third) in
    let now : c.fetch_or-4.new.seat.me.0 ≡ after_delete view entity.id c.fetch_or.result = c.fetch_or-4.ensures.2.1 ∙ ap (λ (v : EntityView). with_kill v (ended v.kill)) (c.fetch_or-3.ensures.2.1 ∙ ap (λ (v : EntityView). with_kill v (risen v.kill)) (c.fetch_or-2.ensures.2.1 ∙ ap (λ (v : EntityView). with_kill v (risen v.kill)) (c.fetch_or.ensures.2.1 (id % 64) (omega arith) refl))) ∙ ap (λ i. after_delete view i c.fetch_or.result) (there ∙ is_id) in
    subst (λ (v : EntityView). Finds v entity) (sym now) finds
