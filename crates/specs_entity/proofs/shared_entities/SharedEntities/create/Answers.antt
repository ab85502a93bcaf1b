use Rattle.std.proofs.Common.{rules, arith, refl, ap, sym, subst, ◌∙◌, ◌≡◌, ℕ, ◌+◌, ◌-◌, ◌*◌, ◌/◌, ◌%◌, ◌<◌, ◌==◌, [], ◌∷◌, ◌++◌, map, inl, inr}
use Rattle.std.proofs.lemmas.List.Elements.{Contains-push}
use Rattle.std.specs.Int.{bit_at}
use mathlib.Core.List.{map-append}
use Rattle.hibitset.specs.Cut.{number_in}
use Rattle.hibitset.specs.AtomicCore.{address, risen, ended}
use Rattle.specs_entity.specs.Life.{LifeAt}
use Rattle.specs_entity.specs.declared.phase_rule.PhaseKey.{PhaseKey}
use Rattle.specs_entity.specs.declared.phase_rule.EntityView.{EntityView}
use Rattle.specs_entity.specs.SharedPhase.{SharedPhase}
use Rattle.specs_entity.specs.PhaseCore.{index_at}
use Rattle.specs_entity.specs.PhaseViews.{reach_of, setting_of, reserved, claiming, begin_raise, with_raise, after_create, IsNext, Knows}
use Rattle.specs_entity.proofs.BirthLemmas.{nil-length}
use Rattle.specs_entity.proofs.PhaseReserveLemmas.{reach-fits, reserve-length, index-reserved}
use Rattle.specs_entity.proofs.PhaseTableLemmas.{claim-allowed, raise-allowed, raise_on-allowed, raise_end-allowed}
use Rattle.specs_entity.proofs.shared_entities.SharedEntities.create.Goals as goal

pub fetch_add-place-requires : goal.fetch_add-place-requires
fetch_add-place-requires c =
    let key : PhaseKey = c.self.inside.table.shared.key in
    let kept = c.self.invariant.kept in (
      search rules,
      (let words = c.self.invariant.words in omega (arith, words)),
      claim-allowed key (reach-fits key kept) c.self.invariant.can _ _ _ (search rules) (search rules) (nil-length _ (search rules)) (search rules) (reserve-length key kept) c.self.invariant.few,
    )

-- the index of a claim is within the layers, and is that at its place
pub fetch_or-requires : goal.fetch_or-requires
fetch_or-requires c =
    let key : PhaseKey = c.self.inside.table.shared.key in
    let kept = c.self.invariant.kept in
    let phase : key ≡ c.args.self.now.key = ap (λ (s : SharedPhase). s.key) c.self.view_is in
    let view : EntityView = c.args.seat.now.seat.me.0 in
    let mine = c.fetch_add-place.new.seat.me in
    let place : ℕ = c.fetch_add-place.result in
    let id : ℕ = c.entity.inside.id in
    let now : mine.0 ≡ claiming view place = c.fetch_add-place.ensures.2.1 in
    let parts : mine.0.parts ≡ view.parts = ap (λ (v : EntityView). v.parts) now in
    let some_part : 0 < view.parts = search rules in
    let idle : view.raise.stage ≡ 0 = search rules in
    let is_id : id ≡ c.reserved-entity.result.id = ap (λ (e : LifeAt). e.id) c.entity.view_is in
    let index : index_at (setting_of key) place ≡ id = index-reserved key kept place ∙ (ap (λ (k : PhaseKey). (reserved k place).id) phase ∙ (ap (λ (e : LifeAt). e.id) (sym c.reserved-entity.ensures.value) ∙ sym is_id)) in
    let small : id < reach_of key = subst (λ (k : PhaseKey). id < reach_of k) (sym phase) (subst (λ n. n < reach_of c.args.self.now.key) (sym is_id) c.reserved-entity.ensures.within) in
    let words = c.self.invariant.words in (
      search rules,
      omega (arith, words, small),
      raise-allowed key (reach-fits key kept) c.self.invariant.can _ _ mine (id / 64) _ id _ (omega arith) (omega (arith, parts, some_part)) (omega arith) (omega arith) (omega (arith, small)) place
          (ap (λ (v : EntityView). v.raise.stage) now ∙ idle) (ap (λ (v : EntityView). v.claimer.pending) now) index,
    )

pub fetch_or-requires-2 : goal.fetch_or-requires-2
fetch_or-requires-2 c =
    let key : PhaseKey = c.self.inside.table.shared.key in
    let kept = c.self.invariant.kept in
    let phase : key ≡ c.args.self.now.key = ap (λ (s : SharedPhase). s.key) c.self.view_is in
    let view : EntityView = c.args.seat.now.seat.me.0 in
    let mine = c.fetch_or.new.seat.me in
    let place : ℕ = c.fetch_add-place.result in
    let id : ℕ = c.entity.inside.id in
    let found : ℕ = c.fetch_or.result in
    let now : mine.0 ≡ begin_raise (claiming view place) ((1 + id / 64 - 1) * 64 + id % 64) found =
    c.fetch_or.ensures.2.1 (id % 64) (omega arith) refl ∙ ap (λ (v : EntityView). begin_raise v ((1 + id / 64 - 1) * 64 + id % 64) found) c.fetch_add-place.ensures.2.1 in
    let parts : mine.0.parts ≡ view.parts = ap (λ (v : EntityView). v.parts) now in
    let some_part : 0 < view.parts = search rules in
    let at : mine.0.raise.index ≡ id = ap (λ (v : EntityView). v.raise.index) now ∙ omega arith in
    let is_id : id ≡ c.reserved-entity.result.id = ap (λ (e : LifeAt). e.id) c.entity.view_is in
    let small : id < reach_of key = subst (λ (k : PhaseKey). id < reach_of k) (sym phase) (subst (λ n. n < reach_of c.args.self.now.key) (sym is_id) c.reserved-entity.ensures.within) in
    let words = c.self.invariant.words in
    let first = c.self.invariant.first in (
      search rules,
      omega (arith, words, small, first),
      raise_on-allowed key (reach-fits key kept) c.self.invariant.can _ _ mine ((setting_of key).sizes.first + id / 64 / 64) _ (address (setting_of key).sizes 1 (number_in 1 mine.0.raise.index)) _ (omega arith) (omega (arith, parts, some_part)) (omega (arith, at)) (omega (arith, first)) (omega (arith, small, at)) 0
          (ap (λ (v : EntityView). v.raise.stage) now) (omega arith) refl,
    )

pub fetch_or-requires-3 : goal.fetch_or-requires-3
fetch_or-requires-3 c =
    let key : PhaseKey = c.self.inside.table.shared.key in
    let kept = c.self.invariant.kept in
    let phase : key ≡ c.args.self.now.key = ap (λ (s : SharedPhase). s.key) c.self.view_is in
    let view : EntityView = c.args.seat.now.seat.me.0 in
    let mine = c.fetch_or-2.new.seat.me in
    let place : ℕ = c.fetch_add-place.result in
    let id : ℕ = c.entity.inside.id in
    let found : ℕ = c.fetch_or.result in
    let start : EntityView = begin_raise (claiming view place) ((1 + id / 64 - 1) * 64 + id % 64) found in
    let now : mine.0 ≡ with_raise start (risen start.raise) =
    c.fetch_or-2.ensures.2.1 ∙ ap (λ (v : EntityView). with_raise v (risen v.raise)) (c.fetch_or.ensures.2.1 (id % 64) (omega arith) refl ∙ ap (λ (v : EntityView). begin_raise v ((1 + id / 64 - 1) * 64 + id % 64) found) c.fetch_add-place.ensures.2.1) in
    let parts : mine.0.parts ≡ view.parts = ap (λ (v : EntityView). v.parts) now in
    let some_part : 0 < view.parts = search rules in
    let at : mine.0.raise.index ≡ id = ap (λ (v : EntityView). v.raise.index) now ∙ omega arith in
    let is_id : id ≡ c.reserved-entity.result.id = ap (λ (e : LifeAt). e.id) c.entity.view_is in
    let small : id < reach_of key = subst (λ (k : PhaseKey). id < reach_of k) (sym phase) (subst (λ n. n < reach_of c.args.self.now.key) (sym is_id) c.reserved-entity.ensures.within) in
    let words = c.self.invariant.words in
    let first = c.self.invariant.first in
    let second = c.self.invariant.second in (
      search rules,
      omega (arith, words, small, first, second),
      raise_on-allowed key (reach-fits key kept) c.self.invariant.can _ _ mine ((setting_of key).sizes.first + (setting_of key).sizes.second + id / 64 / 64 / 64) _ (address (setting_of key).sizes 2 (number_in 2 mine.0.raise.index)) _ (omega arith) (omega (arith, parts, some_part)) (omega (arith, at)) (omega (arith, first, second)) (omega (arith, small, at)) 1
          (ap (λ (v : EntityView). v.raise.stage) now) (omega arith) refl,
    )

pub fetch_or-requires-4 : goal.fetch_or-requires-4
fetch_or-requires-4 c =
    let key : PhaseKey = c.self.inside.table.shared.key in
    let kept = c.self.invariant.kept in
    let phase : key ≡ c.args.self.now.key = ap (λ (s : SharedPhase). s.key) c.self.view_is in
    let view : EntityView = c.args.seat.now.seat.me.0 in
    let mine = c.fetch_or-3.new.seat.me in
    let place : ℕ = c.fetch_add-place.result in
    let id : ℕ = c.entity.inside.id in
    let found : ℕ = c.fetch_or.result in
    let start : EntityView = begin_raise (claiming view place) ((1 + id / 64 - 1) * 64 + id % 64) found in
    let now : mine.0 ≡ with_raise start (risen (risen start.raise)) =
    c.fetch_or-3.ensures.2.1 ∙ ap (λ (v : EntityView). with_raise v (risen v.raise)) (c.fetch_or-2.ensures.2.1 ∙ ap (λ (v : EntityView). with_raise v (risen v.raise)) (c.fetch_or.ensures.2.1 (id % 64) (omega arith) refl
    ∙ ap (λ (v : EntityView). begin_raise v ((1 + id / 64 - 1) * 64 + id % 64) found) c.fetch_add-place.ensures.2.1)) in
    let parts : mine.0.parts ≡ view.parts = ap (λ (v : EntityView). v.parts) now in
    let some_part : 0 < view.parts = search rules in
    let at : mine.0.raise.index ≡ id = ap (λ (v : EntityView). v.raise.index) now ∙ omega arith in
    let is_id : id ≡ c.reserved-entity.result.id = ap (λ (e : LifeAt). e.id) c.entity.view_is in
    let small : id < reach_of key = subst (λ (k : PhaseKey). id < reach_of k) (sym phase) (subst (λ n. n < reach_of c.args.self.now.key) (sym is_id) c.reserved-entity.ensures.within) in
    let words = c.self.invariant.words in
    let first = c.self.invariant.first in
    let second = c.self.invariant.second in
    let third = c.self.invariant.third in (
      search rules,
      omega (arith, words, first, second, third),
      raise_end-allowed key (reach-fits key kept) c.self.invariant.can _ _ mine ((setting_of key).sizes.first + (setting_of key).sizes.second + (setting_of key).sizes.third) _ (address (setting_of key).sizes 3 (number_in 3 mine.0.raise.index)) _ (omega arith) (omega (arith, parts, some_part)) (omega (arith, at, small)) (omega (arith, first, second, third)) (omega (arith, small, at))
          (ap (λ (v : EntityView). v.raise.stage) now) refl,
    )

pub returns-clause-seat : goal.returns-clause-seat
returns-clause-seat c =
    let phase : c.self.inside.table.shared.key ≡ c.args.self.now.key = ap (λ (s : SharedPhase). s.key) c.self.view_is in
    let view : EntityView = c.args.seat.now.seat.me.0 in
    let place : ℕ = c.fetch_add-place.result in
    let entity : LifeAt = c.reserved-entity.result in
    let id : ℕ = c.entity.inside.id in
    let word : ℕ = c.fetch_or.result in
    let is_id : id ≡ entity.id = ap (λ (e : LifeAt). e.id) c.entity.view_is in
    let there : (1 + id / 64 - 1) * 64 + id % 64 ≡ entity.id = omega (arith, is_id) in
    let now : c.fetch_or-4.new.seat.me.0 ≡ after_create view place entity.id word =
    c.fetch_or-4.ensures.2.1 ∙ ap (λ (v : EntityView). with_raise v (ended v.raise)) (c.fetch_or-3.ensures.2.1 ∙ ap (λ (v : EntityView). with_raise v (risen v.raise)) (c.fetch_or-2.ensures.2.1 ∙ ap (λ (v : EntityView). with_raise v (risen v.raise)) (c.fetch_or.ensures.2.1 (id % 64) (omega arith) refl
    ∙ ap (λ (v : EntityView). begin_raise v ((1 + id / 64 - 1) * 64 + id % 64) word) c.fetch_add-place.ensures.2.1)))
    ∙ ap (λ i. after_create view place i word) there in
    let known : c.push.new.self.items ≡ c.args.seat.now.known.items ++ entity ∷ [] = search rules in
    let same : view.key ≡ c.args.self.now.key = c.requires.key in
    record {
      table = search rules;
      parts = subst (λ (v : EntityView). 0 < v.parts) (sym now) c.requires.parts;
      key = ap (λ (v : EntityView). v.key) now ∙ same;
      births = known ∙ (λ j. c.requires.births j ++ c.reserved-entity.ensures.value j ∷ []) ∙ sym (map-append (reserved c.args.self.now.key) view.claimer.births (place ∷ [])) ∙ ap (λ (v : EntityView). map (reserved c.args.self.now.key) v.claimer.births) (sym now);
    }

pub returns-clause-birth : goal.returns-clause-birth
returns-clause-birth c =
    let phase : c.self.inside.table.shared.key ≡ c.args.self.now.key = ap (λ (s : SharedPhase). s.key) c.self.view_is in
    let view : EntityView = c.args.seat.now.seat.me.0 in
    let place : ℕ = c.fetch_add-place.result in
    let entity : LifeAt = c.reserved-entity.result in
    let id : ℕ = c.entity.inside.id in
    let word : ℕ = c.fetch_or.result in
    let is_id : id ≡ entity.id = ap (λ (e : LifeAt). e.id) c.entity.view_is in
    let there : (1 + id / 64 - 1) * 64 + id % 64 ≡ entity.id = omega (arith, is_id) in
    let now : c.fetch_or-4.new.seat.me.0 ≡ after_create view place entity.id word =
    c.fetch_or-4.ensures.2.1 ∙ ap (λ (v : EntityView). with_raise v (ended v.raise)) (c.fetch_or-3.ensures.2.1 ∙ ap (λ (v : EntityView). with_raise v (risen v.raise)) (c.fetch_or-2.ensures.2.1 ∙ ap (λ (v : EntityView). with_raise v (risen v.raise)) (c.fetch_or.ensures.2.1 (id % 64) (omega arith) refl
    ∙ ap (λ (v : EntityView). begin_raise v ((1 + id / 64 - 1) * 64 + id % 64) word) c.fetch_add-place.ensures.2.1)))
    ∙ ap (λ i. after_create view place i word) there in
    let known : c.push.new.self.items ≡ c.args.seat.now.known.items ++ entity ∷ [] = search rules in
    let same : view.key ≡ c.args.self.now.key = c.requires.key in
    record {
      place = place;
      word = word;
      within = let low = c.fetch_add-place.ensures.2.2 in let equal : view.key.reserve ≡ c.args.self.now.key.reserve = ap (λ (k : PhaseKey). k.reserve) same in omega (arith, low, equal);
      value = c.reserved-entity.ensures.value;
      new = c.fetch_add-place.ensures.2.3;
      view = now;
      known = known;
    }

pub returns-clause-knows : goal.returns-clause-knows
returns-clause-knows c =
    let phase : c.self.inside.table.shared.key ≡ c.args.self.now.key = ap (λ (s : SharedPhase). s.key) c.self.view_is in
    let view : EntityView = c.args.seat.now.seat.me.0 in
    let place : ℕ = c.fetch_add-place.result in
    let entity : LifeAt = c.reserved-entity.result in
    let id : ℕ = c.entity.inside.id in
    let word : ℕ = c.fetch_or.result in
    let is_id : id ≡ entity.id = ap (λ (e : LifeAt). e.id) c.entity.view_is in
    let there : (1 + id / 64 - 1) * 64 + id % 64 ≡ entity.id = omega (arith, is_id) in
    let now : c.fetch_or-4.new.seat.me.0 ≡ after_create view place entity.id word =
    c.fetch_or-4.ensures.2.1 ∙ ap (λ (v : EntityView). with_raise v (ended v.raise)) (c.fetch_or-3.ensures.2.1 ∙ ap (λ (v : EntityView). with_raise v (risen v.raise)) (c.fetch_or-2.ensures.2.1 ∙ ap (λ (v : EntityView). with_raise v (risen v.raise)) (c.fetch_or.ensures.2.1 (id % 64) (omega arith) refl
    ∙ ap (λ (v : EntityView). begin_raise v ((1 + id / 64 - 1) * 64 + id % 64) word) c.fetch_add-place.ensures.2.1)))
    ∙ ap (λ i. after_create view place i word) there in
    let same : view.key ≡ c.args.self.now.key = c.requires.key in
    let low : entity.id < 64 * (setting_of c.args.self.now.key).sizes.first = let small = c.reserved-entity.ensures.within in omega (arith, small) in
    subst (λ (v : EntityView). Knows v entity) (sym now)
    (inr (
      subst (λ (k : PhaseKey). IsNext k.before entity) (sym same) c.reserved-entity.ensures.next,
      subst (λ (k : PhaseKey). entity.id < 64 * (setting_of k).sizes.first) (sym same) low,
      inl ((entity.id, bit_at word (entity.id % 64) == 1), Contains-push view.raise.calls (entity.id, bit_at word (entity.id % 64) == 1), refl),
    ))
