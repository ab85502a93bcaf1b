use Rattle.std.proofs.Common.{rules, arith, ◌≡◌, ℕ, ◌+◌, ◌-◌, ◌*◌, ◌/◌, ◌%◌, ◌<◌, Option, Some, sym, subst, ap, ◌∙◌, inl, inr}
use Rattle.std.proofs.lemmas.Bool.{true_from_ne_false}
use Rattle.std.proofs.lemmas.List.Elements.{Contains-push}
use Rattle.std.proofs.lemmas.Nat.Bits.{shr_and_one}
use Rattle.std.specs.Int.{bit_at}
use Rattle.specs_entity.specs.Life.{Life, LifeAt}
use Rattle.specs_entity.specs.Births.{Births, persistent_at, alive_of, number_of, all_created, IsAlive}
use Rattle.specs_entity.specs.declared.phase_rule.PhaseKey.{PhaseKey}
use Rattle.specs_entity.specs.declared.phase_rule.EntityView.{EntityView}
use Rattle.specs_entity.specs.SharedPhase.{SharedPhase}
use Rattle.specs_entity.specs.PhaseViews.{setting_of, IsAfter, IsNext, Finds, MayLive}
use Rattle.specs_entity.proofs.PhaseReserveLemmas.{persistent-created, reach-fits, reserve-length}
use Rattle.specs_entity.proofs.PhaseAliveLemmas.{persistent-alive, after-next, next-after, unknown, known-raised, raised-may}
use Rattle.specs_entity.proofs.PhaseTableLemmas.{look-allowed}
use Rattle.specs_entity.proofs.shared_entities.SharedEntities.is_alive.Goals as goal

-- what the last persistent birth of the entity's index is
same-last : (entities before : Births) (reserve inside index : ℕ) (found : Option Life) → found ≡ persistent_at entities inside → entities ≡ all_created reserve before → inside ≡ index → found ≡ persistent_at before index
same-last entities before reserve inside index found is created same = is ∙ ap (λ b. persistent_at b inside) created ∙ persistent-created reserve before inside ∙ ap (persistent_at before) same

pub returns-in-Some-clause-may : goal.returns-in-Some-clause-may
returns-in-Some-clause-may c = λ is.
    let key : PhaseKey = c.self.inside.table.shared.key in
    let entity : LifeAt = c.args.entity in
    let index : c.entity.inside.id ≡ entity.id = ap (λ (e : LifeAt). e.id) c.entity.view_is in
    let generation : c.entity.inside.generation ≡ entity.generation = ap (λ (e : LifeAt). e.generation) c.entity.view_is in
    let last : c.alive-living.result ≡ alive_of (persistent_at key.before entity.id) = c.alive-living.ensures ∙ ap alive_of (same-last c.self.inside.entities key.before key.reserve c.entity.inside.id entity.id c.generation.result c.generation.ensures c.self.invariant.entities index) in
    let yes = c.told.ensures.yes (c.in-Some.is ∙ ap Some is) in
    subst (λ (s : SharedPhase). MayLive s.key entity) c.self.view_is (inl (persistent-alive key c.self.invariant.kept entity (sym last ∙ (yes ∙ ap Some generation))))

pub returns-in-Some-clause-finds : goal.returns-in-Some-clause-finds
returns-in-Some-clause-finds c = λ is.
    let key : PhaseKey = c.self.inside.table.shared.key in
    let entity : LifeAt = c.args.entity in
    let index : c.entity.inside.id ≡ entity.id = ap (λ (e : LifeAt). e.id) c.entity.view_is in
    let generation : c.entity.inside.generation ≡ entity.generation = ap (λ (e : LifeAt). e.generation) c.entity.view_is in
    let last : c.alive-living.result ≡ alive_of (persistent_at key.before entity.id) = c.alive-living.ensures ∙ ap alive_of (same-last c.self.inside.entities key.before key.reserve c.entity.inside.id entity.id c.generation.result c.generation.ensures c.self.invariant.entities index) in
    let yes = c.told.ensures.yes (c.in-Some.is ∙ ap Some is) in
    let same : c.args.seat.now.seat.me.0.key ≡ key = c.requires.key ∙ sym (ap (λ (s : SharedPhase). s.key) c.self.view_is) in
    inl (subst (λ (k : PhaseKey). IsAlive k.before entity) (sym same) (persistent-alive key c.self.invariant.kept entity (sym last ∙ (yes ∙ ap Some generation))))

pub returns-in-Some-clause-known : goal.returns-in-Some-clause-known
returns-in-Some-clause-known c = λ known.
    let key : PhaseKey = c.self.inside.table.shared.key in
    let entity : LifeAt = c.args.entity in
    let index : c.entity.inside.id ≡ entity.id = ap (λ (e : LifeAt). e.id) c.entity.view_is in
    let generation : c.entity.inside.generation ≡ entity.generation = ap (λ (e : LifeAt). e.generation) c.entity.view_is in
    let last : c.alive-living.result ≡ alive_of (persistent_at key.before entity.id) = c.alive-living.ensures ∙ ap alive_of (same-last c.self.inside.entities key.before key.reserve c.entity.inside.id entity.id c.generation.result c.generation.ensures c.self.invariant.entities index) in
    let born : c.number-born.result ≡ number_of (persistent_at key.before entity.id) = c.number-born.ensures.value ∙ ap number_of (same-last c.self.inside.entities key.before key.reserve c.entity.inside.id entity.id c.generation-2.result c.generation-2.ensures c.self.invariant.entities index) in
    let same : c.args.seat.now.seat.me.0.key ≡ key = c.requires.key ∙ sym (ap (λ (s : SharedPhase). s.key) c.self.view_is) in
    true_from_ne_false c.in-Some.answer (λ off. let no_way = c.told.ensures.no (c.in-Some.is ∙ ap Some off) in
    unknown key c.self.invariant.kept entity c.args.seat.now.seat.me.0 same (λ alive. no_way.0 (last ∙ (alive ∙ sym (ap Some generation))))
    (λ next. no_way.1 (last ∙ next.0) (subst (λ (life : Life). IsAfter c.number-born.result life) (sym generation) (next-after key c.self.invariant.kept entity c.number-born.result born next))) known)

pub load-found-requires : goal.load-found-requires
load-found-requires c =
    let key : PhaseKey = c.self.inside.table.shared.key in
    let kept = c.self.invariant.kept in
    let past = c.if-place-self.false in
    let first = c.self.invariant.first in
    let phase : c.self.inside.table.shared.key ≡ c.args.self.now.key = ap (λ (s : SharedPhase). s.key) c.self.view_is in (
      search rules,
      (let words = c.self.invariant.words in omega (arith, words, past, first)),
      look-allowed key (reach-fits key kept) c.self.invariant.can _ _ _ (c.entity.inside.id / 64) _ (search rules) (omega arith) (omega (arith, past, first)) (reserve-length key kept),
    )

pub returns-clause-may : goal.returns-clause-may
returns-clause-may c = λ is.
    let key : PhaseKey = c.self.inside.table.shared.key in
    let entity : LifeAt = c.args.entity in
    let view : EntityView = c.args.seat.now.seat.me.0 in
    let word : ℕ = c.load-found.result in
    let inside : ℕ = c.entity.inside.id in
    let index : inside ≡ entity.id = ap (λ (e : LifeAt). e.id) c.entity.view_is in
    let generation : c.entity.inside.generation ≡ entity.generation = ap (λ (e : LifeAt). e.generation) c.entity.view_is in
    let last : c.alive-living.result ≡ alive_of (persistent_at key.before entity.id) = c.alive-living.ensures ∙ ap alive_of (same-last c.self.inside.entities key.before key.reserve inside entity.id c.generation.result c.generation.ensures c.self.invariant.entities index) in
    let born : c.number-born.result ≡ number_of (persistent_at key.before entity.id) = c.number-born.ensures.value ∙ ap number_of (same-last c.self.inside.entities key.before key.reserve inside entity.id c.generation-2.result c.generation-2.ensures c.self.invariant.entities index) in
    let same : view.key ≡ key = c.requires.key ∙ sym (ap (λ (s : SharedPhase). s.key) c.self.view_is) in
    let looks = c.told.ensures.looks c.in_default.is in
    let next : IsNext key.before entity = after-next key c.self.invariant.kept entity c.number-born.result born (sym last ∙ looks.0) (subst (λ (life : Life). IsAfter c.number-born.result life) generation looks.1) in
    let past = c.if-place-self.false in
    let first = c.self.invariant.first in
    let low : entity.id < 64 * (setting_of key).sizes.first = omega (arith, past, first, index) in
    let within : entity.id < 64 * (setting_of view.key).sizes.first = subst (λ (k : PhaseKey). entity.id < 64 * (setting_of k).sizes.first) (sym same) low in
    let in_word : entity.id / 64 ≡ 1 + inside / 64 - 1 = omega (arith, index) in
    let rest : inside % 64 ≡ entity.id % 64 = ap (λ i. i % 64) index in
    let on : bit_at word (inside % 64) ≡ 1 = grind (arith, shr_and_one word (inside % 64)) in
    let raised = c.load-found.ensures.2.3 entity.id in_word within (ap (bit_at word) (sym rest) ∙ on) in
    subst (λ (s : SharedPhase). MayLive s.key entity) c.self.view_is (raised-may key c.self.invariant.kept entity view same c.self.invariant.can next raised)

pub returns-clause-finds : goal.returns-clause-finds
returns-clause-finds c = λ is.
    let key : PhaseKey = c.self.inside.table.shared.key in
    let entity : LifeAt = c.args.entity in
    let view : EntityView = c.args.seat.now.seat.me.0 in
    let word : ℕ = c.load-found.result in
    let inside : ℕ = c.entity.inside.id in
    let index : inside ≡ entity.id = ap (λ (e : LifeAt). e.id) c.entity.view_is in
    let generation : c.entity.inside.generation ≡ entity.generation = ap (λ (e : LifeAt). e.generation) c.entity.view_is in
    let last : c.alive-living.result ≡ alive_of (persistent_at key.before entity.id) = c.alive-living.ensures ∙ ap alive_of (same-last c.self.inside.entities key.before key.reserve inside entity.id c.generation.result c.generation.ensures c.self.invariant.entities index) in
    let born : c.number-born.result ≡ number_of (persistent_at key.before entity.id) = c.number-born.ensures.value ∙ ap number_of (same-last c.self.inside.entities key.before key.reserve inside entity.id c.generation-2.result c.generation-2.ensures c.self.invariant.entities index) in
    let same : view.key ≡ key = c.requires.key ∙ sym (ap (λ (s : SharedPhase). s.key) c.self.view_is) in
    let looks = c.told.ensures.looks c.in_default.is in
    let next : IsNext key.before entity = after-next key c.self.invariant.kept entity c.number-born.result born (sym last ∙ looks.0) (subst (λ (life : Life). IsAfter c.number-born.result life) generation looks.1) in
    let past = c.if-place-self.false in
    let first = c.self.invariant.first in
    let low : entity.id < 64 * (setting_of key).sizes.first = omega (arith, past, first, index) in
    let within : entity.id < 64 * (setting_of view.key).sizes.first = subst (λ (k : PhaseKey). entity.id < 64 * (setting_of k).sizes.first) (sym same) low in
    let in_word : entity.id / 64 ≡ 1 + inside / 64 - 1 = omega (arith, index) in
    let rest : inside % 64 ≡ entity.id % 64 = ap (λ i. i % 64) index in
    let on : bit_at word (inside % 64) ≡ 1 = grind (arith, shr_and_one word (inside % 64)) in
    subst (λ (v : EntityView). Finds v entity) (sym c.load-found.ensures.2.1)
    (inr (
      subst (λ (k : PhaseKey). IsNext k.before entity) (sym same) next,
      within,
      ((1 + inside / 64 - 1, word), Contains-push view.raise.seen (1 + inside / 64 - 1, word), sym in_word, ap (bit_at word) (sym rest) ∙ on),
    ))

pub returns-clause-known : goal.returns-clause-known
returns-clause-known c = λ known.
    let key : PhaseKey = c.self.inside.table.shared.key in
    let entity : LifeAt = c.args.entity in
    let view : EntityView = c.args.seat.now.seat.me.0 in
    let word : ℕ = c.load-found.result in
    let inside : ℕ = c.entity.inside.id in
    let index : inside ≡ entity.id = ap (λ (e : LifeAt). e.id) c.entity.view_is in
    let generation : c.entity.inside.generation ≡ entity.generation = ap (λ (e : LifeAt). e.generation) c.entity.view_is in
    let last : c.alive-living.result ≡ alive_of (persistent_at key.before entity.id) = c.alive-living.ensures ∙ ap alive_of (same-last c.self.inside.entities key.before key.reserve inside entity.id c.generation.result c.generation.ensures c.self.invariant.entities index) in
    let born : c.number-born.result ≡ number_of (persistent_at key.before entity.id) = c.number-born.ensures.value ∙ ap number_of (same-last c.self.inside.entities key.before key.reserve inside entity.id c.generation-2.result c.generation-2.ensures c.self.invariant.entities index) in
    let same : view.key ≡ key = c.requires.key ∙ sym (ap (λ (s : SharedPhase). s.key) c.self.view_is) in
    let looks = c.told.ensures.looks c.in_default.is in
    let next : IsNext key.before entity = after-next key c.self.invariant.kept entity c.number-born.result born (sym last ∙ looks.0) (subst (λ (life : Life). IsAfter c.number-born.result life) generation looks.1) in
    let past = c.if-place-self.false in
    let first = c.self.invariant.first in
    let low : entity.id < 64 * (setting_of key).sizes.first = omega (arith, past, first, index) in
    let within : entity.id < 64 * (setting_of view.key).sizes.first = subst (λ (k : PhaseKey). entity.id < 64 * (setting_of k).sizes.first) (sym same) low in
    let in_word : entity.id / 64 ≡ 1 + inside / 64 - 1 = omega (arith, index) in
    let rest : inside % 64 ≡ entity.id % 64 = ap (λ i. i % 64) index in
    let on : bit_at word (entity.id % 64) ≡ 1 = c.load-found.ensures.2.2 entity.id in_word (known-raised key c.self.invariant.kept entity view same next known) in
    let on' : bit_at word (inside % 64) ≡ 1 = ap (bit_at word) rest ∙ on in
    grind (arith, shr_and_one word (inside % 64))
