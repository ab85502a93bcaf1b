use Rattle.std.proofs.Common.{arith, ap, sym, subst, ◌∙◌, ◌≡◌, ℕ, ◌<◌, List, length, get_or}
use Rattle.std.proofs.lemmas.List.{get_or_default}
use Rattle.specs_entity.specs.Life.{LifeAt, first_life}
use Rattle.specs_entity.specs.Births.{newborns}
use Rattle.specs_entity.specs.declared.phase_rule.PhaseKey.{PhaseKey}
use Rattle.specs_entity.specs.SharedPhase.{SharedPhase}
use Rattle.specs_entity.specs.PhaseViews.{reach_of, reserved, IsNext}
use Rattle.specs_entity.proofs.PhaseReserveLemmas.{newborns-length, reserved-within, reserved-next}
use Rattle.specs_entity.proofs.shared_entities.SharedEntities.reserved.Goals as goal

pub index-requires : goal.index-requires
index-requires c =
    let key : PhaseKey = c.self.inside.table.shared.key in
    let same : key.reserve ≡ c.args.self.now.key.reserve = ap (λ (s : SharedPhase). s.key.reserve) c.self.view_is in
    let long : length c.self.inside.reserve.items ≡ key.reserve = ap length c.self.invariant.reserve ∙ newborns-length key.reserve key.before in
    let low = c.requires in
    omega (arith, same, long, low)

-- the entity that lies at the place
same-entity : (key : PhaseKey) (items : List LifeAt) (place : ℕ) (found nobody : LifeAt) → place < key.reserve → items ≡ newborns key.reserve key.before → found ≡ get_or items place found → found ≡ get_or (newborns key.reserve key.before) place nobody
same-entity key items place found nobody low same is =
    let long = newborns-length key.reserve key.before in
    is ∙ (ap (λ list. get_or list place found) same ∙ get_or_default (newborns key.reserve key.before) place found nobody (omega (arith, low, long)))

pub returns-clause-value : goal.returns-clause-value
returns-clause-value c =
    let key : PhaseKey = c.self.inside.table.shared.key in
    let same : key.reserve ≡ c.args.self.now.key.reserve = ap (λ (s : SharedPhase). s.key.reserve) c.self.view_is in
    let low = c.requires in
    same-entity key c.self.inside.reserve.items c.args.place c.index.result.now (record { id = 0; generation = first_life }) (omega (arith, same, low)) c.self.invariant.reserve c.index.ensures ∙ ap (λ (s : SharedPhase). reserved s.key c.args.place) c.self.view_is

pub returns-clause-within : goal.returns-clause-within
returns-clause-within c =
    let key : PhaseKey = c.self.inside.table.shared.key in
    let same : key.reserve ≡ c.args.self.now.key.reserve = ap (λ (s : SharedPhase). s.key.reserve) c.self.view_is in
    let low = c.requires in
    let is = same-entity key c.self.inside.reserve.items c.args.place c.index.result.now (record { id = 0; generation = first_life }) (omega (arith, same, low)) c.self.invariant.reserve c.index.ensures in
    subst (λ (s : SharedPhase). c.index.result.now.id < reach_of s.key) c.self.view_is (subst (λ (e : LifeAt). e.id < reach_of key) (sym is) (reserved-within key c.self.invariant.kept c.self.invariant.can c.args.place (omega (arith, same, low))))

pub returns-clause-next : goal.returns-clause-next
returns-clause-next c =
    let key : PhaseKey = c.self.inside.table.shared.key in
    let same : key.reserve ≡ c.args.self.now.key.reserve = ap (λ (s : SharedPhase). s.key.reserve) c.self.view_is in
    let low = c.requires in
    let is = same-entity key c.self.inside.reserve.items c.args.place c.index.result.now (record { id = 0; generation = first_life }) (omega (arith, same, low)) c.self.invariant.reserve c.index.ensures in
    subst (λ (s : SharedPhase). IsNext s.key.before c.index.result.now) c.self.view_is (subst (IsNext key.before) (sym is) (reserved-next key c.self.invariant.kept c.self.invariant.can c.args.place (omega (arith, same, low))))
