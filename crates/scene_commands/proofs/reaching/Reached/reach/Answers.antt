use Rattle.std.proofs.Common.{◌≡◌, true, cond, eqb, refl, ap, sym, ◌∙◌, subst}
use Rattle.std.specs.Prelude.{nat_eq}
use Rattle.std.specs.HashSet.{contains}
use Rattle.std.proofs.lemmas.Bool.{eq-eqb, or_right}
use Rattle.specs_entity.specs.Births.{is_named}
use Rattle.scene_commands.specs.Reaching.{Tells, GoesOnBy}
use Rattle.scene_commands.proofs.ReachLemmas.{goes-on-not, goes-on-one, named-push, tells-more}
use Rattle.scene_commands.proofs.reaching.Reached.reach.Goals as goal

pub returns-then-contains-clause-longer : goal.returns-then-contains-clause-longer
returns-then-contains-clause-longer c = goes-on-not (λ one. one ≡ c.args.entity) c.args.self.now.entities.items

pub returns-then-contains-clause-is_in : goal.returns-then-contains-clause-is_in
returns-then-contains-clause-is_in c =
    ap (is_named c.args.self.now.entities.items) (sym c.id-index.ensures) ∙ sym (c.requires.tells.same c.id-index.result) ∙ sym c.contains.ensures ∙ c.if-contains.true

pub returns-clause-tells : goal.returns-clause-tells
returns-clause-tells c =
    subst (Tells c.insert.new.self) (sym c.in_ok-push.ensures.items)
    (tells-more c.args.self.now.seen c.args.self.now.entities.items c.requires.tells c.insert.new.self c.args.entity c.requires.range
    (ap (λ index. contains nat_eq c.args.self.now.seen index) (sym c.id-index.ensures) ∙ sym c.contains.ensures ∙ c.if-contains.false)
    (λ index. c.in_ok-insert.ensures.updates.0 index ∙ ap (λ one. cond (eqb one index) true (contains nat_eq c.args.self.now.seen index)) c.id-index.ensures))

pub returns-clause-longer : goal.returns-clause-longer
returns-clause-longer c = subst (GoesOnBy (λ one. one ≡ c.args.entity) c.args.self.now.entities.items) (sym c.in_ok-push.ensures.items) (goes-on-one c.args.self.now.entities.items c.args.entity)

pub returns-clause-is_in : goal.returns-clause-is_in
returns-clause-is_in c =
    ap (λ l. is_named l c.args.entity.id) c.in_ok-push.ensures.items ∙ named-push c.args.self.now.entities.items c.args.entity c.args.entity.id
    ∙ or_right (is_named c.args.self.now.entities.items c.args.entity.id) (eqb c.args.entity.id c.args.entity.id) (eq-eqb c.args.entity.id c.args.entity.id refl)
