use Rattle.std.proofs.Common.{refl, ap}
use Rattle.std.proofs.lemmas.Result.{on_ok_weaker}
use Rattle.shred_world.specs.contracts.resource_id.ResourceIdPartialEq.TheImpl.{eq-value}
use Rattle.scene_model.specs.Declaring.{texts}
use Rattle.scene_world.specs.Places.{kinds_of}
use Rattle.scene_world.specs.declared.placed.Placed.{Placed}
use Rattle.scene_dispatch.proofs.StagedLemmas.{barrier-on, staged-on, local-on}
use Rattle.scene_dispatch.proofs.staging.add_entry.Goals as goal

pub returns-in_default-clause-has : goal.returns-in_default-clause-has
returns-in_default-clause-has g c = λ early next has.
    barrier-on (kinds_of g.R.Value.SceneValue.places g.R.DocumentRules.part_of g.R.WorldRules.columns) eq-value.it (λ placed. placed.position) (λ placed. placed.system) g.R.DocumentRules.kind_of g.R.DocumentRules.config_of g.R.DocumentRules.declared
    g.R.DocumentRules.said_time (g.R.DocumentRules.made_by c.args.rules.now) g.R.Rules.sense g.R.Rules.does (g.R.DocumentRules.book c.args.rules.now) (g.met.R.Rules.of_book c.args.rules.now)
    c.args.entry c.in_default.is early c.args.builder.now c.add_barrier.new.self c.add_barrier.ensures has

pub returns-then-local-clause-has : goal.returns-then-local-clause-has
returns-then-local-clause-has g c =
    let taken : Placed g.row.R.Denot g.row.R-Value.Denot g.row.R-Data.Denot g.row.R-Global.Denot g.row.R-System.Denot = record { position = c.args.place; system = c.in-Some.made.system } in
    on_ok_weaker c.add_local.result
    (λ then early next has.
    local-on (kinds_of g.R.Value.SceneValue.places g.R.DocumentRules.part_of g.R.WorldRules.columns) eq-value.it (λ placed. placed.position) (λ placed. placed.system) g.R.DocumentRules.kind_of g.R.DocumentRules.config_of g.R.DocumentRules.declared
    g.R.DocumentRules.said_time (g.R.DocumentRules.made_by c.args.rules.now) g.R.Rules.sense g.R.Rules.does (g.R.DocumentRules.book c.args.rules.now) (g.met.R.Rules.of_book c.args.rules.now)
    c.args.entry c.requires.fit c.in-System.draft c.in-Some.made c.in-System.is c.in-Some.is taken c.args.place refl refl early next c.args.builder.now c.add_local.new.builder has c.if-local.true then)
    c.add_local.ensures

pub returns-clause-has : goal.returns-clause-has
returns-clause-has g c =
    let taken : Placed g.row.R.Denot g.row.R-Value.Denot g.row.R-Data.Denot g.row.R-Global.Denot g.row.R-System.Denot = record { position = c.args.place; system = c.in-Some.made.system } in
    on_ok_weaker c.add_staged.result
    (λ then early next has.
    staged-on (kinds_of g.R.Value.SceneValue.places g.R.DocumentRules.part_of g.R.WorldRules.columns) eq-value.it (λ placed. placed.position) (λ placed. placed.system) g.R.DocumentRules.kind_of g.R.DocumentRules.config_of g.R.DocumentRules.declared
    g.R.DocumentRules.said_time (g.R.DocumentRules.made_by c.args.rules.now) g.R.Rules.sense g.R.Rules.does (g.R.DocumentRules.book c.args.rules.now) (g.met.R.Rules.of_book c.args.rules.now)
    c.args.entry c.requires.fit c.in-System.draft c.in-Some.made c.in-System.is c.in-Some.is taken c.args.place refl refl early next c.args.builder.now c.add_staged.new.builder has
    c.in-System.draft.name.now (texts c.deref.result.now) c.if-local.false refl (ap texts c.deref.ensures.value) then)
    c.add_staged.ensures
