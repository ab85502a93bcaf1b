use Rattle.std.proofs.Common.{◌≡◌, [], ◌∷◌, vec_len, filter, ap, sym, ◌∙◌, subst, arith}
use Rattle.std.proofs.lemmas.Bool.{eqb-true}
use Rattle.specs_entity.specs.Life.{LifeAt}
use Rattle.scene_model.specs.Declaring.{texts}
use Rattle.scene_model.proofs.CallerLemmas.{no_items}
use Rattle.scene_world.specs.Places.{kinds_of}
use Rattle.scene_world.specs.Standing.{roll_of, owning_in}
use Rattle.scene_commands.specs.Acts.{seen_of}
use Rattle.scene_commands.specs.Owning.{pairs_of, HaveDied}
use Rattle.scene_commands.proofs.KillLemmas.{under-lives}
use Rattle.scene_commands.proofs.KeepLemmas.{may-kept}
use Rattle.scene_commands.proofs.FallLemmas.{nobody-dies}
use Rattle.scene_commands.proofs.ReachLemmas.{under-alive}
use Rattle.scene_commands.proofs.DyingLemmas.{killed-at-once, killed-then}
use Rattle.scene_commands.proofs.deaths.kill_with.Goals as goal

-- where no part of a kind that owns its holder refers to anybody, the entity dies alone
pub returns-then-is_empty-clause-killed : goal.returns-then-is_empty-clause-killed
returns-then-is_empty-clause-killed g c =
    let kinds = kinds_of g.R.Value.SceneValue.places g.R.DocumentRules.part_of g.R.WorldRules.columns in
    let w = seen_of c.args.world.now in
    let none_listed : vec_len c.in_ok-names.names ≡ 0 = eqb-true (vec_len c.in_ok-names.names) 0 (sym c.is_empty.ensures ∙ c.if-is_empty.true) in
    let empty : c.in_ok-names.names.items ≡ [] = no_items c.in_ok-names.names.items (omega (arith, none_listed, c.in_ok-names.names.ok.0)) in
    let nobody : (entity : LifeAt) → pairs_of kinds w (owning_in kinds) entity ≡ [] = λ entity.
    sym (c.in_ok-names.ensures entity ∙ ap (λ names. pairs_of kinds w (filter g.R.WorldRules.columns.owning names) entity) (c.part_names.ensures ∙ sym (g.met.R.WorldRules.named_so c.args.rules.now).parts))
    ∙ ap (λ names. pairs_of kinds w (texts names) entity) empty in
    killed-at-once kinds g.met.R.WorldRules.apart c.args.world.now c.kill_one.new.world c.args.id (c.args.id ∷ []) (nobody-dies kinds c.args.world.now c.requires.may nobody c.args.id)
    (under-lives kinds c.args.world.now c.args.id c.args.entity c.requires.under) c.in_ok-kill_one.ensures

pub make_holders-requires-clause-alike : goal.make_holders-requires-clause-alike
make_holders-requires-clause-alike g c =
    let kinds = kinds_of g.R.Value.SceneValue.places g.R.DocumentRules.part_of g.R.WorldRules.columns in
    λ entity.
    ap (λ names. pairs_of kinds (seen_of c.args.world.now) (texts names) entity) c.as_slice.ensures.value ∙ c.in_ok-names.ensures entity
    ∙ ap (λ names. pairs_of kinds (seen_of c.args.world.now) (filter g.R.WorldRules.columns.owning names) entity) (c.part_names.ensures ∙ sym (g.met.R.WorldRules.named_so c.args.rules.now).parts)

pub dying_with-requires-clause-alike : goal.dying_with-requires-clause-alike
dying_with-requires-clause-alike g c =
    let kinds = kinds_of g.R.Value.SceneValue.places g.R.DocumentRules.part_of g.R.WorldRules.columns in
    λ entity.
    ap (λ names. pairs_of kinds (seen_of c.args.world.now) (texts names) entity) c.as_slice-2.ensures.value ∙ c.in_ok-names.ensures entity
    ∙ ap (λ names. pairs_of kinds (seen_of c.args.world.now) (filter g.R.WorldRules.columns.owning names) entity) (c.part_names.ensures ∙ sym (g.met.R.WorldRules.named_so c.args.rules.now).parts)

pub dying_with-requires-clause-alive : goal.dying_with-requires-clause-alive
dying_with-requires-clause-alive g c =
    under-alive (roll_of (kinds_of g.R.Value.SceneValue.places g.R.DocumentRules.part_of g.R.WorldRules.columns) (seen_of c.args.world.now)) c.args.id c.args.entity c.requires.under

pub kill_each-requires : goal.kill_each-requires
kill_each-requires g c = may-kept (kinds_of g.R.Value.SceneValue.places g.R.DocumentRules.part_of g.R.WorldRules.columns) g.met.R.WorldRules.apart c.args.world.now c.dying_with.new.world c.in_ok-ids.ensures.keeps c.requires.may

pub returns-clause-killed : goal.returns-clause-killed
returns-clause-killed g c =
    let kinds = kinds_of g.R.Value.SceneValue.places g.R.DocumentRules.part_of g.R.WorldRules.columns in
    killed-then kinds g.met.R.WorldRules.apart c.args.world.now c.kill_each.new.world c.args.id c.in_ok-ids.ids.items (c.in_ok-ids.ensures.least c.args.id c.requires.under)
    (under-lives kinds c.args.world.now c.args.id c.args.entity c.requires.under) c.dying_with.new.world c.in_ok-ids.ensures.keeps
    (subst (λ ids. HaveDied kinds ids c.dying_with.new.world c.kill_each.new.world) c.as_slice-3.ensures.value c.in_ok-kill_each.ensures)

pub returns-clause-covered : goal.returns-clause-covered
returns-clause-covered g c = c.in_ok-make_holders.ensures.covers
