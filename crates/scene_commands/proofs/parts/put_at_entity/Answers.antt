use Rattle.std.proofs.Common.{Some, length, refl, ap, sym, ◌∙◌, subst}
use Rattle.std.specs.Prelude.{option_map}
use Rattle.scene_world.specs.Places.{kinds_of}
use Rattle.scene_model.specs.Laws.{refs_to}
use Rattle.scene_world.specs.Standing.{roll_of}
use Rattle.scene_commands.specs.Acts.{seen_of, AreUnder, PutsPart}
use Rattle.scene_commands.proofs.ActLemmas.{put-acts, put-may, put-lacks, put-skips, as-many}
use Rattle.scene_commands.proofs.ElsewhereLemmas.{column-elsewhere}
use Rattle.scene_commands.proofs.PutLemmas.{roll-stays}
use Rattle.scene_commands.proofs.GoingLemmas.{goes-nowhere, goes-by-part}
use Rattle.scene_commands.proofs.parts.put_at_entity.Given.{Over}
use Rattle.scene_commands.proofs.parts.put_at_entity.Goals.{After-drop-refs-2}
use Rattle.scene_commands.proofs.parts.put_at_entity.Goals as goal

pub returns-in_default-clause-acts : goal.returns-in_default-clause-acts
returns-in_default-clause-acts g c = (
  put-lacks (kinds_of g.R.Value.SceneValue.places g.R.DocumentRules.part_of g.R.WorldRules.columns) g.met.R.WorldRules.apart c.args.kind.now c.requires.kind c.args.known.0 c.args.world.now c.requires.may
      c.args.known.1 c.requires.known (g.R.DocumentRules.part_of c.args.datum.now) c.as_slice.result.now (ap refs_to c.as_slice.ensures.value ∙ c.in_ok-refs.ensures)
      (subst (λ found. AreUnder (roll_of (kinds_of g.R.Value.SceneValue.places g.R.DocumentRules.part_of g.R.WorldRules.columns) (seen_of c.args.world.now)) c.as_slice.result.now (option_map (λ entities. entities.items) found)) c.in_default.is c.in_ok-named.ensures),
  refl,
)

pub put_at-requires-clause-as_many : goal.put_at-requires-clause-as_many
put_at-requires-clause-as_many g c =
    ap length c.as_slice-2.ensures.value
    ∙ as-many (roll_of (kinds_of g.R.Value.SceneValue.places g.R.DocumentRules.part_of g.R.WorldRules.columns) (seen_of c.args.world.now)) c.as_slice.result.now c.in-Some.named.items (g.R.DocumentRules.part_of c.args.datum.now) (ap refs_to c.as_slice.ensures.value ∙ c.in_ok-refs.ensures)
    (subst (λ found. AreUnder (roll_of (kinds_of g.R.Value.SceneValue.places g.R.DocumentRules.part_of g.R.WorldRules.columns) (seen_of c.args.world.now)) c.as_slice.result.now (option_map (λ entities. entities.items) found)) c.in-Some.is c.in_ok-named.ensures)

-- the part was put in at the entity's index
put : (g : Over) (c : After-drop-refs-2 g) → PutsPart (kinds_of g.R.Value.SceneValue.places g.R.DocumentRules.part_of g.R.WorldRules.columns) c.args.kind.now c.args.known.1.id (g.R.DocumentRules.part_of c.args.datum.now) c.in-Some.named.items (seen_of c.args.world.now) (seen_of c.put_at.new.world)
put g c =
    subst (λ named. PutsPart (kinds_of g.R.Value.SceneValue.places g.R.DocumentRules.part_of g.R.WorldRules.columns) c.args.kind.now c.args.known.1.id (g.R.DocumentRules.part_of c.args.datum.now) named (seen_of c.args.world.now) (seen_of c.put_at.new.world)) c.as_slice-2.ensures.value
    (subst (λ i. PutsPart (kinds_of g.R.Value.SceneValue.places g.R.DocumentRules.part_of g.R.WorldRules.columns) c.args.kind.now i (g.R.DocumentRules.part_of c.args.datum.now) c.as_slice-2.result.now (seen_of c.args.world.now) (seen_of c.put_at.new.world)) c.id.ensures c.in_ok-put_at.ensures)

pub returns-clause-acts : goal.returns-clause-acts
returns-clause-acts g c =
    put-acts (kinds_of g.R.Value.SceneValue.places g.R.DocumentRules.part_of g.R.WorldRules.columns) g.met.R.WorldRules.apart c.args.kind.now c.requires.kind c.args.known.0 c.args.world.now c.requires.may
    c.args.known.1 c.requires.known (g.R.DocumentRules.part_of c.args.datum.now) c.as_slice.result.now (ap refs_to c.as_slice.ensures.value ∙ c.in_ok-refs.ensures)
    c.in-Some.named.items (subst (λ found. AreUnder (roll_of (kinds_of g.R.Value.SceneValue.places g.R.DocumentRules.part_of g.R.WorldRules.columns) (seen_of c.args.world.now)) c.as_slice.result.now (option_map (λ entities. entities.items) found)) c.in-Some.is c.in_ok-named.ensures)
    c.put_at.new.world (put g c)

pub returns-clause-may : goal.returns-clause-may
returns-clause-may g c =
    put-may (kinds_of g.R.Value.SceneValue.places g.R.DocumentRules.part_of g.R.WorldRules.columns) g.met.R.WorldRules.apart c.args.kind.now c.requires.kind c.args.known.0 c.args.world.now c.requires.may
    c.args.known.1 c.requires.known (g.R.DocumentRules.part_of c.args.datum.now) c.as_slice.result.now (ap refs_to c.as_slice.ensures.value ∙ c.in_ok-refs.ensures)
    c.in-Some.named.items (subst (λ found. AreUnder (roll_of (kinds_of g.R.Value.SceneValue.places g.R.DocumentRules.part_of g.R.WorldRules.columns) (seen_of c.args.world.now)) c.as_slice.result.now (option_map (λ entities. entities.items) found)) c.in-Some.is c.in_ok-named.ensures)
    c.put_at.new.world (put g c)

pub returns-in_default-clause-elsewhere : goal.returns-in_default-clause-elsewhere
returns-in_default-clause-elsewhere g c = λ id e m a p. refl

pub returns-clause-elsewhere : goal.returns-clause-elsewhere
returns-clause-elsewhere g c =
    let puts = put g c in
    column-elsewhere (kinds_of g.R.Value.SceneValue.places g.R.DocumentRules.part_of g.R.WorldRules.columns) c.args.kind.now c.args.known.1.id (Some puts.one) c.args.world.now c.put_at.new.world puts.sets c.requires.kind

pub returns-in_default-clause-goes_on : goal.returns-in_default-clause-goes_on
returns-in_default-clause-goes_on g c = goes-nowhere (kinds_of g.R.Value.SceneValue.places g.R.DocumentRules.part_of g.R.WorldRules.columns) c.args.world.now

pub returns-clause-goes_on : goal.returns-clause-goes_on
returns-clause-goes_on g c =
    let puts = put g c in
    goes-by-part (kinds_of g.R.Value.SceneValue.places g.R.DocumentRules.part_of g.R.WorldRules.columns) g.met.R.WorldRules.apart c.args.kind.now c.requires.kind c.args.known.1.id (Some puts.one) c.args.world.now c.put_at.new.world puts.sets

pub returns-clause-roll : goal.returns-clause-roll
returns-clause-roll g c =
    let puts = put g c in
    roll-stays (kinds_of g.R.Value.SceneValue.places g.R.DocumentRules.part_of g.R.WorldRules.columns) g.met.R.WorldRules.apart c.args.kind.now c.requires.kind c.args.known.1.id (Some puts.one) (seen_of c.args.world.now) (seen_of c.put_at.new.world) puts.sets
