use Rattle.std.proofs.Common.{take, All, subst}
use Rattle.std.proofs.lemmas.List.{take_all}
use Rattle.std.proofs.lemmas.List.Elements.{All-nil, All-more, All-weaker}
use Rattle.scene_world.specs.Places.{kinds_of}
use Rattle.scene_commands.specs.Acts.{seen_of}
use Rattle.scene_commands.specs.Owning.{IsNoted}
use Rattle.scene_commands.proofs.LinkLemmas.{grows-not, grows-further}
use Rattle.scene_commands.proofs.owning.note_pairs.Goals as goal

pub loop-pair-init : goal.loop-pair-init
loop-pair-init g c = record { grows = grows-not c.args.holders.now c.requires; noted = All-nil (IsNoted (kinds_of g.R.Value.SceneValue.places g.R.DocumentRules.part_of g.R.WorldRules.columns) (seen_of c.args.world.now) c.args.holders.now) }

pub note_pair-requires : goal.note_pair-requires
note_pair-requires g c = c.loop-pair.invariant.grows.chained

pub loop-pair-preserved : goal.loop-pair-preserved
loop-pair-preserved g c =
    let kinds = kinds_of g.R.Value.SceneValue.places g.R.DocumentRules.part_of g.R.WorldRules.columns in
    let w = seen_of c.args.world.now in
    let all = c.in_ok-note_pair.ensures in
    record {
      grows = grows-further c.args.holders.now c.loop-pair.holders c.note_pair.new.holders c.loop-pair.invariant.grows all.grows;
      noted = All-more (IsNoted kinds w c.note_pair.new.holders) c.args.pairs.now c.loop-pair.pair-index c.pair-item.result c.loop-pair-test.true
          (All-weaker (IsNoted kinds w c.loop-pair.holders) (IsNoted kinds w c.note_pair.new.holders) (λ pair noted holder target of to. all.grows.kept holder target (noted holder target of to))
          (take c.loop-pair.pair-index c.args.pairs.now) c.loop-pair.invariant.noted)
          (subst (IsNoted kinds w c.note_pair.new.holders) c.pair-item.is all.noted);
    }

pub returns-clause-grows : goal.returns-clause-grows
returns-clause-grows g c = c.loop-pair.invariant.grows

pub returns-clause-noted : goal.returns-clause-noted
returns-clause-noted g c =
    subst (All (IsNoted (kinds_of g.R.Value.SceneValue.places g.R.DocumentRules.part_of g.R.WorldRules.columns) (seen_of c.args.world.now) c.loop-pair.holders)) (take_all c.loop-pair.pair-index c.args.pairs.now c.loop-pair-test.false) c.loop-pair.invariant.noted
