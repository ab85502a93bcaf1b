use Rattle.serde_json.specs.View.{view}
use Rattle.scene_trace.proofs.course.course_of.Goals as goal

pub stage_systems-requires-clause-document : goal.stage_systems-requires-clause-document
stage_systems-requires-clause-document g c =
    let read = c.in_ok-draft.ensures in
    record { document = read.0; indices = c.args.limits.indices; json = view c.args.value.now; is = read.1; its = read.2.entries }

pub stage_systems-requires-clause-said : goal.stage_systems-requires-clause-said
stage_systems-requires-clause-said g c = c.in_ok-draft.ensures.2.made

pub stage_systems-requires-clause-made : goal.stage_systems-requires-clause-made
stage_systems-requires-clause-made g c = c.in_ok-draft.ensures.3
