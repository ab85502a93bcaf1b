use Rattle.std.proofs.Common.{◌≡◌, false, Some, is_some, ap, sym, ◌∙◌}
use Rattle.std.specs.Option.{option_and_then, option_copied_mut, option_map_or}
use Rattle.specs_layouts.specs.Channels.{log_of, no_log}
use Rattle.specs_layouts.specs.Flagged.{tells}
use Rattle.scene_world.specs.Markers.{marker_at, marker_in, marker_log, marker_tells}
use Rattle.scene_world.proofs.ShownLemmas.{shows-seen, shows-inserted}
use Rattle.scene_world.proofs.value.AnySceneValue.insert_marker.Goals as goal

pub returns-in-Ok-clause-shown : goal.returns-in-Ok-clause-shown
returns-in-Ok-clause-shown g c =
    let held : g.bound-3.part c.args.value.now ≡ Some c.in-Some.markers.now = sym c.view_mut.ensures.value ∙ ap option_copied_mut c.in-Some.is in
    let left : g.bound-3.part (g.bound-3.wrapped c.insert.new.self) ≡ Some c.insert.new.self = g.bound-3-met.seen c.insert.new.self in
    shows-seen marker_in (λ s. log_of s.channel) tells
    (λ v index. option_and_then (λ markers. marker_at markers index) (g.bound-3.part v)) (λ v. option_map_or marker_log (g.bound-3.part v) no_log) (λ v. option_map_or marker_tells (g.bound-3.part v) false)
    c.in-Some.markers.now.inner c.insert.new.self.inner c.args.value.now (g.bound-3.wrapped c.insert.new.self)
    (λ index same. ap (option_and_then (λ markers. marker_at markers index)) left ∙ same ∙ sym (ap (option_and_then (λ markers. marker_at markers index)) held))
    (ap (λ markers. option_map_or marker_log markers no_log) held) (ap (λ markers. option_map_or marker_log markers no_log) left)
    (ap (λ markers. option_map_or marker_tells markers false) held) (ap (λ markers. option_map_or marker_tells markers false) left)
    (shows-inserted marker_in (λ s. log_of s.channel) tells c.in-Some.markers.now.inner c.insert.new.self.inner (is_some (marker_at c.in-Some.markers.now c.args.index)) c.args.index _ c.in-Ok.ensures.ok c.in-Ok.ensures.events c.in-Ok.ensures.emission)
