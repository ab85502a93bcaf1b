use Rattle.std.proofs.Common.{◌≡◌, false, Some, is_some, refl, ap, sym, ◌∙◌}
use Rattle.std.specs.Option.{option_and_then, option_copied_mut, option_map_or}
use Rattle.specs_layouts.specs.Channels.{log_of, no_log}
use Rattle.specs_layouts.specs.Flagged.{tells}
use Rattle.scene_world.specs.Markers.{marker_at, marker_in, marker_log, marker_tells}
use Rattle.specs_layouts.proofs.CallerLemmas.{shows-taken}
use Rattle.scene_world.proofs.ShownLemmas.{shows-seen}
use Rattle.scene_world.proofs.value.AnySceneValue.drop_marker.Goals as goal

pub returns-clause-shown : goal.returns-clause-shown
returns-clause-shown g c =
    let held : g.bound-3.part c.args.value.now ≡ Some c.in-Some.markers.now = sym c.view_mut.ensures.value ∙ ap option_copied_mut c.in-Some.is in
    let left : g.bound-3.part (g.bound-3.wrapped c.drop.new.self) ≡ Some c.drop.new.self = g.bound-3-met.seen c.drop.new.self in
    shows-seen marker_in (λ s. log_of s.channel) tells
    (λ v index. option_and_then (λ markers. marker_at markers index) (g.bound-3.part v)) (λ v. option_map_or marker_log (g.bound-3.part v) no_log) (λ v. option_map_or marker_tells (g.bound-3.part v) false)
    c.in-Some.markers.now.inner c.drop.new.self.inner c.args.value.now (g.bound-3.wrapped c.drop.new.self)
    (λ index same. ap (option_and_then (λ markers. marker_at markers index)) left ∙ same ∙ sym (ap (option_and_then (λ markers. marker_at markers index)) held))
    (ap (λ markers. option_map_or marker_log markers no_log) held) (ap (λ markers. option_map_or marker_log markers no_log) left)
    (ap (λ markers. option_map_or marker_tells markers false) held) (ap (λ markers. option_map_or marker_tells markers false) left)
    (shows-taken marker_in (λ s. log_of s.channel) tells c.in-Some.markers.now.inner c.drop.new.self.inner c.args.index (is_some (marker_at c.in-Some.markers.now c.args.index)) refl c.in_ok-drop.ensures.ok c.in_ok-drop.ensures.events c.in_ok-drop.ensures.emission)
