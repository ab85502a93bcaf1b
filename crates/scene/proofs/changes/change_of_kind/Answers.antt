use Rattle.std.proofs.Common.{◌≡◌, ◌<◌, ℕ, Bool, true, ◌||◌, nat_lt, refl, ap, sym, subst, ◌∙◌, arith}
use Rattle.std.proofs.Math.Path.{fun_ext}
use Rattle.hibitset_sets.specs.BitSet.{has_member}
use Rattle.hibitset_sets.specs.Walk.{walk}
use Rattle.scene_world.specs.Places.{kinds_of}
use Rattle.scene_world.specs.Standing.{events_in}
use Rattle.scene_commands.specs.Acts.{seen_of}
use Rattle.scene.specs.Keeping.{part_told}
use Rattle.scene.specs.Taken.{AreOfPairs, behind_themselves}
use Rattle.scene.proofs.StepLemmas.{told-below}
use Rattle.scene.proofs.LoopLemmas.{united-low, united-one, united-left, united-right}
use Rattle.scene.proofs.changes.change_of_kind.Goals as goal

pub returns-clause-change : goal.returns-clause-change
returns-clause-change g c =
    let told : has_member c.in_ok-told.told ≡ part_told (kinds_of g.R.Value.SceneValue.places g.R.DocumentRules.part_of g.R.WorldRules.columns) (seen_of c.args.world.now) c.args.kind.now c.args.reader.now = fun_ext c.in_ok-told.ensures in
    record {
      indices = c.in_ok-indices.ensures ∙ ap (λ (members : ℕ → Bool). behind_themselves (walk members)) told;
      found = subst (λ pairs. AreOfPairs (kinds_of g.R.Value.SceneValue.places g.R.DocumentRules.part_of g.R.WorldRules.columns) g.R.DocumentRules.part_of (seen_of c.args.world.now) c.args.kind.now pairs c.in_ok-found.found.items) c.deref.ensures.value c.in_ok-found.ensures;
    }

pub returns-clause-within : goal.returns-clause-within
returns-clause-within g c index member = united-low (nat_lt index 16777216) (has_member c.args.touched.now index || has_member c.in_ok-told.told index) (sym (c.in_ok-bitor_assign.ensures.ok index) ∙ member) index refl

pub returns-clause-only : goal.returns-clause-only
returns-clause-only g c index member =
    let told : has_member c.in_ok-told.told index ≡ part_told (kinds_of g.R.Value.SceneValue.places g.R.DocumentRules.part_of g.R.WorldRules.columns) (seen_of c.args.world.now) c.args.kind.now c.args.reader.now index = c.in_ok-told.ensures index in
    ap (λ b. has_member c.args.touched.now index || b) (sym told)
    ∙ united-one (nat_lt index 16777216) (has_member c.args.touched.now index || has_member c.in_ok-told.told index) (sym (c.in_ok-bitor_assign.ensures.ok index) ∙ member)

pub returns-clause-kept : goal.returns-clause-kept
returns-clause-kept g c index member =
    let low = c.requires.within index member in
    let under : nat_lt index 16777216 ≡ true = grind (arith, low) in
    c.in_ok-bitor_assign.ensures.ok index
    ∙ united-left (nat_lt index 16777216) (has_member c.args.touched.now index) (has_member c.in_ok-told.told index) under member

pub returns-clause-told : goal.returns-clause-told
returns-clause-told g c index one =
    let low : index < 16777216 = told-below (events_in (kinds_of g.R.Value.SceneValue.places g.R.DocumentRules.part_of g.R.WorldRules.columns) c.args.kind.now (seen_of c.args.world.now ((kinds_of g.R.Value.SceneValue.places g.R.DocumentRules.part_of g.R.WorldRules.columns).part_id c.args.kind.now))) c.args.reader.now index one in
    let under : nat_lt index 16777216 ≡ true = grind (arith, low) in
    c.in_ok-bitor_assign.ensures.ok index
    ∙ united-right (nat_lt index 16777216) (has_member c.args.touched.now index) (has_member c.in_ok-told.told index) under (c.in_ok-told.ensures index ∙ one)
