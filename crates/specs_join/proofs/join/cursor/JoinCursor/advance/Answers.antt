use Rattle.std.proofs.Common.{◌≡◌, [], ◌∷◌, MatchOption, sym, ap, ◌∙◌}
use Rattle.hibitset_sets.specs.BitSet.{SetWithRoom}
use Rattle.specs_join.specs.Steps.{still_shared}
use Rattle.specs_join.proofs.CursorLemmas.{next-known, next-some, moved-item}
use Rattle.specs_join.proofs.join.cursor.JoinCursor.advance.Given as given
use Rattle.specs_join.proofs.join.cursor.JoinCursor.advance.Goals as goal

-- the step, over the cursor's own mask
step : (g : given.Over) (c : goal.After-is_some g) → let left = still_shared g.R.Mask.BitSetLike.members c.args.self.now.storage.now.mask c.args.self.now.mask in MatchOption c.step-next.result ((left c.args.self.now.steps ≡ []) × (left c.step-next.new.self ≡ [])) (λ x. left c.args.self.now.steps ≡ x ∷ left c.step-next.new.self)
step g c =
    let members = g.R.Mask.BitSetLike.members in
    let mask = c.args.self.now.mask in
    moved-item c.step-next.result _ _ _ _
    (ap (λ (parts : SetWithRoom). still_shared members parts mask c.args.self.now.steps) (sym c.mask.ensures.value))
    (ap (λ (parts : SetWithRoom). still_shared members parts mask c.step-next.new.self) (sym c.mask.ensures.value))
    c.step-next.ensures

pub returns-clause-ready : goal.returns-clause-ready
returns-clause-ready g c = next-known g.R.Join.value_at c.args.self.now.storage.now.mask c.args.self.now.values _ c.requires _ c.step-next.result (step g c)

pub returns-clause-some : goal.returns-clause-some
returns-clause-some g c = λ there. next-some g.R.Join.value_at c.args.self.now.storage.now.mask c.args.self.now.values _ c.requires _ c.step-next.result (step g c) (sym c.is_some.ensures ∙ there)
