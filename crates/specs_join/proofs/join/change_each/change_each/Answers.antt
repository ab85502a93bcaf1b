use Rattle.std.proofs.Common.{◌≡◌, ℕ, ◌<◌, List, ◌∷◌, length, Option, Some, is_some, IsSome, ◌&&◌, inl, inr, refl, sym, ap, subst, ◌∙◌, arith, rules}
use Rattle.std.specs.Option.{unwrap_or}
use Rattle.hibitset_sets.specs.BitSet.{has_member}
use Rattle.specs_join.specs.Cursors.{indices_left}
use Rattle.specs_layouts.specs.Parts.{Puts}
use Rattle.specs_layouts.specs.Shows.{Shows}
use Rattle.specs_layouts.specs.ToCome.{IsToCome}
use Rattle.specs_layouts.proofs.CallerLemmas.{shows-refl}
use Rattle.specs_join.proofs.NewLemmas.{walk-members}
use Rattle.std.proofs.lemmas.Bool.{and_parts}
use Rattle.specs_layouts.specs.Parts.{told}
use Rattle.specs_layouts.specs.declared.track.ComponentEvent.TheVariants as event
use Rattle.specs_join.specs.ChangeEach.{AreChangedBelow, IsRefused, told_each, shared_indices}
use Rattle.specs_join.proofs.WalkedLemmas.{walk-later}
use Rattle.specs_join.proofs.ChangeEachLemmas.{IsUnderWay, starts, steps, refuses, stops, put-same, shows-next}
use Rattle.specs_join.proofs.join.change_each.change_each.Given as given
use Rattle.specs_join.proofs.join.change_each.change_each.Goals as goal

pub loop-cursor-init : goal.loop-cursor-init
loop-cursor-init g c =
    let layout = g.T.Storage.UnprotectedStorage in
    let part_at = g.T.Storage.UnprotectedStorage.part_at in
    let joins = g.R.Join.joins c.args.read in
    let cursor = c.new-cursor.result in
    let new = c.new-cursor.ensures in
    let old = c.args.storage.now in
    record {
      same_reference = refl;
      ready = new.ready;
      values = λ index come. let has = walk-members (λ i. has_member old.mask i && is_some (joins i)) index (subst (IsToCome index) new.left come) in
          new.values index has.1 (and_parts (has_member old.mask index) (is_some (joins index)) has.0).1;
      emission = ap (λ m. g.T.Storage.UnprotectedStorage.emits m.inner) new.storage;
      events = ap (told_each (g.T.Storage.UnprotectedStorage.emits old.inner) (g.T.Storage.UnprotectedStorage.events cursor.storage.now.inner)) new.left ∙ ap (λ m. told_each (g.T.Storage.UnprotectedStorage.emits old.inner) (g.T.Storage.UnprotectedStorage.events m.inner) (shared_indices old.mask joins)) new.storage;
      shows = subst (λ m. Shows part_at layout.events layout.emits old.inner m.inner) (sym new.storage) (shows-refl part_at layout.events layout.emits old.inner);
      under = subst (λ m. IsUnderWay (g.C.Change.changed c.args.change.now) (part_at old.inner) joins (part_at m.inner) (indices_left g.R.Mask.BitSetLike.members cursor)) (sym new.storage)
          (starts (g.C.Change.changed c.args.change.now) (part_at old.inner) joins (has_member old.mask) _ c.mask-mask.ensures.agrees c.mask-mask.ensures.range new.left);
    }

pub advance-requires : goal.advance-requires
advance-requires g c = c.loop-cursor.invariant.ready

shorter : (left rest : List ℕ) (index : ℕ) → left ≡ index ∷ rest → length rest < length left
shorter left rest index is = subst (λ l. length rest < length l) (sym is) (omega arith)

pub loop-cursor-smaller : goal.loop-cursor-smaller
loop-cursor-smaller g c = let next = c.loop-cursor-test.ensures.some refl in shorter _ _ next.0 next.2

-- what was shown is shown with the part at the next index written, too
shows-there : (g : given.Over) → let layout = g.T.Storage.UnprotectedStorage in (old now : g.row.T-Storage.Denot) (at : Option ℕ) (index : ℕ) (part : g.row.T.Denot) → at ≡ Some index → IsSome (layout.part_at now index) → Shows layout.part_at layout.events layout.emits old now → Shows layout.part_at layout.events layout.emits old (layout.written now (unwrap_or at 0) part)
shows-there g old now at index part is there =
    let layout = g.T.Storage.UnprotectedStorage in
    let law = g.met.T.Storage.UnprotectedStorage in
    shows-next layout.part_at layout.events layout.emits layout.written law.written_puts law.written_tells law.written_emits old now (unwrap_or at 0) part
    (subst (λ i. IsSome (layout.part_at now i)) (sym (ap (λ o. unwrap_or o 0) is)) there)

pub loop-cursor-preserved : goal.loop-cursor-preserved
loop-cursor-preserved g c =
    let layout = g.T.Storage.UnprotectedStorage in
    let under = subst (λ m. IsUnderWay (g.C.Change.changed c.args.change.now) (g.T.Storage.UnprotectedStorage.part_at c.args.storage.now.inner) (g.R.Join.joins c.args.read) (g.T.Storage.UnprotectedStorage.part_at m.inner) (indices_left g.R.Mask.BitSetLike.members c.loop-cursor.cursor)) (sym c.advance.ensures.storage) c.loop-cursor.invariant.under in
    let part_at = g.T.Storage.UnprotectedStorage.part_at in
    let written = g.T.Storage.UnprotectedStorage.written in
    let joins = g.R.Join.joins c.args.read in
    let changed = g.C.Change.changed c.args.change.now in
    let invariant = c.loop-cursor.invariant in
    let moved = c.advance.ensures in
    let next = c.loop-cursor-test.ensures.some refl in
    let index = next.0 in
    let inner = c.advance.new.self.storage.now.inner in
    let emits = g.T.Storage.UnprotectedStorage.emits c.args.storage.now.inner in
    let part' = c.change.new.part in
    let come = subst (IsToCome index) (sym next.2) (inl refl) in
    let there = c.in-Ok.ensures.part index next.1.0 in
    let has = sym (invariant.values index come) ∙ (ap (λ v. g.R.Join.value_at v index) (sym moved.values) ∙ c.item-item.ensures index next.1.0) in
    let law = g.met.T.Storage.UnprotectedStorage.written_puts inner index part' (ap is_some there) in
    let puts = subst (λ i. Puts (part_at inner) index (Some part') (part_at (written inner i part'))) (sym (ap (λ o. unwrap_or o 0) next.1.0)) law in
    record {
      same_reference = moved.same_reference ∙ invariant.same_reference;
      ready = moved.ready;
      values = λ other later. ap (λ v. g.R.Join.value_at v other) moved.values ∙ invariant.values other (subst (IsToCome other) (sym next.2) (inr later));
      emission = g.met.T.Storage.UnprotectedStorage.written_emits inner (unwrap_or c.advance.new.self.index 0) part' ∙ (ap (λ m. g.T.Storage.UnprotectedStorage.emits m.inner) moved.storage ∙ invariant.emission);
      events =
          ap (λ events. told_each emits events (indices_left g.R.Mask.BitSetLike.members c.advance.new.self)) (g.met.T.Storage.UnprotectedStorage.written_tells inner (unwrap_or c.advance.new.self.index 0) part')
          ∙ (ap (λ e. told_each emits (told e (g.T.Storage.UnprotectedStorage.events inner) (event.Modified (unwrap_or c.advance.new.self.index 0))) (indices_left g.R.Mask.BitSetLike.members c.advance.new.self)) (ap (λ m. g.T.Storage.UnprotectedStorage.emits m.inner) moved.storage ∙ invariant.emission)
          ∙ (ap (λ i. told_each emits (told emits (g.T.Storage.UnprotectedStorage.events inner) (event.Modified i)) (indices_left g.R.Mask.BitSetLike.members c.advance.new.self)) (ap (λ o. unwrap_or o 0) next.1.0)
          ∙ (ap (told_each emits (g.T.Storage.UnprotectedStorage.events inner)) (sym next.2)
          ∙ (ap (λ m. told_each emits (g.T.Storage.UnprotectedStorage.events m.inner) (indices_left g.R.Mask.BitSetLike.members c.loop-cursor.cursor)) moved.storage ∙ invariant.events))));
      shows = shows-there g c.args.storage.now.inner inner c.advance.new.self.index index part' next.1.0 (ap is_some there) (subst (λ m. Shows part_at layout.events layout.emits c.args.storage.now.inner m.inner) (sym moved.storage) invariant.shows);
      under = steps changed (part_at c.args.storage.now.inner) joins (part_at inner) _ index _ _ next.2 (walk-later _ index _ next.2) under _ part' _ there has c.in_default.ensures.done puts;
    }

pub returns-in-Err-clause-memory : goal.returns-in-Err-clause-memory
returns-in-Err-clause-memory g c =
    let under = subst (λ m. IsUnderWay (g.C.Change.changed c.args.change.now) (g.T.Storage.UnprotectedStorage.part_at c.args.storage.now.inner) (g.R.Join.joins c.args.read) (g.T.Storage.UnprotectedStorage.part_at m.inner) (indices_left g.R.Mask.BitSetLike.members c.loop-cursor.cursor)) (sym c.advance.ensures.storage) c.loop-cursor.invariant.under in
    let part_at = g.T.Storage.UnprotectedStorage.part_at in
    let joins = g.R.Join.joins c.args.read in
    let changed = g.C.Change.changed c.args.change.now in
    let next = c.loop-cursor-test.ensures.some refl in
    let inner = c.advance.new.self.storage.now.inner in
    let same = c.advance.ensures.same_reference ∙ (c.loop-cursor.invariant.same_reference ∙ c.new-cursor.ensures.same_reference) in
    let told_so = c.drop-cursor-in-Err.ensures in
    let below = stops changed (part_at c.args.storage.now.inner) joins (part_at inner) (part_at inner) next.0 _ _ next.2 (walk-later _ next.0 _ next.2) under (λ other. refl) in
    (next.0, search (below, told_so, same, rules))

pub returns-in-Err-change-clause-refused : goal.returns-in-Err-change-clause-refused
returns-in-Err-change-clause-refused g c =
    let under = subst (λ m. IsUnderWay (g.C.Change.changed c.args.change.now) (g.T.Storage.UnprotectedStorage.part_at c.args.storage.now.inner) (g.R.Join.joins c.args.read) (g.T.Storage.UnprotectedStorage.part_at m.inner) (indices_left g.R.Mask.BitSetLike.members c.loop-cursor.cursor)) (sym c.advance.ensures.storage) c.loop-cursor.invariant.under in
    let part_at = g.T.Storage.UnprotectedStorage.part_at in
    let joins = g.R.Join.joins c.args.read in
    let changed = g.C.Change.changed c.args.change.now in
    let invariant = c.loop-cursor.invariant in
    let next = c.loop-cursor-test.ensures.some refl in
    let inner = c.advance.new.self.storage.now.inner in
    let come = subst (IsToCome next.0) (sym next.2) (inl refl) in
    let there = c.in-Ok.ensures.part next.0 next.1.0 in
    let has = sym (invariant.values next.0 come) ∙ (ap (λ v. g.R.Join.value_at v next.0) (sym c.advance.ensures.values) ∙ c.item-item.ensures next.0 next.1.0) in
    subst (IsRefused changed (part_at c.args.storage.now.inner) joins) (sym (ap (λ o. unwrap_or o 0) (sym c.index-index.ensures ∙ next.1.0)))
    (refuses changed (part_at c.args.storage.now.inner) joins (part_at inner) (part_at inner) next.0 _ _ next.2 (walk-later _ next.0 _ next.2) under _ _ there has c.in-Err-change.ensures.refused)

pub returns-in-Err-change-clause-below : goal.returns-in-Err-change-clause-below
returns-in-Err-change-clause-below g c =
    let under = subst (λ m. IsUnderWay (g.C.Change.changed c.args.change.now) (g.T.Storage.UnprotectedStorage.part_at c.args.storage.now.inner) (g.R.Join.joins c.args.read) (g.T.Storage.UnprotectedStorage.part_at m.inner) (indices_left g.R.Mask.BitSetLike.members c.loop-cursor.cursor)) (sym c.advance.ensures.storage) c.loop-cursor.invariant.under in
    let part_at = g.T.Storage.UnprotectedStorage.part_at in
    let written = g.T.Storage.UnprotectedStorage.written in
    let joins = g.R.Join.joins c.args.read in
    let changed = g.C.Change.changed c.args.change.now in
    let next = c.loop-cursor-test.ensures.some refl in
    let inner = c.advance.new.self.storage.now.inner in
    let part' = c.change.new.part in
    let there = c.in-Ok.ensures.part next.0 next.1.0 in
    let law = g.met.T.Storage.UnprotectedStorage.written_puts inner next.0 part' (ap is_some there) in
    let puts = subst (λ i. Puts (part_at inner) next.0 (Some part') (part_at (written inner i part'))) (sym (ap (λ o. unwrap_or o 0) next.1.0)) law in
    let stays = put-same (part_at inner) _ next.0 _ _ there puts c.in-Err-change.ensures.kept in
    let same = c.advance.ensures.same_reference ∙ (c.loop-cursor.invariant.same_reference ∙ c.new-cursor.ensures.same_reference) in
    let told_so = c.drop-cursor.ensures in
    let below = subst (λ i. AreChangedBelow changed (part_at c.args.storage.now.inner) joins i (part_at (written inner (unwrap_or c.advance.new.self.index 0) part'))) (sym (ap (λ o. unwrap_or o 0) (sym c.index-index.ensures ∙ next.1.0)))
    (stops changed (part_at c.args.storage.now.inner) joins (part_at inner) _ next.0 _ _ next.2 (walk-later _ next.0 _ next.2) under stays) in
    search (below, told_so, same, rules)

pub returns-in-Err-change-clause-shows : goal.returns-in-Err-change-clause-shows
returns-in-Err-change-clause-shows g c =
    let layout = g.T.Storage.UnprotectedStorage in
    let next = c.loop-cursor-test.ensures.some refl in
    let inner = c.advance.new.self.storage.now.inner in
    let there = c.in-Ok.ensures.part next.0 next.1.0 in
    let same = c.advance.ensures.same_reference ∙ (c.loop-cursor.invariant.same_reference ∙ c.new-cursor.ensures.same_reference) in
    let told_so = c.drop-cursor.ensures in
    let shown =
    shows-there g c.args.storage.now.inner inner c.advance.new.self.index next.0 c.change.new.part next.1.0 (ap is_some there)
    (subst (λ m. Shows layout.part_at layout.events layout.emits c.args.storage.now.inner m.inner) (sym c.advance.ensures.storage) c.loop-cursor.invariant.shows) in
    search (shown, told_so, same, rules)
