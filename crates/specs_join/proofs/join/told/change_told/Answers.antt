use Rattle.std.proofs.Common.{◌≡◌, ◌+◌, ◌/◌, ◌&&◌, ℕ, Bool, false, length, map, refl, arith, Result, Ok, Err, OnOk, is_err, sym, ap, ◌∙◌}
use Rattle.std.proofs.lemmas.Bool.{true≢false}
use Rattle.hibitset_sets.specs.BitSet.{has_member}
use Rattle.hibitset_sets.specs.Walk.{walk}
use Rattle.specs_layouts.specs.Channels.{log_of, with_more}
use Rattle.specs_layouts.specs.declared.track.ComponentEvent.TheVariants as event
use Rattle.specs_join.specs.ChangeEach.{shared_indices}
use Rattle.specs_join.proofs.WholeLemmas.{in-range, groups-ready, ends-ok, ends-same, ends-memory, ends-refused, ends-below, ends-shown, told-all, told-shared}
use Rattle.specs_join.proofs.join.told.change_told.Goals as goal

always : {T E : Type 0} (result : Result T E) (P : Type 0) → P → OnOk result P
always (Ok value) P holds = holds
always (Err error) P holds = tt

-- what an answer that is no error says
when-ok : {T E : Type 0} (result : Result T E) (P : Type 0) → is_err result ≡ false → OnOk result P → P
when-ok (Ok value) P ok holds = holds
when-ok (Err error) P ok holds = absurd (true≢false ok)

pub change_set-requires-clause-ready : goal.change_set-requires-clause-ready
change_set-requires-clause-ready g c =
    let layout = g.L.UnprotectedStorage in
    groups-ready layout.part_at layout.events layout.emits (g.C.Change.changed c.args.change.now) (g.R.Join.value_at c.open-beside.result.1)
    (g.R.Join.joins c.args.read) (has_member c.args.mask.now) (g.R.Mask.BitSetLike.members c.open-beside.result.0)
    ((length c.layer0_as_slice-words.result.now + 63) / 64) c.args.parts.now c.requires
    (in-range (has_member c.args.mask.now) (length c.layer0_as_slice-words.result.now) c.args.mask.now.room c.layer0_as_slice-words.ensures.within
    c.layer0_as_slice-words.ensures.room c.layer0_as_slice-words.ensures.limit) c.open-beside.ensures.mask c.open-beside.ensures.values

pub returns-clause-ok : goal.returns-clause-ok
returns-clause-ok g c =
    let layout = g.L.UnprotectedStorage in
    ends-ok layout.part_at layout.events layout.emits (g.C.Change.changed c.args.change.now) (g.R.Join.value_at c.open-beside.result.1)
    (g.R.Join.joins c.args.read) (has_member c.args.mask.now) (g.R.Mask.BitSetLike.members c.open-beside.result.0)
    ((length c.layer0_as_slice-words.result.now + 63) / 64) c.args.parts.now c.requires
    (in-range (has_member c.args.mask.now) (length c.layer0_as_slice-words.result.now) c.args.mask.now.room c.layer0_as_slice-words.ensures.within
    c.layer0_as_slice-words.ensures.room c.layer0_as_slice-words.ensures.limit) c.open-beside.ensures.mask c.open-beside.ensures.values c.change_set.result c.change_set.new.parts c.change_set.ensures.ends

pub returns-clause-same : goal.returns-clause-same
returns-clause-same g c =
    let layout = g.L.UnprotectedStorage in
    ends-same layout.part_at layout.events layout.emits (g.C.Change.changed c.args.change.now) (g.R.Join.value_at c.open-beside.result.1)
    (g.R.Join.joins c.args.read) (has_member c.args.mask.now) (g.R.Mask.BitSetLike.members c.open-beside.result.0)
    ((length c.layer0_as_slice-words.result.now + 63) / 64) c.args.parts.now c.requires
    (in-range (has_member c.args.mask.now) (length c.layer0_as_slice-words.result.now) c.args.mask.now.room c.layer0_as_slice-words.ensures.within
    c.layer0_as_slice-words.ensures.room c.layer0_as_slice-words.ensures.limit) c.open-beside.ensures.mask c.open-beside.ensures.values c.change_set.result c.change_set.new.parts c.change_set.ensures.ends

pub returns-clause-memory : goal.returns-clause-memory
returns-clause-memory g c =
    let layout = g.L.UnprotectedStorage in
    ends-memory layout.part_at layout.events layout.emits (g.C.Change.changed c.args.change.now) (g.R.Join.value_at c.open-beside.result.1)
    (g.R.Join.joins c.args.read) (has_member c.args.mask.now) (g.R.Mask.BitSetLike.members c.open-beside.result.0)
    ((length c.layer0_as_slice-words.result.now + 63) / 64) c.args.parts.now c.requires
    (in-range (has_member c.args.mask.now) (length c.layer0_as_slice-words.result.now) c.args.mask.now.room c.layer0_as_slice-words.ensures.within
    c.layer0_as_slice-words.ensures.room c.layer0_as_slice-words.ensures.limit) c.open-beside.ensures.mask c.open-beside.ensures.values c.change_set.result c.change_set.new.parts c.change_set.ensures.ends

pub returns-clause-refused : goal.returns-clause-refused
returns-clause-refused g c =
    let layout = g.L.UnprotectedStorage in
    ends-refused layout.part_at layout.events layout.emits (g.C.Change.changed c.args.change.now) (g.R.Join.value_at c.open-beside.result.1)
    (g.R.Join.joins c.args.read) (has_member c.args.mask.now) (g.R.Mask.BitSetLike.members c.open-beside.result.0)
    ((length c.layer0_as_slice-words.result.now + 63) / 64) c.args.parts.now c.requires
    (in-range (has_member c.args.mask.now) (length c.layer0_as_slice-words.result.now) c.args.mask.now.room c.layer0_as_slice-words.ensures.within
    c.layer0_as_slice-words.ensures.room c.layer0_as_slice-words.ensures.limit) c.open-beside.ensures.mask c.open-beside.ensures.values c.change_set.result c.change_set.new.parts c.change_set.ensures.ends

pub returns-clause-below : goal.returns-clause-below
returns-clause-below g c =
    let layout = g.L.UnprotectedStorage in
    ends-below layout.part_at layout.events layout.emits (g.C.Change.changed c.args.change.now) (g.R.Join.value_at c.open-beside.result.1)
    (g.R.Join.joins c.args.read) (has_member c.args.mask.now) (g.R.Mask.BitSetLike.members c.open-beside.result.0)
    ((length c.layer0_as_slice-words.result.now + 63) / 64) c.args.parts.now c.requires
    (in-range (has_member c.args.mask.now) (length c.layer0_as_slice-words.result.now) c.args.mask.now.room c.layer0_as_slice-words.ensures.within
    c.layer0_as_slice-words.ensures.room c.layer0_as_slice-words.ensures.limit) c.open-beside.ensures.mask c.open-beside.ensures.values c.change_set.result c.change_set.new.parts c.change_set.ensures.ends

pub returns-clause-events : goal.returns-clause-events
returns-clause-events g c =
    let layout = g.L.UnprotectedStorage in
    let log = log_of c.args.channel.now in
    let told = when-ok c.write_all.result _ (sym c.if-is_err.ensures.value) c.write_all.ensures.ok in
    let shared = told-shared layout.part_at layout.events layout.emits (g.C.Change.changed c.args.change.now) (g.R.Join.value_at c.open-beside.result.1)
    (g.R.Join.joins c.args.read) (has_member c.args.mask.now) (g.R.Mask.BitSetLike.members c.open-beside.result.0)
    ((length c.layer0_as_slice-words.result.now + 63) / 64) c.args.parts.now c.requires
    (in-range (has_member c.args.mask.now) (length c.layer0_as_slice-words.result.now) c.args.mask.now.room c.layer0_as_slice-words.ensures.within
    c.layer0_as_slice-words.ensures.room c.layer0_as_slice-words.ensures.limit) c.open-beside.ensures.mask c.open-beside.ensures.values in
    always c.change_set.result _
    (told ∙ ap (λ indices. with_more log (map event.Modified indices)) shared ∙ told-all log (shared_indices c.args.mask.now (g.R.Join.joins c.args.read)))

pub returns-clause-shows : goal.returns-clause-shows
returns-clause-shows g c =
    let layout = g.L.UnprotectedStorage in
    let has : ℕ → Bool = λ i. has_member c.args.mask.now i && g.R.Mask.BitSetLike.members c.open-beside.result.0 i in (
      map event.Modified (walk has),
      when-ok c.write_all.result _ (sym c.if-is_err.ensures.value) c.write_all.ensures.ok,
      ends-shown layout.part_at layout.events layout.emits (g.C.Change.changed c.args.change.now) (g.R.Join.value_at c.open-beside.result.1)
          (g.R.Join.joins c.args.read) (has_member c.args.mask.now) (g.R.Mask.BitSetLike.members c.open-beside.result.0)
          ((length c.layer0_as_slice-words.result.now + 63) / 64) c.args.parts.now c.requires
          (in-range (has_member c.args.mask.now) (length c.layer0_as_slice-words.result.now) c.args.mask.now.room c.layer0_as_slice-words.ensures.within
          c.layer0_as_slice-words.ensures.room c.layer0_as_slice-words.ensures.limit) c.open-beside.ensures.mask c.open-beside.ensures.values c.change_set.result c.change_set.new.parts c.change_set.ensures.ends,
    )

-- no part is changed where there is no memory for the events
pub returns-then-is_err-clause-memory : goal.returns-then-is_err-clause-memory
returns-then-is_err-clause-memory g c = (0, record { before = λ other below. absurd (omega (arith, below)); from = λ other low. refl; same = λ other. refl })
