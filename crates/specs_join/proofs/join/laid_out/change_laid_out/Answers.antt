use Rattle.std.proofs.Common.{◌+◌, ◌/◌, length}
use Rattle.hibitset_sets.specs.BitSet.{has_member}
use Rattle.specs_join.proofs.WholeLemmas.{in-range, groups-ready, ends-ok, ends-told, ends-same, ends-memory, ends-quiet, ends-refused, ends-below}
use Rattle.specs_join.proofs.join.laid_out.change_laid_out.Goals as goal

pub change_set-requires-clause-ready : goal.change_set-requires-clause-ready
change_set-requires-clause-ready g c =
    let layout = g.L.UnprotectedStorage in
    groups-ready layout.part_at layout.events layout.emits (g.C.Change.changed c.args.change.now) (g.R.Join.value_at c.open-beside.result.1)
    (g.R.Join.joins c.args.read) (has_member c.args.mask.now) (g.R.Mask.BitSetLike.members c.open-beside.result.0)
    ((length c.layer0_as_slice-words.result.now + 63) / 64) c.args.parts.now c.requires
    (in-range (has_member c.args.mask.now) (length c.layer0_as_slice-words.result.now) c.args.mask.now.room c.layer0_as_slice-words.ensures.within
    c.layer0_as_slice-words.ensures.room c.layer0_as_slice-words.ensures.limit) c.open-beside.ensures.mask c.open-beside.ensures.values

pub returns-clause-ok : goal.returns-clause-ok
returns-clause-ok g c =
    let layout = g.L.UnprotectedStorage in
    ends-ok layout.part_at layout.events layout.emits (g.C.Change.changed c.args.change.now) (g.R.Join.value_at c.open-beside.result.1)
    (g.R.Join.joins c.args.read) (has_member c.args.mask.now) (g.R.Mask.BitSetLike.members c.open-beside.result.0)
    ((length c.layer0_as_slice-words.result.now + 63) / 64) c.args.parts.now c.requires
    (in-range (has_member c.args.mask.now) (length c.layer0_as_slice-words.result.now) c.args.mask.now.room c.layer0_as_slice-words.ensures.within
    c.layer0_as_slice-words.ensures.room c.layer0_as_slice-words.ensures.limit) c.open-beside.ensures.mask c.open-beside.ensures.values c.change_set.result c.change_set.new.parts c.change_set.ensures.ends

pub returns-clause-events : goal.returns-clause-events
returns-clause-events g c =
    let layout = g.L.UnprotectedStorage in
    ends-told layout.part_at layout.events layout.emits (g.C.Change.changed c.args.change.now) (g.R.Join.value_at c.open-beside.result.1)
    (g.R.Join.joins c.args.read) (has_member c.args.mask.now) (g.R.Mask.BitSetLike.members c.open-beside.result.0)
    ((length c.layer0_as_slice-words.result.now + 63) / 64) c.args.parts.now c.requires
    (in-range (has_member c.args.mask.now) (length c.layer0_as_slice-words.result.now) c.args.mask.now.room c.layer0_as_slice-words.ensures.within
    c.layer0_as_slice-words.ensures.room c.layer0_as_slice-words.ensures.limit) c.open-beside.ensures.mask c.open-beside.ensures.values c.change_set.result c.change_set.new.parts c.change_set.ensures.ends

pub returns-clause-succeeds : goal.returns-clause-succeeds
returns-clause-succeeds g c =
    let layout = g.L.UnprotectedStorage in
    ends-quiet layout.part_at layout.events layout.emits (g.C.Change.changed c.args.change.now) (g.R.Join.value_at c.open-beside.result.1)
    (g.R.Join.joins c.args.read) (has_member c.args.mask.now) (g.R.Mask.BitSetLike.members c.open-beside.result.0)
    ((length c.layer0_as_slice-words.result.now + 63) / 64) c.args.parts.now c.requires
    (in-range (has_member c.args.mask.now) (length c.layer0_as_slice-words.result.now) c.args.mask.now.room c.layer0_as_slice-words.ensures.within
    c.layer0_as_slice-words.ensures.room c.layer0_as_slice-words.ensures.limit) c.open-beside.ensures.mask c.open-beside.ensures.values c.change_set.result c.change_set.new.parts c.change_set.ensures.ends

pub returns-clause-same : goal.returns-clause-same
returns-clause-same g c =
    let layout = g.L.UnprotectedStorage in
    ends-same layout.part_at layout.events layout.emits (g.C.Change.changed c.args.change.now) (g.R.Join.value_at c.open-beside.result.1)
    (g.R.Join.joins c.args.read) (has_member c.args.mask.now) (g.R.Mask.BitSetLike.members c.open-beside.result.0)
    ((length c.layer0_as_slice-words.result.now + 63) / 64) c.args.parts.now c.requires
    (in-range (has_member c.args.mask.now) (length c.layer0_as_slice-words.result.now) c.args.mask.now.room c.layer0_as_slice-words.ensures.within
    c.layer0_as_slice-words.ensures.room c.layer0_as_slice-words.ensures.limit) c.open-beside.ensures.mask c.open-beside.ensures.values c.change_set.result c.change_set.new.parts c.change_set.ensures.ends

pub returns-clause-memory : goal.returns-clause-memory
returns-clause-memory g c =
    let layout = g.L.UnprotectedStorage in
    ends-memory layout.part_at layout.events layout.emits (g.C.Change.changed c.args.change.now) (g.R.Join.value_at c.open-beside.result.1)
    (g.R.Join.joins c.args.read) (has_member c.args.mask.now) (g.R.Mask.BitSetLike.members c.open-beside.result.0)
    ((length c.layer0_as_slice-words.result.now + 63) / 64) c.args.parts.now c.requires
    (in-range (has_member c.args.mask.now) (length c.layer0_as_slice-words.result.now) c.args.mask.now.room c.layer0_as_slice-words.ensures.within
    c.layer0_as_slice-words.ensures.room c.layer0_as_slice-words.ensures.limit) c.open-beside.ensures.mask c.open-beside.ensures.values c.change_set.result c.change_set.new.parts c.change_set.ensures.ends

pub returns-clause-refused : goal.returns-clause-refused
returns-clause-refused g c =
    let layout = g.L.UnprotectedStorage in
    ends-refused layout.part_at layout.events layout.emits (g.C.Change.changed c.args.change.now) (g.R.Join.value_at c.open-beside.result.1)
    (g.R.Join.joins c.args.read) (has_member c.args.mask.now) (g.R.Mask.BitSetLike.members c.open-beside.result.0)
    ((length c.layer0_as_slice-words.result.now + 63) / 64) c.args.parts.now c.requires
    (in-range (has_member c.args.mask.now) (length c.layer0_as_slice-words.result.now) c.args.mask.now.room c.layer0_as_slice-words.ensures.within
    c.layer0_as_slice-words.ensures.room c.layer0_as_slice-words.ensures.limit) c.open-beside.ensures.mask c.open-beside.ensures.values c.change_set.result c.change_set.new.parts c.change_set.ensures.ends

pub returns-clause-below : goal.returns-clause-below
returns-clause-below g c =
    let layout = g.L.UnprotectedStorage in
    ends-below layout.part_at layout.events layout.emits (g.C.Change.changed c.args.change.now) (g.R.Join.value_at c.open-beside.result.1)
    (g.R.Join.joins c.args.read) (has_member c.args.mask.now) (g.R.Mask.BitSetLike.members c.open-beside.result.0)
    ((length c.layer0_as_slice-words.result.now + 63) / 64) c.args.parts.now c.requires
    (in-range (has_member c.args.mask.now) (length c.layer0_as_slice-words.result.now) c.args.mask.now.room c.layer0_as_slice-words.ensures.within
    c.layer0_as_slice-words.ensures.room c.layer0_as_slice-words.ensures.limit) c.open-beside.ensures.mask c.open-beside.ensures.values c.change_set.result c.change_set.new.parts c.change_set.ensures.ends
