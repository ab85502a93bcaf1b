use Rattle.std.proofs.Common.{◌≡◌, ◌<◌, None, ap, ◌∙◌, option_map}
use Rattle.scene_world.specs.Places.{kinds_of}
use Rattle.scene_world.specs.Putting.{each_there}
use Rattle.scene_commands.specs.Acts.{seen_of}
use Rattle.scene.specs.Rows.{seat_at, datum_at}
use Rattle.scene.specs.Taken.{part_at}
use Rattle.scene.proofs.KeepLemmas.{row-read}
use Rattle.scene.proofs.EntryLemmas.{found-within, All-of}
use Rattle.scene.proofs.keeping.write_row.Goals as goal

pub write_found-requires-clause-within : goal.write_found-requires-clause-within
write_found-requires-clause-within g c =
    found-within (kinds_of g.R.Value.SceneValue.places g.R.DocumentRules.part_of g.R.WorldRules.columns) g.R.DocumentRules.part_of (seen_of c.args.world.now) c.args.kind.now c.args.indices.now c.in_ok-found.found.items c.in_ok-found.ensures c.requires.indices (λ index. index < c.args.count) c.requires.within

pub write_found-requires-clause-free : goal.write_found-requires-clause-free
write_found-requires-clause-free g c = All-of (λ one. seat_at c.args.kept.now one.0 ≡ None) (each_there (λ one. one) c.in_ok-found.found.items) (λ one. c.requires.free one.0)

pub returns-clause-row : goal.returns-clause-row
returns-clause-row g c index =
    ap (option_map g.R.DocumentRules.part_of) (c.write_found.ensures.row index)
    ∙ row-read (λ at. part_at (kinds_of g.R.Value.SceneValue.places g.R.DocumentRules.part_of g.R.WorldRules.columns) (seen_of c.args.world.now) at c.args.kind.now) g.R.DocumentRules.part_of c.in_ok-found.found.items c.args.indices.now (datum_at c.args.kept.now c.args.place)
    c.in_ok-found.ensures c.requires.indices index (c.requires.bare index) (c.requires.all index)

pub returns-clause-seats : goal.returns-clause-seats
returns-clause-seats g c index = c.write_found.ensures.seats index ∙ c.requires.free index
