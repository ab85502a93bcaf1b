use Rattle.shred_world.specs.ResourceIds.{id_of}
use Rattle.shred_world.proofs.CallerLemmas.{reads_on}
use Rattle.shred_tests.proofs.bundles.hasten.Goals as goal

pub get-requires : goal.get-requires
get-requires c = record { there = reads_on _ _ _ (id_of 2 0) c.in_ok-number.ensures.ok c.in_ok-number.ensures.fits.1 }
