use Rattle.shred_world.proofs.CallerLemmas.{reads_on}
use Rattle.shred_tests.proofs.bundles.count_under.Goals as goal

pub get_under-requires : goal.get_under-requires
get_under-requires c = record { there = reads_on _ _ _ c.args.access.id c.in_ok-read.ensures.ok c.in_ok-read.ensures.fits }
