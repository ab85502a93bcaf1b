use Rattle.shred.proofs.NumberLemmas.{numbers-apart}
use Rattle.shred.proofs.laws.different_numbers_do_not_conflict.Goals as goal

pub returns : goal.returns
returns c number another one other differ = numbers-apart number another one other differ
