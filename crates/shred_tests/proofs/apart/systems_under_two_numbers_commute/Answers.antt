use Rattle.shred_tests.proofs.apart.systems_under_two_numbers_commute.Goals as goal

pub returns : goal.returns
returns g c number another one other before between after stop stop_other differ under under_other apart turn turn_other =
    c.systems_apart_commute.ensures.turns one other before between after stop stop_other apart (c.different_numbers_do_not_conflict.ensures number another one other differ under under_other) turn turn_other
