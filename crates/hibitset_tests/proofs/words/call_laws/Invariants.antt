use Rattle.hibitset_tests.proofs.words.call_laws.Given as goal

abbrev pub ghosts-walk_with_a_ledger : goal.ghosts-walk_with_a_ledger
ghosts-walk_with_a_ledger a = record { name = a.blank.name; parts = a.blank.parts }
