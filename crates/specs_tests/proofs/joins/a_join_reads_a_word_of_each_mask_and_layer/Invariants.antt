use Rattle.specs_tests.proofs.joins.a_join_reads_a_word_of_each_mask_and_layer.Given as goal

abbrev pub ghosts-count : goal.ghosts-count
ghosts-count g a = record { name = a.blank.name; parts = a.blank.parts }
