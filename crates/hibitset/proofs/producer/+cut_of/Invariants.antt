use Rattle.hibitset.proofs.producer.+cut_of.Given as goal

abbrev pub decreases-cut_of : goal.decreases-cut_of
decreases-cut_of g l = l.layer
