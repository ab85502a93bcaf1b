use Rattle.hibitset.proofs.par_iter.+cut_parts.Given as goal

abbrev pub decreases-cut_parts : goal.decreases-cut_parts
decreases-cut_parts g l = l.most
